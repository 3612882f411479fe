use Rattle.octets_code.proofs.Faults.{each_is_decided, answers_are_one, work_is_bounded}
use Rattle.octets_code.proofs.laws.answers_decided.Goals as goal

pub returns-clause-each : goal.returns-clause-each
returns-clause-each c = each_is_decided

pub returns-clause-one : goal.returns-clause-one
returns-clause-one c = answers_are_one

pub returns-clause-bounded : goal.returns-clause-bounded
returns-clause-bounded c = work_is_bounded
