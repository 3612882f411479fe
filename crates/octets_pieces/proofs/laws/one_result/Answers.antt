use Rattle.octets_pieces.proofs.OneResult.{failure_is_one, answer_is_one}
use Rattle.octets_pieces.proofs.laws.one_result.Goals as goal

pub returns-clause-failed : goal.returns-clause-failed
returns-clause-failed c = failure_is_one

pub returns-clause-value : goal.returns-clause-value
returns-clause-value c = answer_is_one
