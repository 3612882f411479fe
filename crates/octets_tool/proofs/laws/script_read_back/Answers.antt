use Rattle.octets_tool.proofs.Decided.{script_or_fault}
use Rattle.octets_tool.proofs.ScriptLines.{scripts_are_one, script_has_no_fault, faults_are_one}
use Rattle.octets_tool.proofs.laws.script_read_back.Goals as goal

pub returns-clause-one_script : goal.returns-clause-one_script
returns-clause-one_script c = scripts_are_one

pub returns-clause-decided : goal.returns-clause-decided
returns-clause-decided c = script_or_fault

pub returns-clause-not_both : goal.returns-clause-not_both
returns-clause-not_both c = script_has_no_fault

pub returns-clause-one_fault : goal.returns-clause-one_fault
returns-clause-one_fault c = faults_are_one
