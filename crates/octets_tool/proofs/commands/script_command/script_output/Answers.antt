use Rattle.std.proofs.Common.{rules}
use Rattle.octets.specs.Requests.{may_refuse}
use Rattle.octets_tool.proofs.commands.script_command.script_output.Goals as goal

-- the line is formatted in memory for which this function asks
pub returns-in_err-text : goal.returns-in_err-text
returns-in_err-text c = search (rules, may_refuse)
