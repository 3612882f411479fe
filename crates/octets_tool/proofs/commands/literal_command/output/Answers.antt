-- The lines are formatted in memory for which this function asks. A read that failed for memory was refused memory.
use Rattle.std.proofs.Common.{rules}
use Rattle.octets.specs.Requests.{may_refuse}
use Rattle.octets_tool.proofs.Requests.{for_literal}
use Rattle.octets_tool.proofs.commands.literal_command.output.Goals as goal

pub returns-in_err-text-in-Err-Short : goal.returns-in_err-text-in-Err-Short
returns-in_err-text-in-Err-Short c = search (rules, may_refuse)

pub returns-in_err-text-in-Err-Length : goal.returns-in_err-text-in-Err-Length
returns-in_err-text-in-Err-Length c = search (rules, may_refuse)

pub returns-in_err-text-in-Err-Value : goal.returns-in_err-text-in-Err-Value
returns-in_err-text-in-Err-Value c = search (rules, may_refuse)

pub returns-in-Err-OutOfMemory : goal.returns-in-Err-OutOfMemory
returns-in-Err-OutOfMemory c =
    let failed = rw c.in-Err-OutOfMemory.field-0-is at c.in-Err-OutOfMemory.ensures in for_literal _ _ failed.refused
