-- The line by its pieces: what `write!` joined is the line of the packet.
use Rattle.std.proofs.Common.{◌≡◌, ap, drop, ◌∙◌, append_assoc, rules}
use Rattle.octets.specs.Cursor.{bytes}
use Rattle.octets.specs.Requests.{may_refuse}
use Rattle.octets_tool.proofs.commands.packet_command.line_of.Goals as goal

pub returns-in_ok-text-in-Ok : goal.returns-in_ok-text-in-Ok
returns-in_ok-text-in-Ok c =
    let payload = c.in-Ok.packet.payload in
    let start = rw c.in-Ok.is at c.requires in
    let shows : c.as_ref.result.now ≡ bytes payload = c.as_ref.ensures ∙ ap (λ k. drop k (bytes payload)) start in
    let line = rw shows at c.in_ok-text-in-Ok.ensures.ok in
    c.answered.ensures ∙ rw (line, c.in-Ok.is) (simp append_assoc)

-- the line is formatted in memory for which this function asks
pub returns-in_err-text-in-Ok : goal.returns-in_err-text-in-Ok
returns-in_err-text-in-Ok c = search (rules, may_refuse)

pub returns-in_err-text-in-Err-Refused : goal.returns-in_err-text-in-Err-Refused
returns-in_err-text-in-Err-Refused c = search (rules, may_refuse)

pub returns-in_err-text-in-Err-Trailing : goal.returns-in_err-text-in-Err-Trailing
returns-in_err-text-in-Err-Trailing c = search (rules, may_refuse)
