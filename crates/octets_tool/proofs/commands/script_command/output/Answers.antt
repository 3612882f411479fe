-- The calls of the script that was read, or the first line that breaks a rule.
use Rattle.std.proofs.Common.{codes, map, refl, inl, inr, ◌∙◌, rules}
use Rattle.octets.specs.Requests.{may_refuse}
use Rattle.octets_script.specs.Calls.{call_of}
use Rattle.octets_tool.specs.Scripts.{ScriptText}
use Rattle.octets_tool.proofs.OutputLaws.{refused_line}
use Rattle.octets_tool.proofs.Requests.{or_refused}
use Rattle.octets_tool.proofs.commands.script_command.output.Goals as goal

pub returns-in-Ok : goal.returns-in-Ok
returns-in-Ok c =
    let script = c.in-Ok.script in
    let s : ScriptText = record { buffer = script.buffer.items; commands = map call_of script.commands.items } in
    let is = (c.in-Ok.ensures.script s).0 refl in
    or_refused c.script_output.result _ _ (λ output h. inl (
      s,
      h.0,
      h.1,
      h.2,
      is,
      rw c.deref.ensures.value at h.3,
      h.4,
    )) c.script_output.ensures

pub returns-in_ok-text-in-Err-Line : goal.returns-in_ok-text-in-Err-Line
returns-in_ok-text-in-Err-Line c =
    let fault = rw c.in-Err-Line.field-0-is at c.in-Err-Line.ensures in
    let n = c.in-Err-Line.number in
    inr (
      n,
      (fault.line n).0 refl,
      c.refused.ensures
          ∙ refused_line (codes "refused at line ") _ n c.in_ok-text-in-Err-Line.ensures.ok,
    )

-- the line is formatted in memory for which this function asks
pub returns-in_err-text-in-Err-Line : goal.returns-in_err-text-in-Err-Line
returns-in_err-text-in-Err-Line c = search (rules, may_refuse)
