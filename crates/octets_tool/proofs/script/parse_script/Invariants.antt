use Rattle.std.proofs.Common.{◌≡◌, ℕ, List, map, ◌++◌}
use Rattle.octets_script.specs.Calls.{call_of}
use Rattle.octets_tool.specs.Cuts.{parts_of}
use Rattle.octets_tool.specs.Scripts.{ScriptText, lines_of}
use Rattle.octets_tool.proofs.Cutting.{left}
use Rattle.octets_tool.proofs.ScriptLines.{AreScriptLines}
use Rattle.octets_tool.proofs.script.parse_script.Given as goal

-- what was read is a script, and the rest its further lines
abbrev pub invariant-loop-rest : goal.invariant-loop-rest
invariant-loop-rest l =
    let s : ScriptText = record { buffer = l.buffer.items; commands = map call_of l.commands.items } in
    (ls : List (List ℕ)) × AreScriptLines ls s × (lines_of l.fn.input ≡ ls ++ parts_of 10 l.rest)

abbrev pub decreases-loop-rest : goal.decreases-loop-rest
decreases-loop-rest l = left l.rest
