-- Line by line: what was read is a script, and the rest is its remaining lines. The first line that breaks a rule
-- after them is the first of all lines that does.
use Rattle.std.proofs.Common.{◌≡◌, ◌≢◌, Ok, Err, ◌+◌, lit≤, ◌∷◌, [], ◌++◌, length}
use Rattle.std.proofs.Common.{map, refl, arith, append-nil, append_assoc, rules}
use Rattle.std.specs.Prelude.{vec_items}
use Rattle.std.proofs.lemmas.List.{length-map, map_push}
use Rattle.std.proofs.lemmas.List.Elements.{All-nil}
use Rattle.octets_tool.specs.Commands.{MayBeSpelled}
use Rattle.octets_script.specs.Calls.{call_of}
use Rattle.octets_tool.specs.Limits.{most_commands}
use Rattle.octets_tool.specs.Cuts.{parts_of}
use Rattle.octets_tool.specs.Scripts.{ScriptText}
use Rattle.octets_tool.proofs.Rows.{mapped_some}
use Rattle.octets_tool.proofs.ScriptLines.{script-lines_of, answered, fault_first, fault_behind, lines_more}
use Rattle.octets_tool.specs.declared.script.ScriptFault.TheVariants.{Line}
use Rattle.octets_tool.proofs.script.parse_script.Goals as goal

pub loop-rest-init : goal.loop-rest-init
loop-rest-init c =
    let is = (c.in_ok-buffer.ensures c.in-Some.buffer.items).0 (rw c.in-Some.is) in (
      c.cut.result.0.now ∷ [],
      rw c.new-commands.ensures.items (is, lit≤ tt, (All-nil MayBeSpelled, refl)),
      rw (← c.unended.ensures, c.cut.ensures.parts),
    )

-- the first line names no buffer
pub returns-in_default : goal.returns-in_default
returns-in_default c =
    let input = c.args.input.now in
    let is = fault_first input c.cut.result.0.now (parts_of 10 c.cut.result.1)
    (rw (← c.unended.ensures, c.cut.ensures.parts))
    (λ b is. (let there = mapped_some vec_items _ b ((c.in_ok-buffer.ensures b).1 is) in
    c.in_default.not-Some there.0 there.1)) in
    assumption (answered input (Err (Line 1)) is)

-- there is a line after the greatest number of lines
pub returns-then-len-eq-MOST_COMMANDS : goal.returns-then-len-eq-MOST_COMMANDS
returns-then-len-eq-MOST_COMMANDS c =
    let input = c.args.input.now in
    let read = c.loop-rest.invariant in
    let many = length-map c.loop-rest.commands.items call_of in
    assumption (answered input (Err (Line (c.len-number.result + 2))) (fault_behind input read.0 _
    c.cut-in-Some-rest.result.0.now (parts_of 10 c.cut-in-Some-rest.result.1) _ read.1
    (rw (read.2, c.in-Some-rest.is, c.cut-in-Some-rest.ensures.parts))
    (λ stands. omega (arith, stands.0, c.loop-rest.commands.ok.0, many))
    (omega (arith, c.loop-rest.commands.ok.0, many))))

-- a line after it is no command's
pub returns-in_default-2 : goal.returns-in_default-2
returns-in_default-2 c =
    let input = c.args.input.now in
    let read = c.loop-rest.invariant in
    assumption (answered input (Err (Line (c.len-number.result + 2))) (fault_behind input read.0 _
    c.cut-in-Some-rest.result.0.now (parts_of 10 c.cut-in-Some-rest.result.1) _ read.1
    (rw (read.2, c.in-Some-rest.is, c.cut-in-Some-rest.ensures.parts))
    (λ stands. (let there = mapped_some call_of _ stands.1.0 ((c.in_ok-command.ensures stands.1.0).1 stands.1.1) in
    c.in_default-2.not-Some there.0 there.1))
    (omega (arith, c.loop-rest.commands.ok.0, length-map c.loop-rest.commands.items call_of))))

pub loop-rest-preserved : goal.loop-rest-preserved
loop-rest-preserved c =
    let commands = c.loop-rest.commands.items in
    let d = c.in-Some-2.command in
    let pushed : c.push.new.list.items ≡ commands ++ d ∷ [] = search rules in
    let l = c.cut-in-Some-rest.result.0.now in
    let parts = parts_of 10 c.cut-in-Some-rest.result.1 in
    let ls = c.loop-rest.invariant.0 in
    let is = (c.in_ok-command.ensures (call_of d)).0 (rw c.in-Some-2.is) in
    let room : length (map call_of commands) ≢ most_commands =
    λ e. omega (arith, c.loop-rest.commands.ok.0, e, length-map commands call_of) in (
      ls ++ l ∷ [],
      rw (pushed, map_push call_of commands d) (lines_more ls _ l (call_of d) c.loop-rest.invariant.1 room is),
      rw (c.loop-rest.invariant.2, c.in-Some-rest.is, c.cut-in-Some-rest.ensures.parts, append_assoc ls (l ∷ []) parts),
    )

pub returns : goal.returns
returns c =
    let input = c.args.input.now in
    let read = c.loop-rest.invariant in
    let s : ScriptText =
    record { buffer = c.in-Some.buffer.items; commands = map call_of c.loop-rest.commands.items } in
    assumption (answered input (Ok s) (script-lines_of input s read.0 read.1
    (rw (read.2, c.in_default-rest.is, append-nil read.0))))
