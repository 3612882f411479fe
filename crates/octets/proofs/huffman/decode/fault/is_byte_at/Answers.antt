-- The bits read since the start are the path of the state. The step that ends the loop says which code they begin.
use Rattle.std.proofs.lemmas.Grind.{common_steps}
use Rattle.std.proofs.Common.{◌++◌, ◌+◌, ◌*◌, drop, sym, subst, ◌∙◌, ap, arith, inl, inr, append_assoc, append-nil}
use Rattle.octets_code.specs.Codes.{code}
use Rattle.octets_code.specs.Texts.{bits, HasNoCode}
use Rattle.octets_code.proofs.TextLemmas.{open_no_code}
use Rattle.octets.proofs.lemmas.Stopping.{front_then, half_then, all_read, went_on}
use Rattle.octets.proofs.huffman.decode.fault.is_byte_at.Goals as goal

pub loop-half-init : goal.loop-half-init
loop-half-init c = grind (arith, front_then)

pub loop-half-preserved : goal.loop-half-preserved
loop-half-preserved c = grind (arith, common_steps, went_on, half_then)

pub returns-in-Byte-clause-yes : goal.returns-in-Byte-clause-yes
returns-in-Byte-clause-yes c =
    let i = c.loop-half.half in let m = c.in-Byte.ensures.moves in
    let rest = drop (4 * (i + 1)) (bits c.args.text.now) in λ _. (
      c.in-Byte.field-1,
      c.in-Byte.field-0 ++ rest,
      m.0,
      grind (arith, common_steps, went_on, half_then) ∙ ap (λ l. l ++ rest) m.1
          ∙ append_assoc _ c.in-Byte.field-0 rest,
    )

pub returns-in-End-clause-no : goal.returns-in-End-clause-no
returns-in-End-clause-no c =
    let i = c.loop-half.half in let m = c.in-End.ensures.moves in
    let rest = drop (4 * (i + 1)) (bits c.args.text.now) in
    λ _. inl (
      m.0 ++ rest,
      grind (arith, common_steps, half_then) ∙ ap (λ l. l ++ rest) m.1 ∙ append_assoc (code 256) m.0 rest,
    )

pub returns-clause-no : goal.returns-clause-no
returns-clause-no c =
    let end = all_read c.args.text.now _ (omega arith) in
    let all = c.loop-half.invariant.0 ∙ ap (λ l. c.loop-half.state ++ l) end ∙ append-nil c.loop-half.state in
    λ _. inr (subst HasNoCode (sym all) (open_no_code c.loop-half.state c.loop-half.invariant.1))
