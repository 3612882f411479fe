-- A code that was found is a group of one byte. If none was found, or one that is
-- longer than what is left, no code of a byte is complete within the bits that are left.
use Rattle.std.proofs.Common.{◌≡◌, length, arith, ◌∙◌}
use Rattle.octets_code.specs.Codes.{code}
use Rattle.octets_code.proofs.CodesLemmas.{length-code}
use Rattle.octets.proofs.lemmas.FirstCodes.{end_first, longer_first}
use Rattle.octets.proofs.lemmas.Groups.{one_group}
use Rattle.octets.proofs.huffman.decode.window_loop.one_at_start.Goals as goal

pub returns-clause-group : goal.returns-clause-group
returns-clause-group c =
    let f = c.in_ok-found.ensures in let k = c.in_ok-found.found in
    let long : c.from-len.result ≡ length (code k.byte) = c.from-len.ensures ∙ f.len in
    rw c.from.ensures (one_group _ f.code.0 k.byte c.from-len.result (omega arith) f.code.1 long
    (grind (arith, length-code)))

pub returns-clause-within : goal.returns-clause-within
returns-clause-within c = grind (arith, length-code)

pub returns-in_err-found-clause-none : goal.returns-in_err-found-clause-none
returns-in_err-found-clause-none c =
    rw c.from_residual.ensures (λ _. end_first _ c.args.left c.in_err-found.ensures.end)

pub returns-then-len-left-clause-none : goal.returns-then-len-left-clause-none
returns-then-len-left-clause-none c =
    λ _.
    let f = c.in_ok-found.ensures in
    longer_first _ c.in_ok-found.found.byte c.args.left (omega arith) f.code
    (omega arith)
