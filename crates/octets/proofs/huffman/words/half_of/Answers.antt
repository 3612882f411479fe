use Rattle.std.proofs.Common.{ℕ, ◌≡◌, ◌<◌, get_or, ap, ◌∙◌, arith}
use Rattle.std.specs.Int.{from_le_bytes, from_be_bytes, w32}
use Rattle.std.proofs.lemmas.List.{take_all}
use Rattle.std.proofs.lemmas.Nat.{be_bytes_4, le_bytes_4}
use Rattle.octets.proofs.huffman.words.half_of.Goals as goal

pub returns-in-Some : goal.returns-in-Some
returns-in-Some c =
    let b = c.args.bytes.now in let below : (i : ℕ) → get_or b i 0 < 256 = λ i. let x = c.type_inv.bytes i in
    omega arith in
    let whole : c.in-Some.half.now ≡ b = c.in-Some.ensures.cases.same ∙ take_all 4 b (omega (arith, c.requires)) in
    let m = c.from_ne_bytes.ensures ∙ ap (from_le_bytes w32) whole in
    be_bytes_4 b _ c.requires below (c.from_be.ensures ∙ ap (from_be_bytes w32) (le_bytes_4 b _ c.requires below m))
