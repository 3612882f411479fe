use Rattle.std.proofs.Common.{ℕ, ◌≡◌, ◌<◌, get_or, ap, ◌∙◌, arith}
use Rattle.std.specs.Int.{from_le_bytes, from_be_bytes, w64}
use Rattle.std.proofs.lemmas.List.{take_all}
use Rattle.std.proofs.lemmas.Nat.{be_bytes_8, le_bytes_8}
use Rattle.octets.proofs.huffman.words.word_of.Goals as goal

pub returns-in-Some : goal.returns-in-Some
returns-in-Some c =
    let b = c.args.bytes.now in let below : (i : ℕ) → get_or b i 0 < 256 = λ i. let x = c.type_inv.bytes i in
    omega arith in
    let whole : c.in-Some.word.now ≡ b = c.in-Some.ensures.cases.same ∙ take_all 8 b (omega (arith, c.requires)) in
    let m = c.from_ne_bytes.ensures ∙ ap (from_le_bytes w64) whole in
    be_bytes_8 b _ c.requires below (c.from_be.ensures ∙ ap (from_be_bytes w64) (le_bytes_8 b _ c.requires below m))
