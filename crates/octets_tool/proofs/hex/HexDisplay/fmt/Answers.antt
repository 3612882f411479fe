-- Each byte adds its two digits, which are ASCII.
use Rattle.std.proofs.Common.{◌≡◌, ℕ, ◌+◌, ◌<◌, ◌/◌, ◌%◌, List, [], ◌∷◌, ◌++◌, length, take, flat_map, get_or}
use Rattle.std.proofs.Common.{true, refl, sym, ap, ◌∙◌, arith}
use Rattle.std.proofs.Math.Seq.{take-suc}
use Rattle.std.proofs.Math.Utf8.{encode}
use Rattle.std.proofs.lemmas.Grind.{put_two}
use Rattle.std.proofs.lemmas.Str.{encode_ascii}
use Rattle.octets_tool.specs.Lines.{hex_digit, byte_digits}
use Rattle.octets_tool.proofs.HexWords.{flat_more}
use Rattle.octets_tool.proofs.hex.HexDisplay.fmt.Goals as goal

next_digits : (bytes : List ℕ) (i high low : ℕ) → i < length bytes → high < 128 → low < 128
    → high ≡ hex_digit (get_or bytes i 0 / 16) → low ≡ hex_digit (get_or bytes i 0 % 16)
    → flat_map byte_digits (take i bytes) ++ (encode high ++ encode low) ≡ flat_map byte_digits (take (i + 1) bytes)
next_digits bytes i high low below high_ascii low_ascii h l =
    let byte = get_or bytes i 0 in
    let front : take (i + 1) bytes ≡ take i bytes ++ byte ∷ [] = grind (arith, take-suc) in
    let digits : high ∷ low ∷ [] ≡ byte_digits byte = rw (h, l) in
    rw (encode_ascii high high_ascii, encode_ascii low low_ascii)
    (ap (λ d. flat_map byte_digits (take i bytes) ++ d) digits
    ∙ sym (ap (flat_map byte_digits) front ∙ flat_more byte_digits (take i bytes) byte))

pub loop-byte-preserved : goal.loop-byte-preserved
loop-byte-preserved g c = λ plain.
    let before = c.loop-byte.invariant plain in
    let wrote = c.in_ok-write.ensures.writes before.plain (refl {a = true}) in
    let high = c.digit-high.ensures in
    let low = c.digit-low.ensures in
    put_two _ _ _ _ _ _ _ before wrote
    (next_digits _ _ _ _ c.loop-byte-test.true high.ascii low.ascii high.digit low.digit)
