-- The Huffman text of a value in a buffer of four bytes for each of the value's.
use Rattle.std.proofs.Common.{◌≡◌, ℕ, ◌*◌, ◌≤◌, Bool, true, false, List, length, take, drop, length-append}
use Rattle.std.proofs.Common.{length-drop, arith, ◌++◌, ap, length-take-le}
use Rattle.std.proofs.lemmas.List.{take_at}
use Rattle.octets.specs.Bytes.{AreBytes}
use Rattle.octets.specs.Encodes.{cased, text_of}
use Rattle.octets_code.specs.Texts.{text, lower}
use Rattle.octets_code.proofs.Faults.{lengths_are_bounded}
use Rattle.octets_code.proofs.Lowering.{length-lower, lower_bytes}
use Rattle.octets_code.proofs.TextOf.{text_is_text}
use Rattle.octets_literal.specs.Literals.{AreData, BeginsLiteral}
use Rattle.octets_literal.proofs.CallerLemmas.{literal_within}
use Rattle.octets_literal.proofs.Written.{length-canon}
use Rattle.octets_literal.proofs.OneLiteral.{parts_of}
use Rattle.octets_tool.proofs.Fields.{whole_rest}

-- four bytes for each of a value's hold its text
pub text_of-fits_in : (to_lower : Bool) (v : List ℕ) (room : ℕ) → AreBytes v → room ≡ 4 * length v
    → length (text_of to_lower v) ≤ room
unfolding cased
text_of-fits_in true v room are e = omega (
  arith,
  (lengths_are_bounded (lower v) (text (lower v)) (lower_bytes v are) (text_is_text (lower v))).1,
  length-lower v,
)
text_of-fits_in false v room are e = omega (arith, (lengths_are_bounded v (text v) are (text_is_text v)).1)

-- the same of the list's own memory, cut to what was written
pub truncated : (l b rest w : List ℕ) (k n : ℕ) → b ≡ w ++ drop (length w) l → k ≡ length l → n ≡ length w
    → length w ≤ length l → take n (take k (b ++ rest)) ≡ w
truncated l b rest w k n written all e h = grind (arith, length-append, length-drop, take_at)

-- at a writer of a text
pub ruleset texts = (text_of-fits_in, truncated)

-- How long the value of a literal is.

value_of_data : (h : Bool) (d v : List ℕ) → AreBytes v → AreData h d v → 5 * length v ≤ 8 * length d
unfolding AreData
value_of_data true d v b e = (lengths_are_bounded v d b e).0
value_of_data false d v b e = omega (arith, ap length e)

-- the value of a literal has at most 1.6 times as many bytes as the list that begins with it
pub length-value : (l : List ℕ) (k : ℕ) (v : List ℕ) → BeginsLiteral l k v → 5 * length v ≤ 8 * length l
length-value l k v b = grind (arith, parts_of, literal_within, length-take-le, length-drop, value_of_data)

-- at what reads and writes a literal
pub ruleset literals = (length-value, length-canon, truncated, whole_rest)
