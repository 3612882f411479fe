-- The greatest length of a literal that is written, and of a value that is read from one.
use Rattle.std.proofs.Common.{ℕ, ◌+◌, ◌*◌, ◌/◌, ◌≤◌, Bool, List, length, ap, ◌∙◌, arith, inl, inr, length-append}
use Rattle.std.proofs.lemmas.List.{length-take}
use Rattle.std.proofs.lemmas.Bool.{cases_lt}
use Rattle.octets_code.specs.Texts.{AreBytes, text}
use Rattle.octets_code.proofs.Faults.{lengths_are_bounded}
use Rattle.octets.specs.Encodes.{cased}
use Rattle.octets.proofs.lemmas.CasedCodes.{length-cased}
use Rattle.octets_literal.specs.Integers.{integer}
use Rattle.octets_literal.specs.Literals.{canon, flag, AreData, BeginsLiteral}
use Rattle.octets_literal.proofs.Written.{canon-text, canon-plain, length-shortest}
use Rattle.std.specs.Prelude.{true, false}

canon_most : (v : List ℕ) → length (canon v) ≤ length v + 6
canon_most v = elim (cases_lt (length (text v)) (length v)) [
  | inl less ↦ omega (
    arith,
    less,
    ap length (canon-text v less) ∙ length-append
        (integer 7 (flag true) (length (text v))) (text v),
    length-shortest (flag true) (length (text v)),
  )
  | inr more ↦ omega (
    arith,
    ap length (canon-plain v more)
        ∙ length-append (integer 7 (flag false) (length v)) v,
    length-shortest (flag false) (length v),
  )
]

pub literal_within : (to_lower : Bool) (v : List ℕ) → length (canon (cased to_lower v)) ≤ length v + 6
literal_within to_lower v = omega (arith, canon_most (cased to_lower v), length-cased to_lower v)

data_within : (huffman : Bool) (d v : List ℕ) → AreBytes v → AreData huffman d v → 5 * length v ≤ 8 * length d
unfolding AreData
data_within true d v bytes is_text = (lengths_are_bounded v d bytes is_text).0
data_within false d v bytes same = omega (arith, ap length same)

pub value_within : (l v : List ℕ) (k : ℕ) → BeginsLiteral l k v → length v ≤ 8 * length l / 5
unfolding BeginsLiteral
value_within l v k (within, is) = omega (
  arith,
  data_within is.huffman is.content v is.value_bytes is.are_data,
  ap length is.parts ∙ length-append is.before is.content,
  length-take k l,
)
