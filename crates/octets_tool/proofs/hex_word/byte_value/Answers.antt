use Rattle.std.proofs.Common.{refl, arith}
use Rattle.octets_tool.proofs.HexWords.{two_digits}
use Rattle.octets_tool.proofs.hex_word.byte_value.Goals as goal

pub overflow_mul-result : goal.overflow_mul-result
overflow_mul-result c = omega (arith, (c.in_ok-digit_value.ensures _).0 refl)

pub overflow_add-result : goal.overflow_add-result
overflow_add-result c = omega (
  arith,
  (c.in_ok-digit_value.ensures _).0 refl,
  (c.in_ok-digit_value-2.ensures _).0 refl,
)

pub returns : goal.returns
returns c =
    let high = (c.in_ok-digit_value.ensures _).0 refl in
    let low = (c.in_ok-digit_value-2.ensures _).0 refl in
    two_digits _ _ _ _ high.0 low.0 high.1 low.1
