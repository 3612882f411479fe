-- A number of which only the lowest bytes are written, as a varint of that width begins.
use Rattle.std.specs.Prelude.{ℕ, ◌-◌, ◌*◌, ◌^◌, ◌%◌}
use Rattle.std.specs.Int.Bits.{bit_or}
use Rattle.octets.specs.Varints.{mark_of}

-- the lowest w bytes of n, with the mark of the width w over the top two bits
abbrev pub marked : ℕ → ℕ → ℕ
marked w n = bit_or (n % 2 ^ (8 * w)) (mark_of w * 2 ^ (8 * w - 2))
