-- Numbers as lists of bits, the highest bit first.
use Rattle.std.specs.Prelude.{ℕ, zero, suc, ◌+◌, ◌*◌, ◌/◌, ◌%◌, ◌^◌, ◌==◌, Bool, List, [], ◌∷◌, length, if◌then◌else◌}

-- the lowest n bits of x
unfoldable pub bits_of : ℕ → ℕ → List Bool
bits_of zero x = []
bits_of (suc n) x = (x / 2 ^ n % 2 == 1) ∷ bits_of n x

-- the number that bits spell
unfoldable pub value_of : List Bool → ℕ
value_of [] = 0
value_of (b ∷ bs) = (if b then 1 else 0) * 2 ^ length bs + value_of bs
