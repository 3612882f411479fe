-- The code of a symbol (RFC 7541, Appendix B).
use Rattle.std.specs.Prelude.{◌≡◌, ℕ, ◌+◌, ◌==◌, nat_lt, Bool, List, [], ◌∷◌, length, if◌then◌else◌}
use Rattle.std.specs.List.{position_or_len}
use Rattle.octets_code.specs.Table.{Group, groups}
use Rattle.octets_code.specs.Bits.{bits_of}

-- the length of a code in bits, and its number
pub record Row : Type 0 where
  pub len : ℕ
  pub number : ℕ

-- the length and number of the code of s, in the first group that has the symbol s
unfoldable pub row_in : List Group → ℕ → Row
row_in [] s = record { len = 0; number = 0 }
row_in (g ∷ gs) s =
    let at = position_or_len (λ x. x == s) g.symbols in
    if nat_lt at (length g.symbols) then record { len = g.len; number = g.first + at } else row_in gs s

-- the length and number of the code of s; a symbol is a byte, or 256 for the end of a string
unfoldable pub row_of : ℕ → Row
row_of s = row_in groups s

-- the code of the symbol s
unfoldable pub code : ℕ → List Bool
code s = bits_of (row_of s).len (row_of s).number

-- the code of the symbol s is the number in len bits
abbrev pub HasCode : ℕ → ℕ → ℕ → Type 0
HasCode s len number = (len ≡ (row_of s).len) × (number ≡ (row_of s).number)
