-- Texts, which are the Huffman encodings of byte strings (RFC 7541, section 5.2).
use Rattle.std.specs.Prelude.{◌≡◌, ◌≢◌, ℕ, ◌+◌, ◌<◌, ◌≤◌, nat_le, ◌&&◌, Bool, true}
use Rattle.std.specs.Prelude.{List, [], ◌∷◌, ◌++◌, map, replicate, if◌then◌else◌}
use Rattle.std.specs.List.{All}
use Rattle.octets_code.specs.Bits.{bits_of, value_of}
use Rattle.octets_code.specs.Codes.{code}

-- the bits of the bytes, the highest bit of each byte first
unfoldable pub bits : List ℕ → List Bool
bits [] = []
bits (b ∷ bs) = bits_of 8 b ++ bits bs

-- the codes of the symbols, one after the other
unfoldable pub codes : List ℕ → List Bool
codes [] = []
codes (s ∷ ss) = code s ++ codes ss

-- n one bits
abbrev pub ones : ℕ → List Bool
ones n = replicate n true

-- each number of t is a byte, which is below 256
abbrev pub AreBytes : List ℕ → Type 0
AreBytes t = All (λ b. b < 256) t

-- each number of s is a symbol: a byte, or 256 for the end code
abbrev pub AreSymbols : List ℕ → Type 0
AreSymbols s = All (λ c. c ≤ 256) s

-- t is a text of v: the codes of v, and then fewer than eight one bits
abbrev pub IsText : List ℕ → List ℕ → Type 0
IsText v t = AreBytes t × ((n : ℕ) × (n < 8) × (bits t ≡ codes v ++ ones n))

-- no code is a prefix of r
abbrev pub HasNoCode : List Bool → Type 0
HasNoCode r = (c : ℕ) → c ≤ 256 → (q : List Bool) → r ≢ code c ++ q

-- x is cut into the codes of the symbols s, which may contain 256, and the bits r
abbrev pub IsCut : List Bool → List ℕ → List Bool → Type 0
IsCut x s r = AreSymbols s × ((x ≡ codes s ++ r) × HasNoCode r)

-- the bits as bytes, the last of which is filled up with one bits
unfoldable pub bytes_of : List Bool → List ℕ
bytes_of [] = []
bytes_of (a ∷ []) = value_of (a ∷ ones 7) ∷ []
bytes_of (a ∷ b ∷ []) = value_of (a ∷ b ∷ ones 6) ∷ []
bytes_of (a ∷ b ∷ c ∷ []) = value_of (a ∷ b ∷ c ∷ ones 5) ∷ []
bytes_of (a ∷ b ∷ c ∷ d ∷ []) = value_of (a ∷ b ∷ c ∷ d ∷ ones 4) ∷ []
bytes_of (a ∷ b ∷ c ∷ d ∷ e ∷ []) = value_of (a ∷ b ∷ c ∷ d ∷ e ∷ ones 3) ∷ []
bytes_of (a ∷ b ∷ c ∷ d ∷ e ∷ f ∷ []) = value_of (a ∷ b ∷ c ∷ d ∷ e ∷ f ∷ ones 2) ∷ []
bytes_of (a ∷ b ∷ c ∷ d ∷ e ∷ f ∷ g ∷ []) = value_of (a ∷ b ∷ c ∷ d ∷ e ∷ f ∷ g ∷ ones 1) ∷ []
bytes_of (a ∷ b ∷ c ∷ d ∷ e ∷ f ∷ g ∷ h ∷ x) = value_of (a ∷ b ∷ c ∷ d ∷ e ∷ f ∷ g ∷ h ∷ []) ∷ bytes_of x

-- the text of v: if v is bytes, the only list t with IsText v t
unfoldable pub text : List ℕ → List ℕ
text v = bytes_of (codes v)

-- the lower-case letter for an upper-case letter of ASCII, and otherwise the byte itself
unfoldable pub lower_byte : ℕ → ℕ
lower_byte b = if nat_le 65 b && nat_le b 90 then b + 32 else b

-- v with 32 added to the bytes 65 to 90
unfoldable pub lower : List ℕ → List ℕ
lower v = map lower_byte v
