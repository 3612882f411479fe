-- The bits of a text in words of 64, with one bits past its end, and the bytes with whose codes a word
-- begins.
use Rattle.std.specs.Prelude.{◌≡◌, ℕ, zero, suc, ◌+◌, ◌-◌, ◌*◌, ◌/◌, ◌%◌, ◌^◌, ◌<◌}
use Rattle.std.specs.Prelude.{◌≤◌, Bool, List, [], ◌∷◌, ◌++◌, length, take, drop, min}
use Rattle.octets_code.specs.Bits.{bits_of}
use Rattle.octets_code.specs.Codes.{code}
use Rattle.octets_code.specs.Looks.{BeginsWithCode}
use Rattle.octets_code.specs.Texts.{bits, codes, ones, AreBytes}

-- the bits of the text t, and after them 128 one bits, as many as two words have
unfoldable pub filled : List ℕ → List Bool
filled t = bits t ++ ones 128

-- the 64 bits of w are those from bit number at on
abbrev pub IsWindow : List ℕ → ℕ → ℕ → Type 0
IsWindow t at w = bits_of 64 w ≡ take 64 (drop at (filled t))

-- the first 57 bits of w are those that follow the window from bit number at on
abbrev pub IsBehind : List ℕ → ℕ → ℕ → Type 0
IsBehind t at w = take 57 (bits_of 64 w) ≡ take 57 (drop (at + 64) (filled t))

-- w ends with the last 64 bits of the text, or with all its bits if it has fewer
abbrev pub IsLast : List ℕ → ℕ → Type 0
IsLast t w = bits_of (min 64 (8 * length t)) w ≡ drop (8 * length t - min 64 (8 * length t)) (bits t)

-- the lowest n bytes of x, the lowest first
unfoldable pub low_bytes : ℕ → ℕ → List ℕ
low_bytes zero x = []
low_bytes (suc n) x = x % 256 ∷ low_bytes n (x / 256)

-- The bits x begin with the codes of the first sums / 64 of these bytes, which have sums % 64 bits. They
-- were found by k lookups. After them come the first bits of rest.
pub record IsSeen (x : List Bool) (k rest sums bytes : ℕ) : Type 0 where
  pub few : sums / 64 ≤ 2 * k
  pub short : sums % 64 ≤ 12 * k
  pub small : bytes < 2 ^ (8 * (sums / 64))
  pub len : length (codes (low_bytes (sums / 64) bytes)) ≡ sums % 64
  pub parts : x ≡ codes (low_bytes (sums / 64) bytes) ++ take (64 - sums % 64) (bits_of 64 rest)

-- the bits x begin with the codes of the first count of these bytes, which have len bits
pub record IsGroup (x : List Bool) (len count bytes : ℕ) : Type 0 where
  pub few : count ≤ 8
  pub short : len ≤ 48
  pub same : length (codes (low_bytes count bytes)) ≡ len
  pub rest : List Bool
  pub parts : x ≡ codes (low_bytes count bytes) ++ rest

-- The bits x, followed by one bits, begin with the codes of v, which k lookups found. The codes have at bits, and v has
-- count bytes. Then follow the bits of inverse, each inverted, and one bits.
pub record IsShown (x : List Bool) (k at count inverse : ℕ) (v : List ℕ) : Type 0 where
  pub few : count ≤ 2 * k
  pub short : at ≤ 12 * k
  pub bytes : AreBytes v
  pub len : length (codes v) ≡ at
  pub parts : x ++ ones 128 ≡ codes v ++ (bits_of 64 (18446744073709551615 - inverse) ++ ones (128 - at))

-- the first at bits of the text t are the codes of v
abbrev pub AreCut : List ℕ → ℕ → List ℕ → Type 0
AreCut t at v = take at (bits t) ≡ codes v

-- the bits x begin with the code of a byte, which has at most n bits
abbrev pub BeginsWithByte : List Bool → ℕ → Type 0
BeginsWithByte x n = (b : ℕ) × (b < 256) × (length (code b) ≤ n) × BeginsWithCode x b
