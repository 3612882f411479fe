-- String literals (RFC 7541, section 5.2): a length with the flag H before it, and then the data.
use Rattle.std.specs.Prelude.{◌≡◌, ℕ, ◌≤◌, nat_lt, Bool, true, false, List, []}
use Rattle.std.specs.Prelude.{◌∷◌, ◌++◌, length, take, drop, if◌then◌else◌}
use Rattle.octets_code.specs.Texts.{AreBytes, IsText, text}
use Rattle.octets_literal.specs.Integers.{IsInteger, integer}

-- the flag H as bit 7 of the first byte
unfoldable pub flag : Bool → ℕ
flag huffman = if huffman then 1 else 0

-- The bytes b are the length of n data bytes, with the flag, within the limits of a reader: at most five bytes
-- follow the first, and n is at most 4294967295. Groups of zeros at the end are allowed.
pub record IsLength (huffman : Bool) (n : ℕ) (b : List ℕ) : Type 0 where
  pub is_integer : IsInteger 7 (flag huffman) n b
  pub few : length b ≤ 6
  pub small : n ≤ 4294967295

-- the data d are the Huffman text of the value v if the flag is set, and otherwise v itself
unfoldable pub AreData : Bool → List ℕ → List ℕ → Type 0
AreData true d v = IsText v d
AreData false d v = d ≡ v

-- b is a literal of the value v
pub record IsLiteral (b v : List ℕ) : Type 0 where
  pub huffman : Bool
  pub before : List ℕ
  pub content : List ℕ
  pub parts : b ≡ before ++ content
  pub bytes : AreBytes b
  pub value_bytes : AreBytes v
  pub is_length : IsLength huffman (length content) before
  pub are_data : AreData huffman content v

-- the first k bytes of l are a literal of the value v
unfoldable pub BeginsLiteral : List ℕ → ℕ → List ℕ → Type 0
BeginsLiteral l k v = (k ≤ length l) × IsLiteral (take k l) v

-- P holds of the length k and the value v of the literal with which l begins, if l begins with a literal
abbrev pub WhereLiteral : List ℕ → (ℕ → List ℕ → Type 0) → Type 0
WhereLiteral l P = (k : ℕ) (v : List ℕ) → BeginsLiteral l k v → P k v

-- l begins with literals of the values vs, one after another, and r is what follows them
unfoldable pub AreLiterals : List ℕ → List (List ℕ) → List ℕ → Type 0
AreLiterals l [] r = l ≡ r
AreLiterals l (v ∷ vs) r = (k : ℕ) × BeginsLiteral l k v × AreLiterals (drop k l) vs r

-- The literal that is written for v. Its data are the text of v if that is shorter than v, and otherwise v itself.
-- Its length is the shortest integer.
unfoldable pub canon : List ℕ → List ℕ
canon v =
    if nat_lt (length (text v)) (length v) then integer 7 (flag true) (length (text v)) ++ text v
    else integer 7 (flag false) (length v) ++ v
