-- Why bytes don't begin with a literal of a value within a limit.
use Rattle.std.specs.Prelude.{◌≡◌, ◌⊎◌, ℕ, ◌+◌, ◌*◌, ◌%◌, ◌<◌, ◌≤◌, Bool, true, false, min}
use Rattle.std.specs.Prelude.{List, [], ◌∷◌, length, take, Result, MatchResult, Vec}
use Rattle.std.specs.List.{All}
use Rattle.octets_code.specs.Answers.{HasNoAnswer}
use Rattle.octets.specs.Bytes.{part}
use Rattle.octets.specs.Requests.{Refused}
use Rattle.octets_literal.specs.Integers.{BeginsInteger}
use Rattle.octets_literal.specs.Literals.{IsLength, AreLiterals}
use Rattle.octets_literal.specs.declared.error.LiteralError.{LiteralError}
use Rattle.octets_literal.specs.declared.error.LiteralError.TheVariants.{Short, Length, Value, OutOfMemory}

-- bit 7 of each byte is set
abbrev pub GoOn : List ℕ → Type 0
GoOn bs = All (λ b. 128 ≤ b) bs

-- l ends before the length with which it begins
pub data EndsInLength (l : List ℕ) : Type 0 where
  at_once : l ≡ [] → EndsInLength l
  behind_prefix : {first : ℕ} {more : List ℕ} → l ≡ first ∷ more → first % 128 ≡ 127 → length more < 5 → GoOn more
      → EndsInLength l

-- A reader doesn't take the length with which l begins: the fifth byte after the first says that another one
-- follows, or the length is complete and exceeds 4294967295.
pub data HasLongLength (l : List ℕ) : Type 0 where
  goes_on : {first : ℕ} {more : List ℕ} → l ≡ first ∷ more → first % 128 ≡ 127 → 5 ≤ length more → GoOn (take 5 more)
      → HasLongLength l
  exceeds : {k mark n : ℕ} → BeginsInteger l k 7 mark n → k ≤ 6 → 4294967295 < n → HasLongLength l

-- the first k bytes of l are the length of n data bytes
pub record BeginsLength (l : List ℕ) (k : ℕ) (huffman : Bool) (n : ℕ) : Type 0 where
  pub within : k ≤ length l
  pub is_length : IsLength huffman n (take k l)

-- l begins with a length, and has fewer data bytes after it than it says
pub record LacksData (l : List ℕ) : Type 0 where
  pub k : ℕ
  pub huffman : Bool
  pub n : ℕ
  pub begins : BeginsLength l k huffman n
  pub lacks : length l < k + n

-- l begins with a length and all its data, and P holds of the flag and the data
pub record HoldsData (l : List ℕ) (P : Bool → List ℕ → Type 0) : Type 0 where
  pub k : ℕ
  pub huffman : Bool
  pub n : ℕ
  pub begins : BeginsLength l k huffman n
  pub holds : k + n ≤ length l
  pub is_so : P huffman (part l k n)

-- the data have no value within the limit m
unfoldable pub HaveNoValue : ℕ → Bool → List ℕ → Type 0
HaveNoValue m true d = HasNoAnswer d m
HaveNoValue m false d = m < length d

-- memory is needed for the value of the data: there are data, and they may have a value within the limit. The
-- request for this memory was refused.
unfoldable pub NeedMemory : ℕ → Bool → List ℕ → Type 0
NeedMemory m true d = (0 < length d) × (0 < m) × Refused (min (2 * length d) m)
NeedMemory m false d = (0 < length d) × (length d ≤ m) × Refused (length d)

-- under the limit m a read of l fails with this error
unfoldable pub IsRefused : List ℕ → ℕ → LiteralError → Type 0
IsRefused l m Short = EndsInLength l ⊎ LacksData l
IsRefused l m Length = HasLongLength l
IsRefused l m Value = HoldsData l (HaveNoValue m)
IsRefused l m OutOfMemory = HoldsData l (NeedMemory m)

-- the read returned the value v, or failed with OutOfMemory
abbrev pub GivesString : {A : Type 0} → Result (Vec ℕ A) LiteralError → List ℕ → Type 0
GivesString r v = MatchResult r (λ w. w.items ≡ v) (λ e. e ≡ OutOfMemory)

-- l begins with literals of values within the limit m, and r follows them. Either r isn't empty, and a read of r
-- fails with the error; or the list couldn't grow for the last of these values, and the error is OutOfMemory: a request
-- for a list of so many values was refused.
pub record StopsAt (l r : List ℕ) (m : ℕ) (why : LiteralError) : Type 0 where
  pub values : List (List ℕ)
  pub read : AreLiterals l values r
  pub within : All (λ v. length v ≤ m) values
  pub refused : ((0 < length r) × IsRefused r m why)
      ⊎ ((why ≡ OutOfMemory) × (0 < length values) × Refused (length values))
