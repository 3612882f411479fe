-- What a read of the data of a literal finds.
use Rattle.std.specs.Prelude.{◌≡◌, ◌++◌, ◌⊎◌, ℕ, ◌+◌, ◌<◌, ◌≤◌, Bool, true, false, List, drop, length}
use Rattle.octets_code.specs.Texts.{AreBytes}
use Rattle.octets.specs.Bytes.{part}
use Rattle.octets.specs.Cursor.{rest, Passes}
use Rattle.octets.specs.Octets.{Octets}
use Rattle.octets.specs.Reading.{IsReadBefore}
use Rattle.octets.specs.Stops.{IsStoppedBy}
use Rattle.octets_literal.specs.Literals.{AreData, BeginsLiteral}
use Rattle.octets_literal.specs.Faults.{BeginsLength, EndsInLength, HasLongLength, LacksData, HaveNoValue, NeedMemory}
use Rattle.octets_literal.specs.declared.error.LiteralError.{LiteralError}
use Rattle.octets_literal.specs.declared.error.LiteralError.TheVariants.{Short, Length, Value, OutOfMemory}
use Rattle.octets_literal.specs.declared.error.ValueError.{ValueError}
use Rattle.octets_literal.specs.declared.error.ValueError.TheVariants.{Text, Long}

-- the first k bytes of l are a length and the data d after it
pub record BeginsData (l : List ℕ) (k : ℕ) (huffman : Bool) (d : List ℕ) : Type 0 where
  pub bytes : AreBytes l
  pub width : ℕ
  pub n : ℕ
  pub begins : BeginsLength l width huffman n
  pub whole : width + n ≡ k
  pub within : k ≤ length l
  pub content : d ≡ part l width n

-- l doesn't begin with a length and all its data, for the reason of this error
unfoldable pub HasNoData : List ℕ → LiteralError → Type 0
HasNoData l Short = EndsInLength l ⊎ LacksData l
HasNoData l Length = HasLongLength l
HasNoData l Value = ⊥
HasNoData l OutOfMemory = ⊥

-- the data d have the value v, within the limit m
pub record IsValue (huffman : Bool) (d : List ℕ) (m : ℕ) (v : List ℕ) : Type 0 where
  pub bytes : AreBytes v
  pub within : length v ≤ m
  pub are_data : AreData huffman d v

-- the data d have a value of n bytes that fits into l, and l became k, which begins with this value
abbrev pub WritesValue : Bool → List ℕ → List ℕ → List ℕ → ℕ → Type 0
WritesValue huffman d l k n = (v : List ℕ) × IsValue huffman d (length l) v × (length v ≡ n) × (k ≡ v ++ drop n l)

-- The remaining bytes begin with a literal of a value of n bytes, and the cursor has passed exactly this literal. The
-- list l became k, which begins with the value.
abbrev pub ReadsInto : Octets → Octets → List ℕ → List ℕ → ℕ → Type 0
ReadsInto old new l k n = (j : ℕ) × (v : List ℕ) × BeginsLiteral (rest old) j v × (length v ≡ n)
    × (k ≡ v ++ drop n l) × Passes old new j

-- the data have no value, for the reason of this error
unfoldable pub IsNoValue : Bool → List ℕ → ℕ → LiteralError → Type 0
IsNoValue huffman d m Short = ⊥
IsNoValue huffman d m Length = ⊥
IsNoValue huffman d m Value = HaveNoValue m huffman d
IsNoValue huffman d m OutOfMemory = NeedMemory m huffman d

-- What l becomes if the data d have no value that fits into l: l then begins with what was decoded of a Huffman
-- text. Data that are the value itself leave l unchanged.
unfoldable pub LeavesRead : Bool → List ℕ → List ℕ → List ℕ → Type 0
LeavesRead true d l n = (v : List ℕ) × IsReadBefore v d (length l) × (length v ≤ length l)
    × (n ≡ v ++ drop (length v) l)
LeavesRead false d l n = n ≡ l

-- For this fault the data d have no value that fits into l, and l became n. After a fault of a Huffman text, n
-- begins with what was decoded. Data that are the value itself, and longer than l, leave l unchanged.
unfoldable pub IsFaultOf : ValueError → Bool → List ℕ → List ℕ → List ℕ → Type 0
IsFaultOf (Text e) huffman d l n = (huffman ≡ true) × (v : List ℕ) × IsReadBefore v d (length l)
    × IsStoppedBy e v d (length l) × (n ≡ v ++ drop (length v) l)
IsFaultOf Long huffman d l n = (huffman ≡ false) × (length l < length d) × (n ≡ l)
