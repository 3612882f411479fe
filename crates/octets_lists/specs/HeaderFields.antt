-- Header fields of HPACK whose name is in no table (RFC 7541, sections 6.2.1 to 6.2.3).
use Rattle.std.specs.Prelude.{◌≡◌, ◌≢◌, ℕ, ◌+◌, ◌<◌, ◌≤◌, List, ◌++◌, length, take, drop}
use Rattle.octets.specs.Bytes.{network, number}
use Rattle.octets_literal.specs.Faults.{IsRefused}
use Rattle.octets_literal.specs.Literals.{canon, BeginsLiteral}
use Rattle.octets_literal.specs.declared.error.LiteralError.{LiteralError}
use Rattle.octets_literal.specs.declared.error.LiteralError.TheVariants.{Short}
use Rattle.octets_lists.specs.declared.header_field.FieldError.{FieldError}
use Rattle.octets_lists.specs.declared.header_field.FieldError.TheVariants.{NotNew, Literal}
use Rattle.octets_lists.specs.declared.header_field.Indexing.{Indexing}
use Rattle.octets_lists.specs.declared.header_field.Indexing.TheVariants.{Incremental, Without, Never}

-- the first byte: it says how the field is indexed, and its index 0 says that a new name follows
unfoldable pub mark : Indexing → ℕ
mark Incremental = 64
mark Without = 0
mark Never = 16

-- l begins with the first byte of such a field
abbrev pub IsMarked : List ℕ → Indexing → Type 0
IsMarked l i = (1 ≤ length l) × (number (take 1 l) ≡ mark i)

-- a field as it is written: the first byte, and the literals of the name and of the value
abbrev pub header_field : Indexing → List ℕ → List ℕ → List ℕ
header_field i name value = network 1 (mark i) ++ (canon name ++ canon value)

-- the first n bytes of l are a field
pub record BeginsField (l : List ℕ) (i : Indexing) (name value : List ℕ) (n : ℕ) : Type 0 where
  pub name_width : ℕ
  pub value_width : ℕ
  pub is_marked : IsMarked l i
  pub is_name : BeginsLiteral (drop 1 l) name_width name
  pub is_value : BeginsLiteral (drop name_width (drop 1 l)) value_width value
  pub takes : n ≡ 1 + name_width + value_width

-- l doesn't begin with a field whose name and value have at most m bytes each, or an allocation failed for one. The
-- first part at fault begins at n.
pub data IsRefusedAt (l : List ℕ) (m : ℕ) : FieldError → ℕ → Type 0 where
  no_mark : length l < 1 → IsRefusedAt l m (Literal Short) 0
  no_new_name : 1 ≤ length l → ((i : Indexing) → number (take 1 l) ≢ mark i) → IsRefusedAt l m NotNew 0
  no_name : (i : Indexing) {e : LiteralError} → IsMarked l i → IsRefused (drop 1 l) m e → IsRefusedAt l m (Literal e) 1
  no_value : (i : Indexing) (k : ℕ) (name : List ℕ) {e : LiteralError} → IsMarked l i
      → BeginsLiteral (drop 1 l) k name → length name ≤ m
      → IsRefused (drop k (drop 1 l)) m e → IsRefusedAt l m (Literal e) (1 + k)
