-- Records of a kind, a length and a value, like the capabilities of a BGP speaker (RFC 5492, section 4).
use Rattle.std.specs.Prelude.{◌≡◌, ◌≢◌, ℕ, List, [], ◌∷◌, ◌++◌, length}
use Rattle.std.specs.List.{All}
use Rattle.octets.specs.Cursor.{bytes, position}
use Rattle.octets_lists.specs.declared.records.Record.{Record}

-- the kind and the value of a record
pub record Fields : Type 0 where
  pub kind : ℕ
  pub value : List ℕ

-- the fields of a record, with its value as a list of bytes
abbrev pub fields_of : Record → Fields
fields_of r = record { kind = r.kind; value = bytes r.value }

-- the cursor over the value is at the start of the value
abbrev pub IsUnread : Record → Type 0
IsUnread r = position r.value ≡ 0

-- a record as it is written: a kind and a length of one byte each, and the value
abbrev pub record_of : ℕ → List ℕ → List ℕ
record_of kind value = kind ∷ length value ∷ value

-- the bytes of a record
abbrev pub record_bytes : Fields → List ℕ
record_bytes f = record_of f.kind f.value

-- the bytes of records, one after the other
unfoldable pub records_bytes : List Fields → List ℕ
records_bytes [] = []
records_bytes (f ∷ fs) = record_bytes f ++ records_bytes fs

-- l isn't the bytes of any records
abbrev pub AreNoRecords : List ℕ → Type 0
AreNoRecords l = (fs : List Fields) → l ≢ records_bytes fs

-- l begins with records of other kinds, or with none, and `after` is what follows them
pub record BeginsOthers (kind : ℕ) (l after : List ℕ) : Type 0 where
  pub others : List Fields
  pub are_others : All (λ f. f.kind ≢ kind) others
  pub stand_there : l ≡ records_bytes others ++ after

-- l isn't empty, and doesn't begin with a record
abbrev pub BeginsNone : List ℕ → Type 0
BeginsNone l = (l ≢ []) × ((f : Fields) (after : List ℕ) → l ≢ record_bytes f ++ after)
