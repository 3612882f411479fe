-- What can be observed between two moves of a cursor.
use Rattle.std.specs.Prelude.{◌≡◌, ℕ, List, MatchOption, IsSomeAnd}
use Rattle.std.specs.declared.option.Option.{Option}
use Rattle.octets.specs.declared.cursor.buffer.Bytes.{Ghosts}
use Rattle.octets.specs.declared.cursor.Cursor.{Cursor}
use Rattle.octets.specs.Cursor.{rest, IsUnchanged, Passes, Writes, IsViewOf}
use Rattle.octets.specs.Octets.{Octets}
use Rattle.octets.specs.Loans.{SliceCursor}
use Rattle.octets.specs.Varints.{marked_width, shortest, varint, BeginsVarint, HasNoVarint}
use Rattle.octets_vectors.specs.declared.laws.varints.ReadBack.{ReadBack}

-- `holds` is true of the cursor past its next n bytes
abbrev pub HoldsPast : {X : Type 0} {g : Ghosts X} → Cursor X g → ℕ → (Cursor X g → Type 0) → Type 0
HoldsPast {X} {g} old n holds = (past : Cursor X g) × Passes old past n × holds past

-- `holds` is true of a cursor at the start of the bytes b
abbrev pub HoldsOfView : List ℕ → (Octets → Type 0) → Type 0
HoldsOfView b holds = (view : Octets) × IsViewOf b view × holds view

-- the varint at the offset of a cursor is read and passed; or there is none, and the cursor is unchanged
abbrev pub IsVarintRead : SliceCursor → SliceCursor → Option ReadBack → Type 0
IsVarintRead old new r = MatchOption r (HasNoVarint (rest old) × IsUnchanged old new)
    (λ read. BeginsVarint (rest old) read.width read.value × Passes old new read.width)

-- The varint of n was written, and the cursor went back to its start, where the first byte names the width. The
-- caller's function got the cursor there. The varint at the offset where that function left the cursor is read. If
-- it left the remaining bytes unchanged, that is the number n in its least width. If it left the cursor unchanged,
-- the whole call wrote the varint and did nothing else.
pub record ReadsAgain (old new : SliceCursor) (n : ℕ) (meets : SliceCursor → SliceCursor → Type 0)
    (read : Option ReadBack) : Type 0 where
  pub past : SliceCursor
  pub back : SliceCursor
  pub left : SliceCursor
  pub writes : Writes old past (varint (shortest n) n)
  pub goes_back : Passes back past (shortest n)
  pub named : marked_width (rest back) ≡ shortest n
  pub met : meets back left
  pub is_read : IsVarintRead left new read
  pub reads_back : rest left ≡ rest back → IsSomeAnd read (λ r. (r.value ≡ n) × (r.width ≡ shortest n))
  pub writes_again : IsUnchanged back left → Writes old new (varint (shortest n) n)
