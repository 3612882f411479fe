-- A cursor for reading, and the views that it lends.
use Rattle.std.specs.Prelude.{◌≡◌, ℕ, ◌+◌, ◌≤◌, ◌<◌, List, length}
use Rattle.std.specs.Borrow.{Bor}
use Rattle.octets.specs.Bytes.{part}
use Rattle.octets.specs.Cursor.{bytes, position, rest, Passes, IsUnchanged}
use Rattle.octets.specs.Varints.{BeginsVarint, HasNoVarint}
use Rattle.octets.specs.declared.cursor.Cursor.{Cursor}
use Rattle.octets.specs.contracts.cursor.buffer.RefSliceU8Bytes.TheImpl.{ghosts}

-- a cursor over a slice that is only read
abbrev pub Octets : Type 0
Octets = Cursor (Bor (List ℕ)) ghosts

-- l begins with a varint of `len` in `width` bytes, and v is a cursor over as many bytes after it
pub record ShowsPrefixed (l : List ℕ) (v : Octets) : Type 0 where
  pub width : ℕ
  pub len : ℕ
  pub begins : BeginsVarint l width len
  pub within : width + len ≤ length l
  pub is_view : (bytes v ≡ part l width len) × (position v ≡ 0)

-- the cursor was at such a varint and as many bytes, v is a cursor over these bytes, and the cursor is
-- now past them
pub record ReadsPrefixed (old new v : Octets) : Type 0 where
  pub width : ℕ
  pub len : ℕ
  pub begins : BeginsVarint (rest old) width len
  pub within : width + len ≤ length (rest old)
  pub is_view : (bytes v ≡ part (rest old) width len) × (position v ≡ 0)
  pub passes : Passes old new (width + len)

-- Either the varint is incomplete, and the cursor is unchanged; or fewer bytes follow the varint than it
-- says, and the cursor is past the varint.
pub data RefusesPrefixed (old new : Octets) : Type 0 where
  no_length : HasNoVarint (rest old) → IsUnchanged old new → RefusesPrefixed old new
  no_bytes : (width len : ℕ) → BeginsVarint (rest old) width len → length (rest old) < width + len
      → Passes old new width → RefusesPrefixed old new
