-- A cursor over a slice that was lent for writing.
use Rattle.std.specs.Prelude.{ℕ, List}
use Rattle.std.specs.Borrow.{MutBor}
use base.Fml.{GName}
use Rattle.octets.specs.declared.cursor.Cursor.{Cursor}
use Rattle.octets.specs.contracts.cursor.buffer.RefMutSliceU8Bytes.TheImpl.{ghosts}

-- the name of the caller's slice, which holds the bytes
abbrev pub reference : Cursor (MutBor (List ℕ)) ghosts → GName
reference c = c.buf.ghost_name
