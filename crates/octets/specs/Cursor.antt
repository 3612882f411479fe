-- A cursor as a byte list with a position, for every kind of buffer.
use Rattle.std.specs.Prelude.{◌≡◌, ℕ, ◌+◌, ◌-◌, ◌≤◌, List, [], ◌++◌, take, drop, length}
use Rattle.octets.specs.Varints.{BeginsVarint, varint}
use Rattle.octets.specs.declared.cursor.buffer.Bytes.{Ghosts}
use Rattle.octets.specs.declared.cursor.Cursor.{Cursor}

-- all bytes of the buffer
abbrev pub bytes : {X : Type 0} {g : Ghosts X} → Cursor X g → List ℕ
bytes {X} {g} c = g.bytes c.buf

-- the offset of the cursor
abbrev pub position : {X : Type 0} {g : Ghosts X} → Cursor X g → ℕ
position c = c.off

-- the bytes from the position on
abbrev pub rest : {X : Type 0} {g : Ghosts X} → Cursor X g → List ℕ
rest c = drop (position c) (bytes c)

-- how many bytes remain
abbrev pub remaining : {X : Type 0} {g : Ghosts X} → Cursor X g → ℕ
remaining c = length (bytes c) - position c

-- the bytes before the position
abbrev pub passed : {X : Type 0} {g : Ghosts X} → Cursor X g → List ℕ
passed c = take (position c) (bytes c)

-- the buffer apart from the bytes in it
abbrev pub holder : {X : Type 0} {g : Ghosts X} → Cursor X g → X
holder {X} {g} c = g.holding c.buf []

-- the position and the buffer are unchanged, and the buffer has the same name
abbrev pub IsUnchanged : {X : Type 0} {g : Ghosts X} → Cursor X g → Cursor X g → Type 0
IsUnchanged old new = (position new ≡ position old) × (new.buf ≡ old.buf)

-- the position increased by n, and the buffer is unchanged; the bytes that remain are those that
-- remained, without the first n
abbrev pub Passes : {X : Type 0} {g : Ghosts X} → Cursor X g → Cursor X g → ℕ → Type 0
Passes old new n = (position new ≡ position old + n) × (new.buf ≡ old.buf) × (rest new ≡ drop n (rest old))

-- the position didn't decrease, and the buffer is unchanged and has the same name
abbrev pub Advances : {X : Type 0} {g : Ghosts X} → Cursor X g → Cursor X g → Type 0
Advances old new = (position old ≤ position new) × (new.buf ≡ old.buf)

-- the cursor was at the bytes b and is now past them; the buffer is unchanged and has the same name
unfoldable pub Reads : {X : Type 0} {g : Ghosts X} → Cursor X g → Cursor X g → List ℕ → Type 0
Reads old new b = (rest old ≡ b ++ rest new) × (position new ≡ position old + length b) × (new.buf ≡ old.buf)

-- the cursor was at a varint of n, in a width that holds n, and is now past it
unfoldable pub ReadsVarint : {X : Type 0} {g : Ghosts X} → Cursor X g → Cursor X g → ℕ → Type 0
ReadsVarint old new n = (w : ℕ) × BeginsVarint (rest old) w n × Reads old new (varint w n)

-- The bytes w replace as many bytes from the position on, and the cursor is now past them. All other
-- bytes are unchanged, and so is the buffer that holds them.
pub record Writes {X : Type 0} {g : Ghosts X} (old new : Cursor X g) (w : List ℕ) : Type 0 where
  pub past : position new ≡ position old + length w
  pub room : length (rest old) ≡ length w + length (rest new)
  pub before : passed new ≡ passed old ++ w
  pub after : rest new ≡ drop (length w) (rest old)
  pub same_holder : holder new ≡ holder old

-- The position didn't decrease, and all bytes before the old position are unchanged. The buffer is the
-- same one and has the same length.
pub record Keeps {X : Type 0} {g : Ghosts X} (old new : Cursor X g) : Type 0 where
  pub forward : position old ≤ position new
  pub before : take (position old) (bytes new) ≡ passed old
  pub same_length : length (bytes new) ≡ length (bytes old)
  pub same_holder : holder new ≡ holder old

-- c is a cursor at the start of the bytes b
abbrev pub IsViewOf : {X : Type 0} {g : Ghosts X} → List ℕ → Cursor X g → Type 0
IsViewOf b c = (bytes c ≡ b) × (position c ≡ 0)
