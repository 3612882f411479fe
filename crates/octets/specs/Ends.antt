-- What becomes of a cursor for writing when a view for reading of it ends.
use Rattle.std.specs.Prelude.{ℕ, ◌+◌, ◌<◌, ◌≤◌, take, length, ⊤, Result, OnOk, OnErr}
use Rattle.std.specs.Borrow.{MutBor, Fml, RattleType, follows_so}
use mathlib.Core.Option.{none}
use Rattle.octets.specs.Bytes.{number}
use Rattle.octets.specs.Varints.{BeginsVarint, HasNoVarint}
use Rattle.octets.specs.declared.cursor.buffer.Bytes.{Ghosts}
use Rattle.octets.specs.declared.cursor.Cursor.{Cursor}
use Rattle.octets.specs.contracts.cursor.Cursor.{the_row}
use Rattle.octets.specs.Cursor.{rest, Passes, IsUnchanged}

module _ {X : Type 0} {g : Ghosts X} where
  -- c is s past n bytes if r is Ok, and s unchanged if r is an error
  abbrev pub IsPast : {T E : Type 0} → Cursor X g → Result T E → ℕ → Cursor X g → Type 0
  IsPast s r n c = OnOk r (Passes s c n) × OnErr r (IsUnchanged s c)

  -- c is s past a number of w bytes and as many bytes as it says. If fewer bytes follow, c is s past the
  -- number. If the number is incomplete, c is s unchanged.
  abbrev pub IsPastPrefix : {T E : Type 0} → Cursor X g → Result T E → ℕ → Cursor X g → Type 0
  IsPastPrefix s r w c = OnOk r (Passes s c (w + number (take w (rest s))))
      × (w ≤ length (rest s) → OnErr r (Passes s c w)) × (length (rest s) < w → IsUnchanged s c)

  -- the same for a length that is a varint
  abbrev pub IsPastVarint : {T E : Type 0} → Cursor X g → Result T E → Cursor X g → Type 0
  IsPastVarint s r c =
      ((w n : ℕ) → BeginsVarint (rest s) w n → OnOk r (Passes s c (w + n)) × OnErr r (Passes s c w))
      × (HasNoVarint (rest s) → IsUnchanged s c)

module _ (B : RattleType) (g : Ghosts B.Denot) where
  -- when the loan ends, P holds of the cursor s
  abbrev pub EndsAs : MutBor (Cursor B.Denot g) → (Cursor B.Denot g → Type 0) → Fml
  EndsAs s P = follows_so (the_row B g) (the_row B g) s.ghost_name none (λ _ _. ⊤) P

  -- when the loan ends, the cursor s is unchanged
  abbrev pub EndsUnchanged : MutBor (Cursor B.Denot g) → Fml
  EndsUnchanged s = EndsAs s (IsUnchanged s.now)

  -- when the loan ends, s is past n bytes if r is Ok, and unchanged if r is an error
  abbrev pub EndsPast : {T E : Type 0} → MutBor (Cursor B.Denot g) → Result T E → ℕ → Fml
  EndsPast s r n = EndsAs s (IsPast s.now r n)

  -- when the loan ends, s is past a number of w bytes and as many bytes as it says, or as IsPastPrefix says
  abbrev pub EndsPastPrefix : {T E : Type 0} → MutBor (Cursor B.Denot g) → Result T E → ℕ → Fml
  EndsPastPrefix s r w = EndsAs s (IsPastPrefix s.now r w)

  -- the same for a length that is a varint
  abbrev pub EndsPastVarint : {T E : Type 0} → MutBor (Cursor B.Denot g) → Result T E → Fml
  EndsPastVarint s r = EndsAs s (IsPastVarint s.now r)
