-- What becomes of a cursor when a loan of a range of its buffer ends.
use Rattle.std.specs.Prelude.{◌≡◌, ◌+◌, ◌≤◌, ℕ, List, [], ◌++◌, length, min}
use Rattle.std.specs.Borrow.{Lends, LendsIfOk, follows_if, name_if_ok, MutBor, Fml, RattleType, u8, Array}
use Rattle.std.specs.declared.result.Result.{Result}
use Rattle.std.specs.declared.result.Result.TheVariants.{Ok, Err}
use Rattle.std.proofs.Common.{arith}
use Rattle.std.specs.declared.option.Option.{Option as Pairs}
use Rattle.std.specs.declared.option.Option.TheVariants.{Some, None}
use mathlib.Core.Option.{Option, none, some}
use base.Fml.{GName}
use denote.Follow.{follows_both_if}
use denote.Slice.{MutSlice}
use mir.Syntax.{named}
use Rattle.octets.specs.Bytes.{splice}
use Rattle.octets.specs.declared.cursor.buffer.Bytes.{Ghosts}
use Rattle.octets.specs.declared.cursor.Cursor.{Cursor}
use Rattle.octets.specs.contracts.cursor.Cursor.{the_row}
use Rattle.octets.specs.contracts.cursor.buffer.RefMutSliceU8Bytes.TheImpl.{ghosts}
use Rattle.octets.specs.Cursor.{bytes, position}

-- the smaller of two numbers is at most the second
pub min_within : (o n : ℕ) → min o n ≤ n
min_within o n = omega arith

-- the cursor c with the bytes l in its buffer and the position o, or at the end if o is past the end
abbrev pub standing : {X : Type 0} {g : Ghosts X} → Cursor X g → List ℕ → ℕ → Cursor X g
standing {X} {g} c l o = record {
  buf = g.holding c.buf l;
  off = min o (length (g.bytes (g.holding c.buf l)));
  within = min_within o (length (g.bytes (g.holding c.buf l)));
}

module _ (B : RattleType) (g : Ghosts B.Denot) where
  -- The bytes from position i on are lent as the slice r. When the loan ends, the cursor holds what was
  -- last written into r at their place, and its position is o.
  abbrev pub LendsPart : MutBor (Cursor B.Denot g) → ℕ → ℕ → MutBor (List ℕ) → Fml
  LendsPart c i o r = Lends (the_row B g) (Array u8 0) c r (λ w. standing c.now (splice (bytes c.now) i w) o)

-- a cursor over a slice, as a type of values
abbrev pub SliceCursor : Type 0
SliceCursor = Cursor (MutBor (List ℕ)) ghosts

-- a cursor over a slice, as a type of Rust
abbrev pub Row : RattleType
Row = the_row (MutSlice (named 1) [] u8) ghosts

-- If r is Ok, the buffer holds the bytes l, and those from position i on are lent as the slice in r.
-- When the loan ends, the cursor holds l with what was last written into the slice at their place, and
-- its position is o. If r is an error, the cursor is unchanged.
abbrev pub LendsBytes : {E : Type 0} → MutBor SliceCursor → List ℕ → ℕ → ℕ → Result (MutBor (List ℕ)) E → Fml
LendsBytes c l i o r = LendsIfOk Row (Array u8 0) c r (λ w. standing c.now (splice l i w) o) c.now

-- If r is Ok, the n bytes b are written at the position and lent as the slice in r, and the cursor is
-- past them. If r is an error, the cursor is unchanged.
abbrev pub LendsPut : {E : Type 0} → MutBor SliceCursor → List ℕ → ℕ → Result (MutBor (List ℕ)) E → Fml
LendsPut c b n r = LendsBytes c (splice (bytes c.now) (position c.now) b) (position c.now) (position c.now + n) r

-- as LendsBytes, for bytes that are lent as a cursor
abbrev pub LendsView : {E : Type 0} → MutBor SliceCursor → List ℕ → ℕ → ℕ → Result SliceCursor E → Fml
LendsView c l i o r = follows_if Row (Array u8 0) c.ghost_name (name_if_ok (λ v. v.buf.ghost_name) r)
    (λ w. standing c.now (splice l i w) o) c.now

-- the names of the slices of both cursors, if there are two
abbrev pub two_names : {E : Type 0} → Result (SliceCursor × SliceCursor) E → Option (GName × GName)
two_names (Ok v) = some (v.0.buf.ghost_name, v.1.buf.ghost_name)
two_names (Err e) = none

-- If r is Ok, all bytes are lent as two cursors. When both loans end, the cursor holds what was left in
-- the first and then what was left in the second, and its position is unchanged. If r is an error, the
-- cursor is unchanged.
abbrev pub LendsHalves : {E : Type 0} → MutBor SliceCursor → Result (SliceCursor × SliceCursor) E → Fml
LendsHalves c r = follows_both_if Row (Array u8 0) (Array u8 0) c.ghost_name (two_names r)
    (λ v w. standing c.now (v ++ w) (position c.now)) c.now

-- the view is over the slice, at its start; or both results are errors
abbrev pub Viewed : {E E' : Type 0} → Result (MutBor (List ℕ)) E → Result SliceCursor E' → Type 0
Viewed (Ok s) (Ok v) = (v.buf.ghost_name ≡ s.ghost_name) × (v.buf.now ≡ s.now) × (v.off ≡ 0)
Viewed (Ok s) (Err e) = ⊥
Viewed (Err e) (Ok v) = ⊥
Viewed (Err e) (Err e') = Unit {0}

-- each of the two views is over its slice, at its start; or there are neither slices nor views
abbrev pub BothViewed : {E : Type 0} → Pairs (MutBor (List ℕ) × MutBor (List ℕ))
    → Result (SliceCursor × SliceCursor) E → Type 0
BothViewed (Some s) (Ok v) = (v.0.buf.ghost_name ≡ s.0.ghost_name) × (v.1.buf.ghost_name ≡ s.1.ghost_name)
    × (v.0.buf.now ≡ s.0.now) × (v.1.buf.now ≡ s.1.now) × (v.0.off ≡ 0) × (v.1.off ≡ 0)
BothViewed (Some s) (Err e) = ⊥
BothViewed None (Ok v) = ⊥
BothViewed None (Err e) = Unit {0}
