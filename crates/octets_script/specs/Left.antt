-- What a lent slice holds at the end of its loan.
use Rattle.std.specs.Prelude.{ℕ, List, ◌≡◌, ⊤}
use mathlib.Core.Logic.{◌⊎◌, inl, inr}
use Rattle.std.specs.Borrow.{MutBor}
use Rattle.std.specs.declared.result.Result.{Result}
use Rattle.std.specs.declared.result.Result.TheVariants.{Ok, Err}
use Rattle.octets.specs.Bytes.{over}
use Rattle.octets.specs.Slices.{reference}
use Rattle.octets.specs.Loans.{SliceCursor}

-- the bytes w replace the first bytes that were lent
abbrev pub Left : {E Y Z : Type 0} → Result (MutBor (List ℕ)) E → (MutBor (List ℕ) × Y) ⊎ Z → List ℕ → Type 0
Left (Ok s) (inl f) w = f.0.now ≡ over s.now w
Left (Ok s) (inr g) w = ⊤
Left (Err e) g w = ⊤

-- the slice is the one of the view, and holds what f computes from the view
abbrev pub Hands : {E E' : Type 0} → Result SliceCursor E → Result (MutBor (List ℕ)) E'
    → (SliceCursor → List ℕ) → Type 0
Hands (Ok v) (Ok s) f = (s.ghost_name ≡ reference v) × (s.now ≡ f v)
Hands (Ok v) (Err e) f = ⊥
Hands (Err e) (Ok s) f = ⊥
Hands (Err e) (Err e') f = ⊤

-- nothing more was written
abbrev pub LeftSame : {E Y Z : Type 0} → Result (MutBor (List ℕ)) E → (MutBor (List ℕ) × Y) ⊎ Z → Type 0
LeftSame (Ok s) (inl f) = f.0.now ≡ s.now
LeftSame (Ok s) (inr g) = ⊤
LeftSame (Err e) g = ⊤

-- the slices are those of the two halves, and hold what f and g compute from them
abbrev pub HandsBoth : {E E' : Type 0} → Result (SliceCursor × SliceCursor) E
    → Result (MutBor (List ℕ) × MutBor (List ℕ)) E' → (SliceCursor → List ℕ) → (SliceCursor → List ℕ) → Type 0
HandsBoth (Ok v) (Ok s) f g = (s.0.ghost_name ≡ reference v.0) × (s.1.ghost_name ≡ reference v.1) × (s.0.now ≡ f v.0)
    × (s.1.now ≡ g v.1)
HandsBoth (Ok v) (Err e) f g = ⊥
HandsBoth (Err e) (Ok s) f g = ⊥
HandsBoth (Err e) (Err e') f g = ⊤
