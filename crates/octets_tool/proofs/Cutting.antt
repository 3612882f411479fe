-- Text cut at the first of its bytes that passes a test, and joined again.
use Rattle.std.proofs.Common.{◌≡◌, ℕ, suc, ◌+◌, ◌<◌, Bool, true, false, eqb, List, [], ◌∷◌, length, take, drop, Option}
use Rattle.std.proofs.Common.{Some, None, refl, arith}
use Rattle.std.specs.Borrow.{Bor}
use Rattle.std.specs.Option.{is_some}
use Rattle.octets_tool.specs.Cuts.{parts_of}
use Rattle.std.specs.List.{slice_split, position, All, join_with_byte}
use Rattle.std.proofs.lemmas.Bool.{cases_lt, lt-ltb, ltb-true}
use Rattle.std.proofs.lemmas.Option.{cond_some}
use Rattle.std.proofs.lemmas.List.Sums.{fails_before_first}
use Rattle.std.proofs.lemmas.List.Elements.{All-head, All-tail}
use Rattle.std.proofs.lemmas.List.Splits.{slice_split_first, slice_split_at, slice_split_none, length-slice_split}

-- at the first such byte, if there is one
pub cut_some : (p : ℕ → Bool) (s : List ℕ) (at : ℕ)
    → position p s ≡ Some at → slice_split p s ≡ take at s ∷ slice_split p (drop (at + 1) s)
cut_some p s at found = grind (arith, cond_some, slice_split_first, ltb-true)

-- nowhere, if there is none
pub cut_none : (p : ℕ → Bool) (s : List ℕ) → position p s ≡ None → slice_split p s ≡ s ∷ []
cut_none p s found = grind (arith, cases_lt, lt-ltb, slice_split_none, fails_before_first)

-- parts that have no such byte, joined by it, are cut into those parts
pub slice_split-join : (c : ℕ) (part : List ℕ) (parts : List (List ℕ)) → All (λ b. eqb b c ≡ false) part
    → All (λ l. All (λ b. eqb b c ≡ false) l) parts
    → slice_split (λ b. eqb b c) (join_with_byte c (part ∷ parts)) ≡ part ∷ parts
slice_split-join c part [] free rest = slice_split_none (λ b. eqb b c) part free
slice_split-join c part (next ∷ parts) free rest =
    let more = slice_split-join c next parts (All-head (λ l. All (λ b. eqb b c ≡ false) l) next parts rest)
    (All-tail (λ l. All (λ b. eqb b c ≡ false) l) next parts rest) in
    grind (arith, slice_split_at, All-head, All-tail, more)

-- there is always a part
first_of : (parts : List (List ℕ)) → 0 < length parts → (z : List ℕ) × (more : List (List ℕ)) × (parts ≡ z ∷ more)
first_of [] h = absurd (omega arith)
first_of (z ∷ more) h = (z, more, refl)

-- a text has a first part
pub parts_of-some : (c : ℕ) (o : Option (Bor (List ℕ))) → is_some o ≡ true
    → (z : List ℕ) × (more : List (List ℕ)) × (parts_of c o ≡ z ∷ more)
parts_of-some c None e = cc
parts_of-some c (Some r) e = first_of (parts_of c (Some r)) (omega (arith, length-slice_split (λ b. eqb b c) r.now))

-- where there is no text there are no parts
pub parts_of-none : (c : ℕ) (o : Option (Bor (List ℕ))) → is_some o ≡ false → parts_of c o ≡ []
parts_of-none c None e = refl
parts_of-none c (Some r) e = cc

-- how much is left, with the cut before it
abbrev pub left : Option (Bor (List ℕ)) → ℕ
left None = 0
left (Some r) = suc (length r.now)
