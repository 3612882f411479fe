-- The table of commands by names: what holds of each row holds of the row of a name.
use Rattle.std.proofs.Common.{◌≡◌, ◌⊎◌, ℕ, Bool, true, false, if◌then◌else◌, List, [], ◌∷◌, Option, Some, None, inl}
use Rattle.std.proofs.Common.{inr, refl, ap, sym, ◌∙◌, zero, suc, ◌*◌, ◌-◌, ◌^◌, ◌<◌, ◌≤◌, ◌↔◌, nat_le, nat_lt}
use Rattle.std.proofs.Common.{codes, arith}
use Rattle.std.specs.List.{AllByRecursion, list_all}
use Rattle.std.proofs.lemmas.List.Elements.{recursion_from_All}
use Rattle.std.proofs.lemmas.List.Sums.{AllPass-from_list_all}
use Rattle.std.specs.Option.{option_map}
use Rattle.std.specs.Str.{bytes_eq}
use Rattle.std.proofs.lemmas.Slice.Eq.{bytes_eq-Decides}
use Rattle.octets_script.specs.Calls.{Call, PutVarintWithLen}
use Rattle.octets_tool.specs.Commands.{Kind, count, number, Values, wide, bytes}
use Rattle.octets_tool.specs.Names.{Row, rows, named, Argument, taken, made, decimal_word, hex_word, holds, before}
use Rattle.octets_tool.specs.Names.{command_for}
use Rattle.std.proofs.lemmas.Bool.{cases_Bool, leb-true, le-leb}
use Rattle.std.proofs.lemmas.Option.{cond_some}
use Rattle.std.proofs.lemmas.Bool.Decides.{nat_tests}
use Rattle.octets.specs.Varints.{IsWidth}
use Rattle.octets_script.specs.Wides.{WideNumber}
use Rattle.octets_tool.specs.Limits.{most_count}

one_named : (b : Bool) (q r : Row) (o : Option Row) → (if b then Some q else o) ≡ Some r
    → ((b ≡ true) × (q ≡ r)) ⊎ (o ≡ Some r)
one_named true q r o e = inl (refl, (let same : q ≡ r = cc in same))
one_named false q r o e = inr e

-- what holds of each row holds of the row of a name, which has that name
pub of_named : (P : Row → Type 0) (name : List ℕ) (rs : List Row) (r : Row) → AllByRecursion P rs
    → named name rs ≡ Some r → P r × (r.name ≡ name)
of_named P name [] r all e = cc
of_named P name (q ∷ rs) r all e = elim (one_named (bytes_eq name q.name) q r (named name rs) e) [
  | inl here
      ↦ (rw here.1 at all.0, ap (λ (x : Row). x.name) (sym here.1) ∙ sym ((bytes_eq-Decides name q.name).0 here.0))
  | inr later ↦ of_named P name rs r all.1 later
]

-- what a test of all entries finds holds of each
pub tested : (t : Row → Bool) (rs : List Row) → list_all t rs ≡ true → AllByRecursion (λ r. t r ≡ true) rs
tested t rs e = recursion_from_All (λ r. t r ≡ true) rs (AllPass-from_list_all t rs e)

-- what an Option is mapped to comes from what is in it
pub mapped_some : {X Y : Type 0} (f : X → Y) (o : Option X) (y : Y) → option_map f o ≡ Some y
    → (x : X) × (o ≡ Some x) × (f x ≡ y)
mapped_some f None y e = cc
mapped_some f (Some x) y e = (x, refl, (let same : f x ≡ y = cc in same))

-- a command is made of an entry, and of the values of its arguments
pub row_made : (o : Option Row) (xs : List Argument) (c : Call) → made o xs ≡ Some c
    → (r : Row) × (o ≡ Some r) × (v : Values r.kinds) × (taken r.kinds xs ≡ Some v) × (r.call v ≡ c)
row_made None xs c e = cc
row_made (Some r) xs c e = let v = mapped_some r.call (taken r.kinds xs) c e in (r, refl, v.0, v.1, v.2)

-- Counts, and numbers with a width, as the table has them.

-- a width that a varint may have, and that holds the number
pub width_holds : (w v : ℕ) → IsWidth w → v < 2 ^ (8 * w - 2) → holds w v ≡ true
width_holds w v is small = grind (arith, nat_tests)

-- and only such numbers
pub holds_width : (w v : ℕ) → holds w v ≡ true → IsWidth w × (v < 2 ^ (8 * w - 2))
holds_width (suc zero) v e = (inl refl, grind (arith, nat_tests))
holds_width (suc (suc zero)) v e = (inr (inl refl), grind (arith, nat_tests))
holds_width (suc (suc (suc (suc zero)))) v e = (inr (inr (inl refl)), grind (arith, nat_tests))
holds_width (suc (suc (suc (suc (suc (suc (suc (suc zero)))))))) v e = (inr (inr (inr refl)), grind (arith, nat_tests))
holds_width _ v e = absurd (grind (arith, nat_tests))

module _ (name b : List ℕ) (v w : ℕ) (e : name ≡ codes "put_varint_with_len") where
  abbrev made_wide : Bool → Option Call
  made_wide t = option_map (λ (x : Values (wide ∷ bytes ∷ [])). PutVarintWithLen x.0 x.1.0)
      (before t (record { value = v; width = w }) (Some (b, tt)))

  by_name : command_for name (decimal_word v ∷ decimal_word w ∷ hex_word b ∷ []) ≡ made_wide (holds w v)
  by_name = rw e

  -- a number that its width holds is what the command is found with
  pub wide_made : (n : WideNumber) → IsWidth w → v < 2 ^ (8 * w - 2) → n.value ≡ v → n.width ≡ w
      → Some (PutVarintWithLen n b) ≡ command_for name (decimal_word v ∷ decimal_word w ∷ hex_word b ∷ [])
  wide_made n is small same_value same_width = grind (arith, by_name, made_wide, width_holds)

  -- with any other no command is found
  pub wide_refused : (IsWidth w × (v < 2 ^ (8 * w - 2)) → ⊥)
      → None ≡ command_for name (decimal_word v ∷ decimal_word w ∷ hex_word b ∷ [])
  wide_refused never = grind (arith, cases_Bool, holds_width, by_name, made_wide)

-- a count is the number, where it is within the limit
pub counted : (w k : ℕ) (r : Option ℕ) → r ≡ (if nat_le w most_count then Some w else None) → (r ≡ Some k)
    ↔ ((k ≤ most_count) × (w ≡ k))
counted w k r e = grind (arith, cond_some, leb-true, le-leb)

-- a lone number makes no command past the limit of a count, since each entry that takes one takes a count
abbrev counts_alone : List Kind → Bool
counts_alone (number bits ∷ []) = false
counts_alone _ = true

before_none : (b : Bool) {X Y : Type 0} (x : X) (o : Option Y) → o ≡ None → before b x o ≡ None
before_none true x None e = refl
before_none false x o e = refl
before_none true x (Some y) e = cc

taken_over : (ks : List Kind) (w : ℕ) → counts_alone ks ≡ true → nat_le w most_count ≡ false
    → taken ks (decimal_word w ∷ []) ≡ None
taken_over (count ∷ ks) w alone over = rw over
taken_over (number bits ∷ []) w alone over = cc
taken_over (number bits ∷ count ∷ ks) w alone over = before_none (nat_lt w (2 ^ bits)) w _ refl
taken_over (number bits ∷ number more ∷ ks) w alone over = before_none (nat_lt w (2 ^ bits)) w _ refl
taken_over (number bits ∷ wide ∷ ks) w alone over = before_none (nat_lt w (2 ^ bits)) w _ refl
taken_over (number bits ∷ bytes ∷ ks) w alone over = before_none (nat_lt w (2 ^ bits)) w _ refl
taken_over _ w alone over = refl

pub over_count : (name : List ℕ) (w : ℕ) → None ≡ (if nat_le w most_count then Some w else None)
    → None ≡ command_for name (decimal_word w ∷ [])
over_count name w none = by (named name rows) refl (over (nat_le w most_count) none)
  where
    over : (b : Bool) → None ≡ (if b then Some w else None) → b ≡ false
    over true e = cc
    over false e = refl

    by : (o : Option Row) → named name rows ≡ o → nat_le w most_count ≡ false → None ≡ made o (decimal_word w ∷ [])
    by None is past = refl
    by (Some r) is past =
        let each = tested (λ r. counts_alone r.kinds) rows refl in
        rw (taken_over r.kinds w (of_named (λ r. counts_alone r.kinds ≡ true) name rows r each is).0 past)

-- a number within its limit is what the command is found with, and with any other no command is found
limited : {Y : Type 0} (f : ℕ × Y → Call) (y : Y) (b : Bool) (w : ℕ)
    → option_map f (before b w (Some y)) ≡ option_map (λ k. f (k, y)) (if b then Some w else None)
limited f y true w = refl
limited f y false w = refl

pub made_by : {Y : Type 0} (f : ℕ × Y → Call) (y : Y) (b : Bool) (w : ℕ) (xs : List Argument) {name text : List ℕ}
    {r : Option ℕ} → r ≡ (if b then Some w else None) → name ≡ text
    → command_for text xs ≡ option_map f (before b w (Some y)) → option_map (λ k. f (k, y)) r ≡ command_for name xs
made_by f y b w xs same is e = rw (is, same) (sym (e ∙ limited f y b w))

-- the same of a lone number
pub made_alone : (f : ℕ → Call) (b : Bool) (w : ℕ) {name text : List ℕ} {r : Option ℕ}
    → r ≡ (if b then Some w else None) → name ≡ text
    → command_for text (decimal_word w ∷ [])
    ≡ option_map (λ (v : Values (count ∷ [])). f v.0) (before b w (Some tt))
    → option_map f r ≡ command_for name (decimal_word w ∷ [])
made_alone f b w = made_by (λ (v : Values (count ∷ [])). f v.0) tt b w (decimal_word w ∷ [])

-- the same of a number and bytes
pub made_with_bytes : (f : ℕ → List ℕ → Call) (b : Bool) (w : ℕ) (d : List ℕ) {name text : List ℕ}
    {r : Option ℕ} → r ≡ (if b then Some w else None) → name ≡ text
    → command_for text (decimal_word w ∷ hex_word d ∷ [])
    ≡ option_map (λ (v : Values (count ∷ bytes ∷ [])). f v.0 v.1.0) (before b w (Some (d, tt)))
    → option_map (λ k. f k d) r ≡ command_for name (decimal_word w ∷ hex_word d ∷ [])
made_with_bytes f b w d =
    made_by (λ (v : Values (count ∷ bytes ∷ [])). f v.0 v.1.0) (d, tt) b w (decimal_word w ∷ hex_word d ∷ [])
