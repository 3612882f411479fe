-- By induction on the pieces: either the first piece fits, or only the empty prefix does.
use Rattle.std.proofs.Common.{◌≡◌, ℕ, zero, suc, ◌+◌, ◌-◌, ◌<◌, ◌≤◌, inl, inr, List, [], ◌∷◌, take, sum, refl, sym, ◌∙◌}
use Rattle.std.proofs.Common.{ap, arith, rules}
use Rattle.std.proofs.lemmas.Bool.{cases_lt}
use Rattle.std.proofs.lemmas.Grind.{common_steps}
use Rattle.std.proofs.lemmas.List.Sums.{sum_by-cons}
use Rattle.octets.specs.Pieces.{kept_of, IsGreatestFront}
use Rattle.octets.proofs.lemmas.Giving.{kept_of-more, kept_of-none}
use Rattle.octets.proofs.laws.kept_is_greatest.Goals as goal

sum_front : (j p : ℕ) (ps : List ℕ) → sum (take (suc j) (p ∷ ps)) ≡ p + sum (take j ps)
sum_front j p ps = sum_by-cons (λ x. x) p (take j ps)

none_fits : (c p : ℕ) (ps : List ℕ) → c < p → (j : ℕ) → sum (take j (p ∷ ps)) ≤ c → sum (take j (p ∷ ps)) ≤ 0
none_fits c p ps lt j h = grind (arith, common_steps)

more_fits : (c p k : ℕ) (ps : List ℕ) → p ≤ c → ((j : ℕ) → sum (take j ps) ≤ c - p → sum (take j ps) ≤ k) → (j : ℕ)
    → sum (take j (p ∷ ps)) ≤ c → sum (take j (p ∷ ps)) ≤ p + k
more_fits c p k ps le f zero h = search rules
more_fits c p k ps le f (suc j) h = let g = f j in grind (arith, sum_front j p ps)

greatest : (c : ℕ) (ps : List ℕ) → IsGreatestFront c ps (kept_of c ps)
unfolding kept_of
greatest c [] = record { fits = omega arith; count = 0; sums = refl; greatest = λ j h. grind (arith, common_steps) }
greatest c (p ∷ ps) = elim (cases_lt c p) [
  | inl lt ↦ rw (kept_of-none c p ps (λ x. omega arith))
      (record { fits = omega arith; count = 0; sums = refl; greatest = none_fits c p ps lt })
  | inr le ↦ let i = greatest (c - p) ps in let sums = ap (λ k. p + k) i.sums ∙ sym (sum_front i.count p ps) in
      rw (kept_of-more c p ps le) (record {
        fits = omega (arith, i.fits);
        count = suc i.count;
        sums = sums;
        greatest = more_fits c p _ ps le i.greatest;
      })
]

pub returns : goal.returns
returns c = greatest
