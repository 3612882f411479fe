use Rattle.std.proofs.Common.{◌≡◌, ℕ, ◌+◌, ◌/◌, ◌≤◌, List, [], ◌∷◌, ◌++◌, length, take, slice_set}
use Rattle.std.proofs.Common.{slice_index_or, arith, inl, inr, ◌⊎◌, zero, suc, refl}
use Rattle.std.proofs.lemmas.Grind.{common_steps}
use Rattle.octets_pieces.proofs.decoder.put_step.Goals as goal

-- what the two writes make of the slice o
abbrev Written : List ℕ → ℕ → ℕ → ℕ → ℕ → Type 0
Written o at a b n =
    take (at + n) (slice_set (slice_set o at a) (at + n / 2) (slice_index_or (slice_index_or o at 0 ∷ a ∷ b ∷ []) n 0))
    ≡ take at o ++ take n (a ∷ b ∷ [])

none : (o : List ℕ) (at a b : ℕ) → at + 2 ≤ length o → Written o at a b 0
none o at a b h = grind (arith, common_steps)

one : (o : List ℕ) (at a b : ℕ) → at + 2 ≤ length o → Written o at a b 1
one o at a b h = grind (arith, common_steps)

two : (o : List ℕ) (at a b : ℕ) → at + 2 ≤ length o → Written o at a b 2
two o at a b h = grind (arith, common_steps)

up_to_two : (n : ℕ) → n ≤ 2 → (n ≡ 0) ⊎ ((n ≡ 1) ⊎ (n ≡ 2))
up_to_two zero h = inl refl
up_to_two (suc zero) h = inr (inl refl)
up_to_two (suc (suc zero)) h = inr (inr refl)
up_to_two (suc (suc (suc n))) h = absurd (omega arith)

written : (o : List ℕ) (at a b n : ℕ) → at + 2 ≤ length o → n ≤ 2 → Written o at a b n
written o at a b n h l = elim (up_to_two n l) [
  | inl e ↦ rw e (none o at a b h)
  | inr more ↦ elim more [
    | inl e ↦ rw e (one o at a b h)
    | inr e ↦ rw e (two o at a b h)
  ]
]

pub returns-clause-taken : goal.returns-clause-taken
returns-clause-taken c = λ t. written c.args.out.now c.args.at c.args.step.first c.args.step.second c.args.step.count
    (omega arith) c.requires.few
