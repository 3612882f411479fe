-- What a vector holds after two additions, and after none.
use Rattle.std.proofs.Common.{◌≡◌, ℕ, List, [], ◌++◌, Vec, vec_capacity, append-nil, append_assoc, refl, sym, ◌∙◌, ap}

module _ {A : Type 0} where
  -- exactly the bytes w were added to a vector, whose capacity is unchanged
  abbrev pub Added : Vec ℕ A → Vec ℕ A → List ℕ → Type 0
  Added a b w = (b.items ≡ a.items ++ w) × (vec_capacity b ≡ vec_capacity a)

  -- adding nothing leaves a vector unchanged
  pub adds_nothing : (a : Vec ℕ A) → Added a a []
  adds_nothing a = (sym (append-nil a.items), refl)

  -- two additions add what the first and then what the second added
  pub adds_more : (a b c : Vec ℕ A) (u w : List ℕ) → Added a b u → Added b c w → Added a c (u ++ w)
  adds_more a b c u w h k = (k.0 ∙ ap (λ l. l ++ w) h.0 ∙ append_assoc a.items u w, k.1 ∙ h.1)
