-- The steps of an encode that gives single bytes.
use Rattle.std.proofs.Common.{◌≡◌, ℕ, ◌≤◌, ◌↔◌, Bool, false, IsTrue, List, [], ◌∷◌, ◌++◌}
use Rattle.std.proofs.Common.{Option, IfSome, Result, IsErr, sym, ◌∙◌, ap, append-nil, arith}
use Rattle.std.proofs.lemmas.Bool.Decides.{nat_tests}
use Rattle.std.specs.Char.{to_ascii_lowercase}
use Rattle.octets_code.specs.Texts.{lower_byte}
use Rattle.octets.specs.Sinks.{AppendsFront, capacity_of}
use Rattle.octets.specs.Capacities.{Appends, appends_none, appends_both, falls}
use Rattle.octets.specs.Pieces.{EndsGiving, Lawful}
use Rattle.octets.proofs.lemmas.Giving.{stop}
use Rattle.octets_vectors.proofs.Singles.{singles}

-- std puts a byte in lower case as `lower_byte` does
pub lowercase_is_lower : (b : ℕ) → to_ascii_lowercase b ≡ lower_byte b
unfolding lower_byte
lowercase_is_lower b = grind (arith, nat_tests)

module _ {S : Type 0} (written : S → List ℕ) (room : S → Option ℕ) (whole : S → Bool) where
  -- what is known of bytes that are appended holds of a sink
  pub lawful : Lawful (Appends written room whole) room whole
  lawful = record {
    none = appends_none written room whole;
    more = appends_both written room whole;
    falls = falls written room whole;
    kind = λ a b w h. h.kind;
  }

  -- the write of the next byte failed
  pub refused : {T E : Type 0} {a b : S} {r : Result T E} {t : List ℕ} (x : ℕ) (rest : List ℕ) → IsErr r
      → t ≡ (x ∷ []) ++ rest → AppendsFront (written a) (written b) (x ∷ [])
      → (IsTrue (whole a) → written b ≡ written a) → IfSome (room a) (λ c. IsTrue false ↔ (1 ≤ c))
      → capacity_of (written b) (room b) ≡ capacity_of (written a) (room a) → whole b ≡ whole a
      → EndsGiving (Appends written room whole) room whole a b r t (singles t)
  refused {a} x rest i e f w h c k =
      stop lawful (x ∷ []) rest (singles rest) i e (ap singles e) (f.0, record { bytes = f.1; capacity = c; kind = k })
      (λ y. record { bytes = w y ∙ sym (append-nil (written a)); capacity = c; kind = k }) h
