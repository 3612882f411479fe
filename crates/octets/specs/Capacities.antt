-- What the law of a sink says of two calls, and of no call.
use Rattle.std.proofs.Common.{◌≡◌, ℕ, ◌+◌, Bool, List, [], ◌++◌, length, Option, Some, None, option_map}
use Rattle.std.proofs.Common.{append-nil, append_assoc, length-append, refl, sym, ◌∙◌, ap, arith}
use Rattle.octets.specs.Sinks.{capacity_of}

-- two numbers are equal if their Some is
pub Some-same : {m n : ℕ} → Some m ≡ Some n → m ≡ n
Some-same e = cc

-- If the capacity is the same, then a known room decreases by the number of bytes that were appended,
-- and an unknown room stays unknown.
falls_by : (old new w : List ℕ) (r s : Option ℕ) → new ≡ old ++ w → capacity_of new s ≡ capacity_of old r
    → r ≡ option_map (λ c. length w + c) s
falls_by old new w None None e h = refl
falls_by old new w None (Some d) e h = cc
falls_by old new w (Some c) None e h = cc
falls_by old new w (Some c) (Some d) e h =
    let k : length new + d ≡ length old + c = Some-same h in
    ap Some (omega (arith, ap length e, length-append old w))

module _ {S : Type 0} (written : S → List ℕ) (room : S → Option ℕ) (whole : S → Bool) where
  -- exactly the bytes w were appended
  pub record Appends (a b : S) (w : List ℕ) : Type 0 where
    pub bytes : written b ≡ written a ++ w
    pub capacity : capacity_of (written b) (room b) ≡ capacity_of (written a) (room a)
    pub kind : whole b ≡ whole a

  -- a sink that doesn't change has appended the empty list
  pub appends_none : (s : S) → Appends s s []
  appends_none s = record { bytes = sym (append-nil (written s)); capacity = refl; kind = refl }

  -- two calls append what the first and then what the second appended
  pub appends_both : (a b c : S) (u w : List ℕ) → Appends a b u → Appends b c w → Appends a c (u ++ w)
  appends_both a b c u w h k = record {
    bytes = k.bytes ∙ ap (λ l. l ++ w) h.bytes ∙ append_assoc (written a) u w;
    capacity = k.capacity ∙ h.capacity;
    kind = k.kind ∙ h.kind;
  }

  -- a known room decreases by the number of bytes that were appended, and an unknown room stays unknown
  pub falls : (a b : S) (w : List ℕ) → Appends a b w → room a ≡ option_map (λ c. length w + c) (room b)
  falls a b w h = falls_by (written a) (written b) w (room a) (room b) h.bytes h.capacity
