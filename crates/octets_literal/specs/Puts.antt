-- What a call on a sink has done, in terms of the three facts that the law of sinks is about.
use Rattle.std.specs.Prelude.{◌≡◌, ℕ, ◌≤◌, ◌↔◌, Bool, true, false, IsTrue, List, ◌++◌, length, Option, IfSome}
use Rattle.octets.specs.Sinks.{AppendsFront, capacity_of}

-- all of t was appended if the call succeeded, and otherwise a prefix of t
unfoldable pub Appended : Bool → List ℕ → List ℕ → List ℕ → Type 0
Appended true old new t = new ≡ old ++ t
Appended false old new t = AppendsFront old new t

-- a call that is to append t succeeded or not: what was appended, whether it fitted, and what is unchanged
unfoldable pub Puts : {S : Type 0} → (S → List ℕ) → (S → Option ℕ) → (S → Bool) → S → S → Bool → List ℕ → Type 0
Puts written room whole old new done t = Appended done (written old) (written new) t
    × IfSome (room old) (λ c. IsTrue done ↔ (length t ≤ c))
    × (capacity_of (written new) (room new) ≡ capacity_of (written old) (room old)) × (whole new ≡ whole old)
