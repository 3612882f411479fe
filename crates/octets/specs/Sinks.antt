-- The terms in which the law of a sink is stated.
use Rattle.std.specs.Prelude.{◌≡◌, ℕ, ◌+◌, List, ◌++◌, length, take, Option, option_map}

-- P holds of a prefix of the bytes t
abbrev pub SomeFront : List ℕ → (List ℕ → Type 0) → Type 0
SomeFront t P = (k : ℕ) × P (take k t)

-- a prefix of t was appended
abbrev pub AppendsFront : List ℕ → List ℕ → List ℕ → Type 0
AppendsFront old new t = SomeFront t (λ w. new ≡ old ++ w)

-- How many bytes a full sink has: the bytes that were written, and the room for more. If the room is
-- unknown, so is this number.
abbrev pub capacity_of : List ℕ → Option ℕ → Option ℕ
capacity_of written room = option_map (λ c. length written + c) room
