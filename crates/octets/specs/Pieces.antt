-- The pieces in which an encode writes its text, and what an encode that fails has written.
use Rattle.std.specs.Prelude.{◌≡◌, ℕ, ◌+◌, ◌-◌, ◌/◌, ◌%◌, ◌≤◌, ◌↔◌, Bool, IsTrue, List, []}
use Rattle.std.specs.Prelude.{◌∷◌, ◌++◌, length, replicate, take, sum, nat_le, if◌then◌else◌}
use Rattle.std.specs.Prelude.{Option, option_map, IfSome, Result, IsOk, OnOk, OnErr}
use Rattle.octets.specs.Sinks.{SomeFront}
use Rattle.octets_code.specs.Texts.{codes}

-- the pieces of the last n bytes: one of four bytes, if there are as many, and then single bytes
unfoldable pub tail_pieces : ℕ → List ℕ
tail_pieces n = if nat_le 4 n then 4 ∷ replicate (n - 4) 1 else replicate n 1

-- the pieces of n bits: words of eight bytes, and then the bytes that remain
unfoldable pub pieces_of_bits : ℕ → List ℕ
pieces_of_bits n = replicate (n / 64) 8 ++ tail_pieces ((n % 64 + 7) / 8)

-- how many bytes each piece of the text of v has
abbrev pub pieces : List ℕ → List ℕ
pieces v = pieces_of_bits (length (codes v))

-- the greatest sum of a prefix of the pieces that is at most c
unfoldable pub kept_of : ℕ → List ℕ → ℕ
kept_of c [] = 0
kept_of c (p ∷ ps) = if nat_le p c then p + kept_of (c - p) ps else 0

-- how many bytes of the text of v are written if only c bytes fit
abbrev pub kept_length : ℕ → List ℕ → ℕ
kept_length c v = kept_of c (pieces v)

-- n is the sum of a prefix of the pieces and at most c, and no such sum is greater
pub record IsGreatestFront (c : ℕ) (ps : List ℕ) (n : ℕ) : Type 0 where
  pub fits : n ≤ c
  pub count : ℕ
  pub sums : n ≡ sum (take count ps)
  pub greatest : (j : ℕ) → sum (take j ps) ≤ c → sum (take j ps) ≤ n

-- how giving the bytes t in these pieces ends: its result is r, and the target changed from old to new
pub record EndsGiving {S T E : Type 0} (appends : S → S → List ℕ → Type 0) (room : S → Option ℕ) (whole : S → Bool)
    (old new : S) (r : Result T E) (t pieces : List ℕ) : Type 0 where
  pub ok : OnOk r (appends old new t)
  pub err : OnErr r (SomeFront t (appends old new))
  pub fits : IfSome (room old) (λ c. IsOk r ↔ (length t ≤ c))
  pub kept : IsTrue (whole old) → IfSome (room old) (λ c. OnErr r (appends old new (take (kept_of c pieces) t)))

-- what is known of appended bytes
pub record Lawful {S : Type 0} (appends : S → S → List ℕ → Type 0) (room : S → Option ℕ) (whole : S
    → Bool) : Type 0 where
  pub none : (s : S) → appends s s []
  pub more : (a b c : S) (u w : List ℕ) → appends a b u → appends b c w → appends a c (u ++ w)
  pub falls : (a b : S) (w : List ℕ) → appends a b w → room a ≡ option_map (λ c. length w + c) (room b)
  pub kind : (a b : S) (w : List ℕ) → appends a b w → whole b ≡ whole a
