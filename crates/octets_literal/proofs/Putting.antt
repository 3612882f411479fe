-- Calls on a sink, one after another.
use Rattle.std.proofs.Common.{◌≡◌, ℕ, ◌≤◌, ◌↔◌, Bool, true, false, IsTrue, List, [], ◌∷◌, ◌++◌, length, take, Option}
use Rattle.std.proofs.Common.{Some, None, IfSome, Result, Ok, Err, OnOk, OnErr, IsErr, is_ok, refl, ◌∙◌, ap, arith}
use Rattle.std.proofs.Common.{append_assoc, append-nil, length-append}
use Rattle.octets.specs.Sinks.{AppendsFront, capacity_of}
use Rattle.octets.proofs.lemmas.Giving.{front_first, front_behind}
use Rattle.std.proofs.lemmas.Grind.{common_steps}
use Rattle.octets_literal.proofs.Written.{literal_of_cased}
use Rattle.octets_literal.specs.Puts.{Appended, Puts}

number_in : Option ℕ → ℕ
number_in None = 0
number_in (Some n) = n

fits_then : (done : Bool) (r s : Option ℕ) (w u a b : List ℕ) → capacity_of u s ≡ capacity_of w r → u ≡ w ++ a
    → IfSome s (λ c. IsTrue done ↔ (length b ≤ c)) → IfSome r (λ c. IsTrue done ↔ (length (a ++ b) ≤ c))
unfolding number_in
fits_then done None s w u a b e f h = tt
fits_then done (Some c) None w u a b e f h = cc
fits_then done (Some c) (Some d) w u a b e f h = grind (arith, number_in, length-append)

fits_less : (r : Option ℕ) (a b : List ℕ) → IfSome r (λ c. IsTrue false ↔ (length a ≤ c))
    → IfSome r (λ c. IsTrue false ↔ (length (a ++ b) ≤ c))
fits_less None a b h = tt
fits_less (Some c) a b h = grind (arith, length-append)

fits_nothing : (r : Option ℕ) → IfSome r (λ c. IsTrue true ↔ (0 ≤ c))
fits_nothing None = tt
fits_nothing (Some c) = (λ _. omega arith, λ _. refl)

appended_then : (done : Bool) (w u z a b : List ℕ) → u ≡ w ++ a → Appended done u z b → Appended done w z (a ++ b)
unfolding Appended
appended_then true w u z a b f h = h ∙ ap (λ x. x ++ b) f ∙ append_assoc w a b
appended_then false w u z a b f h = front_behind w u z a b f h

appended_less : (w u a b : List ℕ) → Appended false w u a → Appended false w u (a ++ b)
unfolding Appended
appended_less w u a b h = front_first w u a b h

-- a call that returns Ok has appended all of t, and one that fails a prefix of t
pub appended_ok : {T E : Type 0} (r : Result T E) (w u t : List ℕ) → Appended (is_ok r) w u t → OnOk r (u ≡ w ++ t)
unfolding Appended
appended_ok (Ok x) w u t p = p
appended_ok (Err e) w u t p = tt

pub appended_err : {T E : Type 0} (r : Result T E) (w u t : List ℕ) → Appended (is_ok r) w u t
    → OnErr r (AppendsFront w u t)
unfolding Appended
appended_err (Ok x) w u t p = tt
appended_err (Err e) w u t p = p

-- an error isn't Ok
pub is_ok-refused : {T E : Type 0} (r : Result T E) → IsErr r → is_ok r ≡ false
is_ok-refused (Ok x) e = cc
is_ok-refused (Err x) e = refl

module _ {S : Type 0} (written : S → List ℕ) (room : S → Option ℕ) (whole : S → Bool) where
  -- a call that appends nothing may leave the sink unchanged
  pub puts_nothing : (s : S) → Puts written room whole s s true []
  unfolding Appended Puts
  puts_nothing s = grind (arith, append-nil, fits_nothing)

  -- a call that succeeded, and then another
  pub puts_then : (old mid new : S) (done : Bool) (a b : List ℕ) → Puts written room whole old mid true a
      → Puts written room whole mid new done b → Puts written room whole old new done (a ++ b)
  unfolding Appended Puts
  puts_then old mid new done a b p q =
      let fits = fits_then done (room old) (room mid) (written old) (written mid) a b p.2 p.0 q.1 in
      (appended_then done _ _ _ a b p.0 q.0, fits, q.2 ∙ p.2, q.3 ∙ p.3)

  -- a call that failed, before another call
  pub puts_less : (old new : S) (a b : List ℕ) → Puts written room whole old new false a
      → Puts written room whole old new false (a ++ b)
  unfolding Puts
  puts_less old new a b p = grind (arith, common_steps, appended_less, fits_less)

  -- the same if the first call is of one byte
  pub byte_then : (old mid new : S) (done : Bool) (x : ℕ) (b : List ℕ) → Puts written room whole old mid true (x ∷ [])
      → Puts written room whole mid new done b → Puts written room whole old new done (x ∷ b)
  byte_then old mid new done x b p q = puts_then old mid new done (x ∷ []) b p q

  pub byte_less : (old new : S) (x : ℕ) (b : List ℕ) → Puts written room whole old new false (x ∷ [])
      → Puts written room whole old new false (x ∷ b)
  byte_less old new x b p = puts_less old new (x ∷ []) b p

  -- the law of sinks at one call
  pub puts_by : {T E : Type 0} (old new : S) (r : Result T E) (t : List ℕ)
      → OnOk r (written new ≡ written old ++ t) → OnErr r (AppendsFront (written old) (written new) t)
      → IfSome (room old) (λ c. IsTrue (is_ok r) ↔ (length t ≤ c))
      → capacity_of (written new) (room new) ≡ capacity_of (written old) (room old) → whole new ≡ whole old
      → Puts written room whole old new (is_ok r) t
  unfolding Appended Puts
  puts_by old new (Ok x) t ok err fits capacity kind = (ok, fits, capacity, kind)
  puts_by old new (Err e) t ok err fits capacity kind = (err, fits, capacity, kind)

  -- a call that appended everything succeeded
  pub puts_done : (old new : S) (t : List ℕ)
      → written new ≡ written old ++ t → IfSome (room old) (λ c. IsTrue true ↔ (length t ≤ c))
      → capacity_of (written new) (room new) ≡ capacity_of (written old) (room old) → whole new ≡ whole old
      → Puts written room whole old new true t
  unfolding Appended Puts
  puts_done old new t all fits capacity kind = (all, fits, capacity, kind)

  -- a call that appended a prefix didn't succeed
  pub puts_front : (old new : S) (t : List ℕ) (k : ℕ)
      → written new ≡ written old ++ take k t → IfSome (room old) (λ c. IsTrue false ↔ (length t ≤ c))
      → capacity_of (written new) (room new) ≡ capacity_of (written old) (room old) → whole new ≡ whole old
      → Puts written room whole old new false t
  unfolding Appended Puts
  puts_front old new t k front fits capacity kind = ((k, front), fits, capacity, kind)

-- at a caller of sinks
pub ruleset calls = (
  is_ok-refused,
  puts_nothing,
  puts_then,
  puts_less,
  byte_then,
  byte_less,
  puts_by,
  puts_done,
  puts_front,
)

-- and at one that says what was appended
pub ruleset appended = (appended_ok, appended_err, literal_of_cased)
