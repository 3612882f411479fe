-- Pieces, and what is kept of them.
use Rattle.std.proofs.Common.{◌≡◌, ℕ, ◌+◌, ◌-◌, ◌/◌, ◌<◌, ◌≤◌, List, ◌∷◌, replicate, arith, ◌↔◌, Bool, false, IsTrue}
use Rattle.std.proofs.Common.{[], ◌++◌, length, take, Option, Some, None, IfSome, option_map, Result, Ok, Err, IsErr}
use Rattle.std.proofs.Common.{OnOk, OnErr, is_ok, refl, sym, subst, ◌∙◌, append-nil, drop, ap, append_assoc}
use Rattle.std.proofs.Common.{take-append-drop}
use Rattle.std.proofs.lemmas.Grind.{common_steps}
use Rattle.std.proofs.lemmas.Bool.Decides.{nat_tests}
use Rattle.octets.specs.Pieces.{kept_of, tail_pieces, pieces_of_bits, EndsGiving, Lawful}
use Rattle.std.proofs.Math.Seq.{take-append-add}
use Rattle.std.proofs.lemmas.Option.{IfSome_then}
use Rattle.std.proofs.lemmas.Result.{on_ok_weaker, on_err_weaker}
use Rattle.octets.specs.Sinks.{SomeFront, AppendsFront}
use Rattle.octets.specs.Capacities.{Some-same}
use Rattle.std.proofs.lemmas.List.{take_at}

pub kept_of-more : (d n : ℕ) (left : List ℕ) → n ≤ d → kept_of d (n ∷ left) ≡ n + kept_of (d - n) left
unfolding kept_of
kept_of-more d n left h = grind (arith, nat_tests)

pub kept_of-none : (d n : ℕ) (left : List ℕ) → (n ≤ d → ⊥) → kept_of d (n ∷ left) ≡ 0
unfolding kept_of
kept_of-none d n left h = grind (arith, nat_tests)

pub tail_pieces-long : (n : ℕ) → 4 ≤ n → tail_pieces n ≡ 4 ∷ replicate (n - 4) 1
unfolding tail_pieces
tail_pieces-long n h = grind (arith, nat_tests)

pub tail_pieces-short : (n : ℕ) → n < 4 → tail_pieces n ≡ replicate n 1
unfolding tail_pieces
tail_pieces-short n h = grind (arith, nat_tests)

pub pieces-word : (n : ℕ) → pieces_of_bits (64 + n) ≡ 8 ∷ pieces_of_bits n
unfolding pieces_of_bits
pieces-word n = grind (arith, common_steps)

pub pieces-last : (n : ℕ) → n < 64 → pieces_of_bits n ≡ tail_pieces ((n + 7) / 8)
unfolding pieces_of_bits
pieces-last n h = grind (arith, common_steps)

-- Pieces given one after the other.

-- a fact of the capacity c after n bytes is a fact of the capacity n + c before them
past : (r s : Option ℕ) (n : ℕ) (P Q : ℕ → Type 0) → r ≡ option_map (λ c. n + c) s → ((d : ℕ) → Q d → P (n + d))
    → IfSome s Q → IfSome r P
past None s n P Q f step h = tt
past (Some c) None n P Q f step h = cc
past (Some c) (Some d) n P Q f step h = subst P (sym (Some-same f)) (step d h)

-- if giving the rest ends in some way, giving all ends in the same way
abbrev pub Onward : {S : Type 0} (T E : Type 0) (appends : S → S → List ℕ → Type 0) (room : S → Option ℕ) (whole : S
    → Bool) → S → S → List ℕ → List ℕ → List ℕ → List ℕ → Type 0
Onward T E appends room whole old here rest left t all = (after : _) (r : Result T E)
    → EndsGiving appends room whole here after r rest left → EndsGiving appends room whole old after r t all

module _ {S T E : Type 0} {appends : S → S → List ℕ → Type 0} {room : S → Option ℕ} {whole : S → Bool}
    (law : Lawful appends room whole) where
  -- there is nothing to give
  pub done : (s : S) (x : T) → EndsGiving {E = E} appends room whole s s (Ok x) [] []
  done s x = grind (arith, common_steps)

  -- the piece p was written, and then the rest was given
  pub next : {a b c : S} {r : Result T E} {rest t left all : List ℕ} (p : List ℕ) → t ≡ p ++ rest
      → all ≡ length p ∷ left → appends a b p
      → EndsGiving appends room whole b c r rest left → EndsGiving appends room whole a c r t all
  next {a} {b} {c} {r} {rest} {t} {left} {all} p e f w g =
      let both : (u : List ℕ) → appends b c u → appends a c (p ++ u) = λ u h. law.more a b c p u w h in
      rw e (record {
        ok = on_ok_weaker r (both rest) g.ok;
        err = on_err_weaker r
            (λ h. (length p + h.0, subst (appends a c) (sym (take-append-add p rest h.0)) (both _ h.1))) g.err;
        fits = past (room a) (room b) (length p) _ _ (law.falls a b p w) (grind (arith, common_steps)) g.fits;
        kept = λ k. past (room a) (room b) (length p) _ _ (law.falls a b p w)
            (grind (arith, kept_of-more, take-append-add)) (g.kept (law.kind a b p w ∙ k));
      })

  -- the write of the piece p failed, after a prefix of it was written
  pub stop : {a b : S} {r : Result T E} {t all : List ℕ} (p rest left : List ℕ) → IsErr r → t ≡ p ++ rest
      → all ≡ length p ∷ left → SomeFront p (appends a b) → (IsTrue (whole a) → appends a b [])
      → IfSome (room a) (λ c. IsTrue false ↔ (length p ≤ c)) → EndsGiving appends room whole a b r t all
  stop {a} {b} {r = Ok x} p rest left i e f u w g = cc
  stop {a} {b} {r = Err x} p rest left i e f u w g =
      rw e (record {
        ok = tt;
        err = (length (take u.0 p), subst (appends a b) (grind (arith, common_steps)) u.1);
        fits = IfSome_then (room a) g (grind (arith, common_steps));
        kept = λ k. IfSome_then (room a) g (grind (arith, kept_of-none));
      })

  -- all is one piece
  pub sole : {a b : S} (r : Result T E) (p : List ℕ) → OnOk r (appends a b p) → OnErr r (SomeFront p (appends a b))
      → (IsTrue (whole a) → OnErr r (appends a b []))
      → IfSome (room a) (λ c. IsTrue (is_ok r) ↔ (length p ≤ c)) → EndsGiving appends room whole a b r p (length p ∷ [])
  sole {b} (Ok x) p ok err nothing fits = next p (sym (append-nil p)) refl ok (done b x)
  sole (Err x) p ok err nothing fits = stop {r = Err x} p [] [] refl (sym (append-nil p)) refl err nothing fits

-- Several calls on a sink, one after the other, one of which failed.

-- what was appended is a prefix of t, since t goes on after it
pub appends_some : (old new x y t : List ℕ) → t ≡ x ++ y → new ≡ old ++ x → AppendsFront old new t
appends_some old new x y t e h = (length x, h ∙ ap (λ z. old ++ z) (grind (arith, take_at)))

-- all of t is a prefix of t
pub front_whole : (old new t : List ℕ) → new ≡ old ++ t → AppendsFront old new t
front_whole old new t h = appends_some old new t [] t (sym (append-nil t)) h

-- a prefix of the first part is a prefix of the whole
pub front_first : (old new x y : List ℕ) → AppendsFront old new x → AppendsFront old new (x ++ y)
front_first old new x y (k, h) =
    appends_some old new (take k x) _ (x ++ y)
    (ap (λ z. z ++ y) (sym (take-append-drop k x)) ∙ append_assoc (take k x) (drop k x) y) h

-- all of the first part, and a prefix of the second
pub front_behind : (old mid new x y : List ℕ) → mid ≡ old ++ x → AppendsFront mid new y → AppendsFront old new (x ++ y)
front_behind old mid new x y e (k, h) =
    appends_some old new (x ++ take k y) (drop k y) (x ++ y)
    (grind (arith, common_steps))
    (grind (arith, append_assoc))

-- the same for a call that may have failed
pub front_then : {T E : Type 0} (r : Result T E) (old mid new x y : List ℕ) → mid ≡ old ++ x
    → OnErr r (AppendsFront mid new y) → OnErr r (AppendsFront old new (x ++ y))
front_then (Ok _) old mid new x y e h = tt
front_then (Err _) old mid new x y e h = front_behind old mid new x y e h
