-- The decode of what remains of a cursor, by a cursor for reading.
use Rattle.std.proofs.Common.{◌≡◌, ◌↔◌, ℕ, ◌+◌, ◌≤◌, List, Vec, MutBor, length, drop, Result, Ok, Err, OnOk, IsOk}
use Rattle.std.proofs.Common.{sym, ap, subst, ◌∙◌, inl, inr, arith}
use mathlib.Core.Bool.{true≢false}
use Rattle.octets.specs.Cursor.{bytes, position, rest, Passes}
use Rattle.octets.specs.Octets.{Octets}
use Rattle.octets.specs.Decodes.{UnlessMemory}
use Rattle.octets.specs.Does.{Does, value_answer}
use Rattle.octets.specs.Loans.{SliceCursor}
use Rattle.octets.specs.declared.error.BufferTooShortError.{BufferTooShortError}
use Rattle.octets.specs.declared.error.DecodeError.{DecodeError}
use Rattle.octets.specs.declared.error.DecodeError.TheVariants as D
use Rattle.octets_script.specs.Calls.{Decode, Answer, Bytes, Short}
use Rattle.octets_script.specs.Plays.{Outcome, ends}
use Rattle.octets_script.specs.Runs.{PerformsAs}
use Rattle.octets_code.specs.Answers.{IsAnswer, IsRefusal}
use Rattle.octets_script.proofs.Endings.{same_name}

-- what holds of the answer Short if a decode fails
pub on_short : {A : Type 0} (P : Answer → Type 0) (r : Result (Vec ℕ A) DecodeError) (e : BufferTooShortError)
    → r ≡ Err (D.Short e) → UnlessMemory r (P (value_answer r)) → P Short
on_short P r e is h = subst (λ x. UnlessMemory x (P (value_answer x))) is h

-- The cursor v shows what remains of s, and the decode made w of it. The cursor t is s, which skipped as much.
module _ {T E : Type 0} (s t : SliceCursor) (v w : Octets) (passed : ℕ) (r : Result T E) (shown : bytes v ≡ rest s)
    (start : position v ≡ 0) (same : bytes w ≡ bytes v) (told : passed ≡ position w)
    (fits : IsOk r ↔ (passed ≤ length (rest s))) (moved : OnOk r (Passes s t passed)) where
  within : passed ≤ length (rest s)
  within = let k = w.within in omega (arith, told, ap length same, ap length shown)

  by_result : (x : Result T E) → IsOk x ↔ (passed ≤ length (rest s)) → OnOk x (Passes s t passed) → Passes s t passed
  by_result (Ok y) fits moved = moved
  by_result (Err e) fits moved = absurd (true≢false (sym (fits.1 within)))

  passes : Passes s t passed
  passes = by_result r fits moved

  -- t is where w is, counted from s
  ends_at : (n : ℕ) (x y : Answer) → ends x (bytes w) (position w) ≡ ends y (bytes v) (position v + n)
      → ends x (bytes t) (position t) ≡ ends y (bytes s) (position s + n)
  ends_at n x y h =
      let reply : x ≡ y = ap (λ (o : Outcome). o.reply) h in
      let passed_w : position w ≡ position v + n = ap (λ (o : Outcome). o.position) h in
      let p = passes in
      let at : position t ≡ position s + n = omega (arith, p.0, told, passed_w, start) in
      let held : bytes t ≡ bytes s = ap (λ (b : MutBor (List ℕ)). b.now) p.1 in cc

  -- what the decode did of v, the command does of s
  pub decoded : (m : ℕ) (a : Answer) → Does (Decode m) v a w → PerformsAs (Decode m) s a t
  unfolding Does
  decoded m a does = (
    elim does.0 [
      | inl x ↦ inl (
        x.0,
        subst (λ l. IsAnswer l m x.0) shown_rest x.1,
        ends_at (length (rest v)) a (Bytes x.0) x.2
            ∙ ap (λ l. ends (Bytes x.0) (bytes s) (position s + length l)) shown_rest,
      )
      | inr x ↦ inr (x.0, subst (λ l. IsRefusal l m x.0) shown_rest x.1, ends_at x.0 a Short x.2)
    ],
    same_name s t passes.1,
  )
    where
      shown_rest : rest v ≡ rest s
      shown_rest = ap (λ n. drop n (bytes v)) start ∙ shown
