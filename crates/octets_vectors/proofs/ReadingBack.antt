-- What was written is read back.
use Rattle.std.proofs.Common.{◌≡◌, ℕ, zero, suc, ◌+◌, ◌-◌, ◌<◌, ◌≤◌, Bool, true, false, List, [], ◌∷◌}
use Rattle.std.proofs.Common.{length, take, drop, MutBor, refl, sym, ◌∙◌, ap, subst, arith}
use Rattle.std.proofs.Common.{Result, Ok, Err, Vec, IfOk, IsErr}
use Rattle.octets_code.specs.Answers.{IsAnswer}
use Rattle.octets_code.specs.Texts.{AreBytes, lower}
use Rattle.octets_code.proofs.TextOf.{text_is_text, text_from, text_injective}
use Rattle.octets.proofs.lemmas.CasedCodes.{cased_bytes, length-cased}
use Rattle.octets_code.proofs.Lowering.{length-lower, lower_bytes}
use Rattle.octets.specs.Bytes.{splice}
use Rattle.octets.proofs.lemmas.Splices.{length_splice}
use Rattle.octets.specs.Encodes.{cased, text_of}
use Rattle.octets.specs.Loans.{SliceCursor}
use Rattle.octets.specs.Writing.{bytes_after}
use Rattle.octets.specs.Cursor.{position, rest, Writes, Passes, IsViewOf}
use Rattle.octets.specs.Octets.{Octets}

-- the bytes that were put at i are there
there : (l : List ℕ) (i : ℕ) (w : List ℕ) → i + length w ≤ length l → take (length w) (drop i (splice l i w)) ≡ w
there [] zero [] h = refl
there [] zero (y ∷ w) h = absurd (omega arith)
there [] (suc i) w h = absurd (omega arith)
there (x ∷ l) (suc i) w h = there l i w (omega arith)
there (x ∷ l) zero [] h = refl
there (x ∷ l) zero (y ∷ w) h = ap (λ z. y ∷ z) (there l zero w (omega arith))

-- a view of what was written, from where it was written on, has just that
pub shown : (old new back : SliceCursor) (view : Octets) (w : List ℕ) (len : ℕ) → Writes old new w
    → Passes back new len → len ≡ position new - position old → IsViewOf (take len (rest back)) view
    → rest view ≡ w
shown old new back view w len h g l v =
    let after : new.buf.now ≡ splice old.buf.now old.off w = bytes_after old new w h in
    let same : back.buf.now ≡ splice old.buf.now old.off w = ap (λ (r : MutBor (List ℕ)). r.now) (sym g.1) ∙ after in
    let long : len ≡ length w = omega (arith, h.past) in
    let start : back.off ≡ old.off = omega (arith, h.past, g.0) in
    let fits : old.off + length w ≤ length old.buf.now =
    omega (arith, new.within, h.past, ap length after, length_splice old.buf.now old.off w) in
    ap (λ n. drop n view.buf.now) v.1 ∙ v.0 ∙ ap (λ n. take n (drop back.off back.buf.now)) long
    ∙ ap (λ n. take (length w) (drop n back.buf.now)) start
    ∙ ap (λ z. take (length w) (drop old.off z)) same ∙ there old.buf.now old.off w fits

-- the value of the text of v, or of its lower case, is v, or its lower case
cased_answered : (b : Bool) (v : List ℕ) (m : ℕ) → AreBytes v → length v ≤ m → IsAnswer (text_of b v) m (cased b v)
unfolding cased
cased_answered true v m h l = (lower_bytes v h, omega (arith, length-lower v), text_is_text (lower v))
cased_answered false v m h l = (h, l, text_is_text v)

-- the same of bytes that are that text
pub answered : (b : Bool) (v t : List ℕ) (m : ℕ) → t ≡ text_of b v → AreBytes v → length v ≤ m
    → IsAnswer t m (cased b v)
answered b v t m e h l = subst (λ z. IsAnswer z m (cased b v)) (sym e) (cased_answered b v m h l)

-- a value that is longer than the limit isn't the value under this limit
no_answer : (b : Bool) (v t w : List ℕ) (m : ℕ) → t ≡ text_of b v → AreBytes v → m < length v → IsAnswer t m w → ⊥
no_answer b v t w m e h l a =
    let same : w ≡ cased b v = text_injective w (cased b v) a.0 (cased_bytes b v h) (sym (text_from w t a.2) ∙ e) in
    absurd (omega (arith, ap length same, length-cased b v, a.1))

-- so a decode under the limit fails
pub too_long : {A E : Type 0} (b : Bool) (v t : List ℕ) (m : ℕ) (r : Result (Vec ℕ A) E) → t ≡ text_of b v
    → AreBytes v → m < length v → IfOk r (λ w. IsAnswer t m w.items) → IsErr r
too_long b v t m (Ok w) e h l a = absurd (no_answer b v t w.items m e h l a)
too_long b v t m (Err x) e h l a = refl
