-- What a cursor holds after a write, in the terms of the ghost members.
use Rattle.std.proofs.Common.{◌≡◌, ℕ, zero, suc, ◌+◌, ◌≤◌, List, [], ◌∷◌, ◌++◌, length, take, drop, Some}
use Rattle.std.proofs.Common.{MutBor, append-nil, append_assoc, take-append-drop, length-append, length-drop}
use Rattle.std.proofs.Common.{refl, sym, ◌∙◌, ap, arith}
use Rattle.octets.specs.Loans.{SliceCursor}
use Rattle.octets.specs.Bytes.{splice}
use Rattle.octets.specs.declared.cursor.buffer.Bytes.{Ghosts}
use Rattle.octets.specs.declared.cursor.Cursor.{Cursor}
use Rattle.octets.specs.Cursor.{bytes, position, rest, passed, Writes}
use Rattle.octets.specs.Slices.{reference}
use Rattle.std.proofs.lemmas.List.{drop-drop}

-- a splice has the length of the list
pub length_splice : (l : List ℕ) (i : ℕ) (w : List ℕ) → length (splice l i w) ≡ length l
length_splice [] i w = refl
length_splice (x ∷ l) (suc i) w = ap suc (length_splice l i w)
length_splice (x ∷ l) zero [] = refl
length_splice (x ∷ l) zero (y ∷ w) = ap suc (length_splice l zero w)

-- up to its end, a splice has what was before it and then what it puts there
pub take-splice_end : (l : List ℕ) (i : ℕ) (w : List ℕ) → i + length w ≤ length l
    → take (i + length w) (splice l i w) ≡ take i l ++ w
take-splice_end [] zero [] h = refl
take-splice_end [] zero (y ∷ w) h = absurd (omega arith)
take-splice_end [] (suc i) w h = absurd (omega arith)
take-splice_end (x ∷ l) zero [] h = refl
take-splice_end (x ∷ l) zero (y ∷ w) h =
    let e : 0 + length (y ∷ w) ≡ suc (0 + length w) = omega arith in
    ap (λ k. take k (y ∷ splice l zero w)) e ∙ ap (λ t. y ∷ t) (take-splice_end l zero w (omega arith))
take-splice_end (x ∷ l) (suc i) w h =
    let e : suc i + length w ≡ suc (i + length w) = omega arith in
    ap (λ k. take k (x ∷ splice l i w)) e ∙ ap (λ t. x ∷ t) (take-splice_end l i w (omega arith))

-- after its end, a splice has what the list has there
pub drop-splice_end : (l : List ℕ) (i : ℕ) (w : List ℕ) → drop (i + length w) (splice l i w) ≡ drop (i + length w) l
drop-splice_end [] i w = refl
drop-splice_end (x ∷ l) zero [] = refl
drop-splice_end (x ∷ l) zero (y ∷ w) =
    let e : 0 + length (y ∷ w) ≡ suc (0 + length w) = omega arith in
    ap (λ k. drop k (y ∷ splice l zero w)) e ∙ drop-splice_end l zero w ∙ ap (λ k. drop k (x ∷ l)) (sym e)
drop-splice_end (x ∷ l) (suc i) w =
    let e : suc i + length w ≡ suc (i + length w) = omega arith in
    ap (λ k. drop k (x ∷ splice l i w)) e ∙ drop-splice_end l i w ∙ ap (λ k. drop k (x ∷ l)) (sym e)

-- a splice is what was before it, what it puts there, and what was after it
pub splice-by : (l : List ℕ) (i : ℕ) (w : List ℕ) → i + length w ≤ length l
    → splice l i w ≡ (take i l ++ w) ++ drop (length w) (drop i l)
splice-by l i w h =
    sym (take-append-drop (i + length w) (splice l i w))
    ∙ ap (λ t. t ++ drop (i + length w) (splice l i w)) (take-splice_end l i w h)
    ∙ ap (λ t. (take i l ++ w) ++ t) (drop-splice_end l i w ∙ sym (drop-drop (length w) i l))

module _ {X : Type 0} {g : Ghosts X} where
  -- the bytes after a write are a splice
  pub bytes_after : (a b : Cursor X g) (w : List ℕ) → Writes a b w → bytes b ≡ splice (bytes a) (position a) w
  bytes_after a b w h =
      let within : position a + length w ≤ length (bytes a) =
      omega (arith, length-drop (position a) (bytes a), a.within, h.room) in
      sym (take-append-drop (position b) (bytes b)) ∙ ap (λ t. t ++ rest b) h.before
      ∙ ap (λ t. (passed a ++ w) ++ t) h.after ∙ sym (splice-by (bytes a) (position a) w within)

  -- two writes one after the other are one write
  pub writes_more : (a b c : Cursor X g) (u w : List ℕ) → Writes a b u → Writes b c w → Writes a c (u ++ w)
  writes_more a b c u w h k = record {
    past = omega (arith, h.past, k.past, length-append u w);
    room = omega (arith, h.room, k.room, length-append u w);
    before = k.before ∙ ap (λ l. l ++ w) h.before ∙ append_assoc (passed a) u w;
    after = k.after ∙ ap (drop (length w)) h.after ∙ drop-drop (length w) (length u) (rest a)
        ∙ ap (λ n. drop n (rest a)) (sym (length-append u w));
    same_holder = k.same_holder ∙ h.same_holder;
  }

  -- a cursor that doesn't change has written nothing
  pub writes_nothing : (a : Cursor X g) → Writes a a []
  writes_nothing a = record {
    past = omega arith;
    room = omega arith;
    before = sym (append-nil (passed a));
    after = refl;
    same_holder = refl;
  }

  -- the number of remaining bytes decreases by the number of bytes that were written
  pub room_falls : (a b : Cursor X g) (w : List ℕ) → Writes a b w
      → Some (length (rest a)) ≡ Some (length w + length (rest b))
  room_falls a b w h = ap Some h.room

  -- a write leaves the length of the buffer unchanged
  pub same_length : (a b : Cursor X g) (w : List ℕ) → Writes a b w → length (bytes b) ≡ length (bytes a)
  same_length a b w h = ap length (bytes_after a b w h) ∙ length_splice (bytes a) (position a) w

-- after a write the cursor is still over the same slice of the caller
pub same_reference : (a b : SliceCursor) (w : List ℕ) → Writes a b w → reference b ≡ reference a
same_reference a b w h = ap (λ (r : MutBor (List ℕ)). r.ghost_name) h.same_holder
