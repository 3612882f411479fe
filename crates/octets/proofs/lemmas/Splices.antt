-- What a splice keeps.
use Rattle.std.proofs.Common.{◌≡◌, ℕ, zero, suc, ◌+◌, ◌≤◌, List, [], ◌∷◌, ◌++◌, length, take, drop, refl, ap, arith}
use Rattle.std.proofs.Common.{◌∙◌, append_assoc, subst, length-drop, min}
use Rattle.std.proofs.lemmas.Grind.{common_steps}
use Rattle.std.proofs.lemmas.List.{take_at}
use Rattle.octets.specs.Bytes.{splice, part, network}
use Rattle.std.specs.Int.{bytes_high_first}
use Rattle.std.proofs.Math.Bridge.{le_prop}
use Rattle.octets.specs.Loans.{standing, SliceCursor}
use Rattle.octets.specs.declared.cursor.buffer.Bytes.{Ghosts}
use Rattle.octets.specs.declared.cursor.Cursor.{Cursor}
pub use Rattle.octets.specs.Writing.{length_splice, splice-by}

pub splice_nothing : (l : List ℕ) (i : ℕ) → splice l i [] ≡ l
splice_nothing [] i = refl
splice_nothing (x ∷ l) zero = refl
splice_nothing (x ∷ l) (suc i) = ap (λ t. x ∷ t) (splice_nothing l i)

-- a splice within l, by its parts
pub splice-parts : (l : List ℕ) (i : ℕ) (w : List ℕ) → i + length w ≤ length l
    → splice l i w ≡ take i l ++ (w ++ drop (length w) (drop i l))
splice-parts l i w h = splice-by l i w h ∙ append_assoc (take i l) w _

pub splice-front : (l w : List ℕ) → length w ≤ length l → splice l zero w ≡ w ++ drop (length w) l
splice-front l w h = splice-parts l zero w (omega arith)

-- a splice of a list that has the length of the whole is this list
pub splice_whole : (l w : List ℕ) → length w ≡ length l → splice l zero w ≡ w
splice_whole l w e = grind (arith, common_steps, splice-front)

-- what a splice put there is what is there
pub part-spliced : (l : List ℕ) (i n : ℕ) (w : List ℕ) → length w ≡ n → i + n ≤ length (splice l i w)
    → part (splice l i w) i n ≡ w
part-spliced l i n w e h = grind (arith, common_steps, length_splice, splice-parts)

-- w written over a list from i on, cut where the list ends, as a `Vec` has it whose part was lent
pub splice_refilled : (l : List ℕ) (i : ℕ) (w t : List ℕ)
    → take (length l) ((take i l ++ (w ++ drop (length w) (drop i l))) ++ t) ≡ splice l i w
splice_refilled [] i w t = refl
splice_refilled (x ∷ l) (suc i) w t = ap (λ k. x ∷ k) (splice_refilled l i w t)
splice_refilled (x ∷ l) zero [] t = take_at (x ∷ l) t (length (x ∷ l)) refl
splice_refilled (x ∷ l) zero (y ∷ w) t = ap (λ k. y ∷ k) (splice_refilled l zero w t)

-- What a buffer keeps, and the bytes of a number.

-- a buffer that holds a splice of its bytes has as many
pub length_held : {X : Type 0} (g : Ghosts X) (b : X) (i : ℕ) (w : List ℕ)
    → length (g.bytes (g.holding b (splice (g.bytes b) i w))) ≡ length (g.bytes b)
length_held g b i w = grind (arith, length_splice)

-- std's bytes of a number, the highest first, are those in network order
pub network_high : (n v : ℕ) → bytes_high_first n v ≡ network n v
unfolding network
network_high zero v = refl
network_high (suc n) v = grind (arith, network_high n v)

module _ {X : Type 0} {g : Ghosts X} where
  -- two cursors with one buffer and one offset are one
  pub same_cursor : (s c : Cursor X g) → c.buf ≡ s.buf → c.off ≡ s.off → c ≡ s
  same_cursor s c e d =
      let P : X → ℕ → Type 0 = λ y j. (z : j ≤ length _)
      → ◌≡◌ {A = Cursor X g} c (record { buf = y; off = j; within = z }) in
      let K : (c.off ≤ length (g.bytes c.buf)) → Cursor X g = λ u. record { buf = c.buf; off = c.off; within = u } in
      subst (λ y. P y s.off) e (subst (P c.buf) d (λ z. ap K (le_prop c.within z))) s.within

  -- a cursor whose buffer holds a splice of its bytes
  pub standing_is : (c : Cursor X g) (i o : ℕ) (w : List ℕ)
      (h : o ≤ length (g.bytes (g.holding c.buf (splice (g.bytes c.buf) i w))))
      → ◌≡◌ {A = Cursor X g} (record { buf = g.holding c.buf (splice (g.bytes c.buf) i w); off = o; within = h })
      (standing c (splice (g.bytes c.buf) i w) o)
  standing_is c i o w h = same_cursor _ _ refl (omega arith)

-- for `using(..)` at a put
pub ruleset spliced = (length_held, length_splice)

-- The position of a cursor after a loan, for the proofs of callers.

pub stays : (c : SliceCursor) (i : ℕ) (w : List ℕ) → min c.off (length (splice c.buf.now i w)) ≡ c.off
stays c i w = grind (arith, length_splice)

pub goes_past : (c : SliceCursor) (n : ℕ) (w : List ℕ) → n ≤ length (drop c.off c.buf.now)
    → min (c.off + n) (length (splice c.buf.now c.off w)) ≡ c.off + n
goes_past c n w fits = grind (arith, length_splice, length-drop)

-- the same of a cursor over any buffer, and what its buffer then holds
module _ {X : Type 0} {g : Ghosts X} where
  pub buffer_stays : (c : Cursor X g) (i : ℕ) (w : List ℕ)
      → min c.off (length (g.bytes (g.holding c.buf (splice (g.bytes c.buf) i w)))) ≡ c.off
  buffer_stays c i w = grind (arith, length_held)

  pub buffer_goes_past : (c : Cursor X g) (n : ℕ) (w : List ℕ) → n ≤ length (drop c.off (g.bytes c.buf))
      → min (c.off + n) (length (g.bytes (g.holding c.buf (splice (g.bytes c.buf) c.off w)))) ≡ c.off + n
  buffer_goes_past c n w fits = grind (arith, length_held, length-drop)

  pub buffer_holds : (c : Cursor X g) (i : ℕ) (w : List ℕ) → g.bytes (g.holding c.buf (splice (g.bytes c.buf) i w))
      ≡ splice (g.bytes c.buf) i w
  buffer_holds c i w = grind (arith, length_splice)
