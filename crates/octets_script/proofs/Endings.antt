-- Outcomes of calls that lend, from their clauses.
use Rattle.std.proofs.Common.{◌≡◌, ℕ, ◌+◌, ◌≤◌, ◌<◌, Bool, true, false, List, length, MutBor, refl, sym, ap}
use Rattle.std.proofs.Common.{arith, ◌↔◌, min, Result, Ok, Err, IsOk, IfOk, OnErr, subst, length-append}
use Rattle.std.proofs.Common.{length-drop, drop, [], ◌∷◌, ◌++◌, take, inl}
use mathlib.Core.Bool.{true≢false}
use Rattle.std.specs.Prelude.{nat_le}
use Rattle.std.proofs.lemmas.Bool.{leb-true, leb-false}
use Rattle.octets.specs.Bytes.{splice, over}
use Rattle.octets.specs.Cursor.{bytes, position, IsUnchanged, rest, IsViewOf}
use Rattle.octets.specs.Does.{done_answer}
use Rattle.octets.specs.Slices.{reference}
use Rattle.octets_script.specs.Plays.{ends, Outcome, puts, lends_rest, short, splits, NeedsRoom}
use Rattle.octets.specs.Loans.{SliceCursor}
use Rattle.octets_script.specs.Calls.{Answer, Short, Done, Bytes, SplitAt, Two}
use Rattle.octets.proofs.lemmas.Performs.{ends_same, where_fits, where_short}
use Rattle.octets.proofs.lemmas.Splices.{length_splice, splice_whole, splice-front}
use Rattle.std.proofs.lemmas.List.{length-take, length-take-le}

-- a cursor over the same buffer is over the same slice
pub same_name : (s t : SliceCursor) → t.buf ≡ s.buf → reference t ≡ reference s
same_name s t h = ap (λ (b : MutBor (List ℕ)). b.ghost_name) h

-- what doesn't fit is longer than what remains
pub refused_long : (n k : ℕ) → (n ≤ k → false ≡ true) → k < n
refused_long n k h = by_test (nat_le n k) refl
  where
    by_test : (b : Bool) → nat_le n k ≡ b → k < n
    by_test true e = absurd (true≢false (sym (h (leb-true n k e))))
    by_test false e = leb-false n k e

-- Outcomes of commands that lend.

module _ (s t : SliceCursor) (b w : List ℕ) (n : ℕ) (long : length b ≡ n) where
  abbrev written : List ℕ
  written = splice (splice (bytes s) (position s) b) (position s) (over b w)

  abbrev put_end : Outcome
  put_end = ends Done written (position s + length b)

  abbrev PutEnds : Answer → Type 0
  PutEnds y = (ends y (bytes t) (position t) ≡ puts b w (bytes s) (position s)) × (reference t ≡ reference s)

  -- n bytes were written, and then overwritten
  put_done : n ≤ length (rest s) → bytes t ≡ written → position t ≡ position s + n → reference t ≡ reference s
      → PutEnds Done
  put_done fits wrote moved same = grind (arith, where_fits, put_end, written)

  -- they didn't fit
  put_short : length (rest s) < n → IsUnchanged s t → PutEnds Short
  put_short lacks same = grind (arith, ends_same, where_short, put_end, same_name)

  -- both, by the call's result r
  pub put_ends : {T E : Type 0} (r : Result T E) (y : Answer) → (IsOk r ↔ (n ≤ length (rest s)))
      → IfOk r (λ _. bytes t ≡ written) → IfOk r (λ _. position t ≡ position s + n) → OnErr r (IsUnchanged s t)
      → reference t ≡ reference s → y ≡ done_answer r → PutEnds y
  put_ends (Ok u) y fits wrote moved same name is = subst PutEnds (sym is) (put_done (fits.0 refl) wrote moved name)
  put_ends (Err e) y fits wrote moved same name is =
      subst PutEnds (sym is) (put_short (refused_long n (length (rest s)) fits.1) same)

-- all remaining bytes were lent, and written over
pub rest_lent : (s : SliceCursor) (before part w : List ℕ) → before ≡ rest s → part ≡ over (rest s) w
    → ends (Bytes before) (splice (bytes s) (position s) part)
    (min (position s) (length (splice (bytes s) (position s) part))) ≡ lends_rest w (bytes s) (position s)
rest_lent s before part w shown wrote = grind (arith, length_splice)

-- What is written through a view, of its bytes.

-- bytes that were written over are as many
pub length_over : (b w : List ℕ) → length (over b w) ≡ length b
length_over b w = grind (arith, length-take, length-drop, length-append)

-- what is written over the rest of a view at its start is written over the bytes that it shows
pub over_at_start : (v : SliceCursor) (shown w : List ℕ) → IsViewOf shown v
    → splice v.buf.now v.off (over (drop v.off v.buf.now) w) ≡ over shown w
over_at_start v shown w is = grind (arith, splice_whole, length_over)

-- Outcomes of the command that lends both parts.

-- the bytes d after the bytes a, replaced by as many
splice_behind : (a d b : List ℕ) → length b ≡ length d → splice (a ++ d) (length a) b ≡ a ++ b
splice_behind [] d b e = splice_whole d b e
splice_behind (x ∷ a) d b e = rw (splice_behind a d b e)

-- both parts of l spliced in are the two, one after the other
halves_spliced : (i : ℕ) (l v w : List ℕ) → i ≤ length l → splice (splice l 0 (over (take i l) v)) i (over (drop i l) w)
    ≡ over (take i l) v ++ over (drop i l) w
halves_spliced i l v w h = grind (arith, length_over, length-take-le, splice-front, splice_behind)

module _ (i : ℕ) (l v w : List ℕ) (p : ℕ) where
  abbrev split_end : Outcome
  split_end = ends (Two (take i l) (drop i l)) (splice (splice l 0 (over (take i l) v)) i (over (drop i l) w)) p

  splits-whole : i ≤ length l → splits i v w l p ≡ split_end
  splits-whole h = where_fits i (length l) split_end (short l p) h

  -- where there are both parts, and a byte in them, the command needs memory
  pub halves_room : i ≤ length l → 0 < length (take i l) + length (drop i l) → NeedsRoom (SplitAt i v w) l p
  halves_room h some = inl (split_end, sym (splits-whole h), some)

module _ (s t : SliceCursor) (i : ℕ) (v w : List ℕ) where
  -- both parts were lent and written over
  pub halves_lent : (a b : List ℕ) → i ≤ length (bytes s) → a ≡ take i (bytes s) → b ≡ drop i (bytes s)
      → bytes t ≡ over (take i (bytes s)) v ++ over (drop i (bytes s)) w → position t ≡ position s
      → ends (Two a b) (bytes t) (position t) ≡ splits i v w (bytes s) (position s)
  halves_lent a b fits before after wrote stays = grind (arith, halves_spliced, splits-whole)

  -- the place lies past the bytes
  pub halves_refused : length (bytes s) < i → IsUnchanged s t
      → ends Short (bytes t) (position t) ≡ splits i v w (bytes s) (position s)
  halves_refused lacks same = grind (arith, ends_same, where_short, split_end)

pub ruleset split_ends = (halves_lent, halves_refused, halves_room)
