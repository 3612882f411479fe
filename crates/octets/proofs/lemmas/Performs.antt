-- That calls do what the model says.
use Rattle.std.proofs.Common.{◌≡◌, ◌↔◌, ℕ, zero, suc, ◌+◌, ◌-◌, ◌≤◌, ◌<◌, List, [], ◌∷◌, ◌++◌, length, take, drop, refl}
use Rattle.std.proofs.Common.{ap, sym, ◌∙◌, arith, inl, inr, Result, Ok, Err, IsOk, IsErr, IfOk, OnOk, OnErr}
use Rattle.std.proofs.Common.{Bool, true, false, Vec, take-append-drop, append-nil, length-drop}
use Rattle.std.specs.Prelude.{nat_le, if◌then◌else◌}
use Rattle.std.proofs.lemmas.Bool.{le-leb, lt-leb}
use Rattle.octets.specs.Bytes.{number, part, splice, over}
use Rattle.octets.specs.Varints.{BeginsVarint, HasNoVarint, BeginsOverlong, shortest}
use Rattle.octets.specs.declared.cursor.buffer.Bytes.{Ghosts}
use Rattle.octets.specs.declared.cursor.Cursor.{Cursor}
use Rattle.octets.specs.Cursor.{bytes, position, rest, holder, Advances, Passes, IsUnchanged, IsViewOf}
use Rattle.octets.specs.Cursor.{Writes}
use Rattle.octets.specs.Octets.{Octets}
use Rattle.octets.proofs.CallerLemmas.{passes_more}
use Rattle.octets.specs.Writing.{bytes_after}
use Rattle.octets.specs.Calls.{GetVarintShortest, GetBytesVarint, SliceLast, Decode, Answer, Done, Number, Bytes}
use Rattle.octets.specs.Calls.{Short, Overlong}
use Rattle.octets.specs.Steps.{ends, bytes_left, gets_behind, gets_prefixed, puts_text}
use Rattle.octets.specs.Does.{Does, put_text, done_answer, varint_answer, view_answer, value_answer}
use Rattle.octets.specs.Decodes.{EndsDecode, UnlessMemory}
use Rattle.octets.specs.Encodes.{cased, text_of}
use Rattle.octets.specs.Pieces.{kept_length}
use Rattle.octets.specs.declared.error.DecodeError.{DecodeError}
use Rattle.octets.specs.declared.error.DecodeError.TheVariants as D
use Rattle.octets.specs.declared.error.VarintError.{VarintError}
use Rattle.octets.specs.declared.error.VarintError.TheVariants as V
use Rattle.octets_code.specs.Answers.{IsAnswer}
use Rattle.octets_code.specs.Texts.{text, lower}
use Rattle.std.proofs.lemmas.Bool.Decides.{nat_tests}

-- a choice by a test of numbers
pub where_fits : {A : Type 0} (n k : ℕ) (a b : A) → n ≤ k → (if nat_le n k then a else b) ≡ a
where_fits n k a b h = rw (le-leb n k h)

-- and if the first is greater
pub where_short : {A : Type 0} (n k : ℕ) (a b : A) → k < n → (if nat_le n k then a else b) ≡ b
where_short n k a b h = rw (lt-leb n k h)

-- bytes that a list has are put in their own place
pub splice_own : (l : List ℕ) (i : ℕ) (w r : List ℕ) → drop i l ≡ w ++ r → splice l i w ≡ l
splice_own [] i w r e = refl
splice_own (x ∷ l) (suc i) w r e = ap (λ t. x ∷ t) (splice_own l i w r e)
splice_own (x ∷ l) zero [] r e = refl
splice_own (x ∷ l) zero (y ∷ w) r e = let same : l ≡ w ++ r = cc in
    ap (λ t. y ∷ t) (splice_own l zero w r same) ∙ cc

over_nothing : (b : List ℕ) → over b [] ≡ b
over_nothing [] = refl
over_nothing (x ∷ b) = refl

-- if nothing is written over bytes that were lent, the list is unchanged
pub nothing_over : (l : List ℕ) (i n : ℕ) → splice l i (over (part l i n) []) ≡ l
nothing_over l i n = ap (splice l i) (over_nothing (part l i n))
    ∙ splice_own l i (part l i n) (drop n (drop i l)) (sym (take-append-drop n (drop i l)))

nothing_over_last : (l : List ℕ) (i : ℕ) → splice l i (over (drop i l) []) ≡ l
nothing_over_last l i = ap (splice l i) (over_nothing (drop i l))
    ∙ splice_own l i (drop i l) [] (sym (append-nil (drop i l)))

-- the length and its bytes are complete
behind_whole : (w n : ℕ) (l : List ℕ) (p : ℕ) → w + n ≤ bytes_left l p
    → gets_behind w n l p ≡ ends (Bytes (part (drop p l) w n)) l (p + (w + n))
behind_whole w n l p h = grind (arith, where_fits)

-- only the length is complete
behind_short : (w n : ℕ) (l : List ℕ) (p : ℕ) → bytes_left l p < w + n → gets_behind w n l p ≡ ends Short l (p + w)
behind_short w n l p h = grind (arith, where_short)

-- a number of w bytes and its bytes are complete
prefixed_whole : (w : ℕ) (l : List ℕ) (p : ℕ) → w + number (part l p w) ≤ bytes_left l p
    → gets_prefixed w l p ≡ ends (Bytes (part (drop p l) w (number (part l p w)))) l (p + (w + number (part l p w)))
prefixed_whole w l p h = grind (arith, where_fits, behind_whole)

-- only the number is complete
prefixed_short : (w : ℕ) (l : List ℕ) (p : ℕ) → w ≤ bytes_left l p → bytes_left l p < w + number (part l p w)
    → gets_prefixed w l p ≡ ends Short l (p + w)
prefixed_short w l p h k = grind (arith, where_fits, behind_short)

module _ {X : Type 0} {g : Ghosts X} where
  -- a cursor that passed n bytes
  pub ends_past : (s t : Cursor X g) (n : ℕ) (r : Answer) → Passes s t n
      → ends r (bytes t) (position t) ≡ ends r (bytes s) (position s + n)
  ends_past s t n r h = cc

  -- a cursor that is unchanged
  pub ends_same : (s t : Cursor X g) (r : Answer) → IsUnchanged s t
      → ends r (bytes t) (position t) ≡ ends r (bytes s) (position s)
  ends_same s t r h = cc

  -- a cursor that wrote w
  pub ends_writing : (s t : Cursor X g) (w : List ℕ) (r : Answer) → Writes s t w
      → ends r (bytes t) (position t) ≡ ends r (splice (bytes s) (position s) w) (position s + length w)
  ends_writing s t w r h = ap (λ l. ends r l (position t)) (bytes_after s t w h)
      ∙ ap (ends r (splice (bytes s) (position s) w)) h.past

  -- a cursor over the same buffer
  same_holder : (s t : Cursor X g) → t.buf ≡ s.buf → holder t ≡ holder s
  same_holder s t h = cc

  -- What a read of a varint in its least width makes of a cursor.

  -- the varint has the least width
  pub shortest_read : (s t : Cursor X g) (n : ℕ) → BeginsVarint (rest s) (shortest n) n → Passes s t (shortest n)
      → Does GetVarintShortest s (Number n) t
  unfolding Does
  shortest_read s t n begins passed = grind (arith, nat_tests, ends_past, same_holder)

  -- a smaller width holds its number
  pub shortest_overlong : (s t : Cursor X g) → BeginsOverlong (rest s) → IsUnchanged s t
      → Does GetVarintShortest s Overlong t
  unfolding Does
  shortest_overlong s t over still = grind (arith, nat_tests, ends_same, same_holder)

  -- there is no complete varint
  pub shortest_none : (s t : Cursor X g) → HasNoVarint (rest s) → IsUnchanged s t → Does GetVarintShortest s Short t
  unfolding Does
  shortest_none s t none still = (inr (none, ends_same s t Short still), same_holder s t still.1)

  -- the result says which
  pub shortest_refused : (s t : Cursor X g) (r : Result ℕ VarintError) → IsErr r
      → ((r ≡ Err V.Short) ↔ HasNoVarint (rest s)) → ((r ≡ Err V.Overlong) ↔ BeginsOverlong (rest s))
      → IsUnchanged s t → Does GetVarintShortest s (varint_answer r) t
  shortest_refused s t (Ok n) err short over still = absurd (grind arith)
  shortest_refused s t (Err V.Short) err short over still = shortest_none s t (short.0 refl) still
  shortest_refused s t (Err V.Overlong) err short over still = shortest_overlong s t (over.0 refl) still

  -- Writes of texts.

  -- the whole text of v is written, or a prefix of it
  pub text_put : {T E : Type 0} (s t : Cursor X g) (v : List ℕ) (r : Result T E)
      → (IsOk r ↔ (length (text v) ≤ length (rest s))) → OnOk r (Writes s t (text v))
      → OnErr r (Writes s t (take (kept_length (length (rest s)) v) (text v)))
      → (ends (done_answer r) (bytes t) (position t) ≡ puts_text v (bytes s) (position s)) × (holder t ≡ holder s)
  text_put s t v (Ok u) fits wrote front = (
    ends_writing s t (text v) Done wrote ∙ sym (where_fits (length (text v)) (length (rest s)) _ _ (fits.0 refl)),
    wrote.same_holder,
  )
  text_put s t v (Err e) fits wrote front =
      let long : length (rest s) < length (text v) = grind arith in (
        ends_writing s t _ Short front ∙ sym (where_short (length (text v)) (length (rest s)) _ _ long),
        front.same_holder,
      )

  -- in the given case
  pub cased_put : {T E : Type 0} (to_lower : Bool) (s t : Cursor X g) (v : List ℕ) (r : Result T E)
      → (IsOk r ↔ (length (text_of to_lower v) ≤ length (rest s))) → OnOk r (Writes s t (text_of to_lower v))
      → OnErr r (Writes s t (take (kept_length (length (rest s)) (cased to_lower v)) (text_of to_lower v)))
      → Does (put_text to_lower v) s (done_answer r) t
  unfolding Does cased
  cased_put true s t v r fits wrote front = text_put s t (lower v) r fits wrote front
  cased_put false s t v r fits wrote front = text_put s t v r fits wrote front

  -- a cursor that passed bytes, or is unchanged, didn't go back
  pub passes_on : (s t : Cursor X g) (n : ℕ) → Passes s t n → Advances s t
  passes_on s t n h = (omega (arith, h.0), h.1)

  pub stays_on : (s t : Cursor X g) → IsUnchanged s t → Advances s t
  stays_on s t h = (omega (arith, h.0), h.1)

  -- Reads of bytes after a length.

  -- after a number of w bytes
  pub after_number : {E : Type 0} (s t : Cursor X g) (r : Result Octets E) (w : ℕ) → w ≤ length (rest s)
      → let n = number (take w (rest s)) in (IsOk r ↔ (w + n ≤ length (rest s))) → IfOk r (IsViewOf (part (rest s) w n))
      → OnOk r (Passes s t (w + n)) → OnErr r (Passes s t w)
      → (ends (view_answer r) (bytes t) (position t) ≡ gets_prefixed w (bytes s) (position s)) × (holder t ≡ holder s)
      × Advances s t
  after_number s t (Ok v) w has fits shown past short =
      let n = number (take w (rest s)) in (
        ap (λ b. ends (Bytes b) (bytes t) (position t)) shown.0 ∙ ends_past s t (w + n) _ past
            ∙ sym (prefixed_whole w _ _ (fits.0 refl)),
        same_holder s t past.1,
        passes_on s t _ past,
      )
  after_number s t (Err e) w has fits shown past short =
      let long : length (rest s) < w + number (take w (rest s)) = grind arith in (
        ends_past s t w Short short ∙ sym (prefixed_short w _ _ has long),
        same_holder s t short.1,
        passes_on s t _ short,
      )

  -- there is no such number
  pub no_number : {E : Type 0} (s t : Cursor X g) (r : Result Octets E) (w : ℕ) → IsErr r → length (rest s) < w
      → IsUnchanged s t
      → (ends (view_answer r) (bytes t) (position t) ≡ gets_prefixed w (bytes s) (position s)) × (holder t ≡ holder s)
      × Advances s t
  no_number s t (Ok v) w err lacks still = absurd (grind arith)
  no_number s t (Err e) w err lacks still =
      (ends_same s t Short still ∙ sym (where_short w _ _ _ lacks), same_holder s t still.1, stays_on s t still)

  -- The number was read from s to m, and then x bytes from m to t.
  pub two_reads : {E : Type 0} (s m t : Cursor X g) (r : Result Octets E) (w n x : ℕ) → x ≡ n → Passes s m w
      → w ≤ length (rest s) → (IsOk r ↔ (x ≤ length (rest m))) → IfOk r (IsViewOf (take x (rest m)))
      → OnOk r (Passes m t x) × OnErr r (IsUnchanged m t)
      → (IsOk r ↔ (w + n ≤ length (rest s))) × IfOk r (IsViewOf (part (rest s) w n))
      × OnOk r (Passes s t (w + n)) × OnErr r (Passes s t w)
  two_reads s m t (Ok v) w n x is moved has fits shown past = grind (arith, passes_more, length-drop)
  two_reads s m t (Err e) w n x is moved has fits shown past = grind (arith, length-drop)

  -- after a varint
  pub after_varint : {E : Type 0} (s t : Cursor X g) (r : Result Octets E) (w n : ℕ) → BeginsVarint (rest s) w n
      → (IsOk r ↔ (w + n ≤ length (rest s))) → IfOk r (IsViewOf (part (rest s) w n))
      → OnOk r (Passes s t (w + n)) × OnErr r (Passes s t w)
      → Does GetBytesVarint s (view_answer r) t × Advances s t
  unfolding Does
  after_varint s t (Ok v) w n begins fits shown past = (
    (
      inl (
        w,
        n,
        begins,
        ap (λ b. ends (Bytes b) (bytes t) (position t)) shown.0 ∙ ends_past s t (w + n) _ past.0
            ∙ sym (behind_whole w n _ _ (fits.0 refl)),
      ),
      same_holder s t past.0.1,
    ),
    passes_on s t _ past.0,
  )
  after_varint s t (Err e) w n begins fits shown past =
      let long : length (rest s) < w + n = grind arith in (
        (inl (w, n, begins, ends_past s t w Short past.1 ∙ sym (behind_short w n _ _ long)), same_holder s t past.1.1),
        passes_on s t _ past.1,
      )

  -- fewer bytes follow a varint than it says
  pub short_after_varint : (s t : Cursor X g) (w n : ℕ) → BeginsVarint (rest s) w n → length (rest s) < w + n
      → Passes s t w → Does GetBytesVarint s Short t × Advances s t
  unfolding Does
  short_after_varint s t w n begins long moved = (
    (inl (w, n, begins, ends_past s t w Short moved ∙ sym (behind_short w n _ _ long)), same_holder s t moved.1),
    passes_on s t _ moved,
  )

  -- there is no complete varint
  pub no_varint : {E : Type 0} (s t : Cursor X g) (r : Result Octets E) → IsErr r → HasNoVarint (rest s)
      → IsUnchanged s t → Does GetBytesVarint s (view_answer r) t × Advances s t
  unfolding Does
  no_varint s t (Ok v) err none still = absurd (grind arith)
  no_varint s t (Err e) err none still =
      ((inr (none, ends_same s t Short still), same_holder s t still.1), stays_on s t still)

-- the last n bytes b are lent, and nothing is written over them
pub last_lent : {X : Type 0} {g : Ghosts X} (s : Cursor X g) (n : ℕ) (b : List ℕ) → n ≤ length (rest s)
    → b ≡ drop (length (bytes s) - n) (bytes s) → Does (SliceLast n []) s (Bytes b) s
unfolding Does
last_lent s n b fits is =
    let l = bytes s in let i = length l - n in (
      ap (λ x. ends (Bytes x) l (position s)) is
          ∙ ap (λ x. ends (Bytes (drop i l)) x (position s)) (sym (nothing_over_last l i))
          ∙ sym (where_fits n (length (rest s)) _ _ fits),
      refl,
    )

-- a decode, unless its allocation failed
pub decodes : {A : Type 0} (s t : Octets) (m : ℕ) (r : Result (Vec ℕ A) DecodeError)
    → IfOk r (λ v. IsAnswer (rest s) m v.items) → EndsDecode s t m r
    → UnlessMemory r (Does (Decode m) s (value_answer r) t)
unfolding Does
decodes s t m (Ok v) is h =
    (inl (v.items, is, ends_past s t (length (rest s)) (Bytes v.items) h.passed), same_holder s t h.passed.1)
decodes s t m (Err (D.Short e)) is h =
    let n = h.refused in (inr (n.0, n.1, ends_past s t n.0 Short n.2), same_holder s t n.2.1)
decodes s t m (Err (D.Memory e)) is h = tt
