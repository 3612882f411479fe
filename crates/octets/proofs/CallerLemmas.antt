-- Lemmas for the proofs of callers, which pass bytes, write one thing after another, and go back.
use Rattle.std.proofs.Common.{◌≡◌, ℕ, zero, suc, ◌+◌, ◌-◌, ◌*◌, ◌<◌, ◌^◌, ◌≤◌, List, [], ◌∷◌, ◌++◌, take, drop, length}
use Rattle.std.proofs.Common.{false, append-nil, length-append, length-take, length-drop}
use Rattle.std.proofs.Common.{take-append-drop, Result, Ok, Err, IfOk, OnErr, IsOk, ◌↔◌, ap, sym, ◌∙◌, subst, refl}
use Rattle.std.proofs.Common.{arith}
use Rattle.std.proofs.lemmas.Grind.{common_steps}
use Rattle.std.proofs.lemmas.List.{drop-drop, drop_at, drop_more, take_all, take_at}
use Rattle.std.proofs.Math.Nat.{mod-eq_of_lt}
use Rattle.std.proofs.Math.Seq.{take-add}
use Rattle.octets_code.specs.Texts.{text}
use Rattle.octets.specs.Bytes.{network, number, splice}
use Rattle.octets.specs.Encodes.{cased, text_of}
use Rattle.octets.specs.Loans.{standing, SliceCursor}
use Rattle.octets.specs.Cursor.{bytes, position, passed, rest, Advances, IsViewOf, Keeps, Passes, Reads, Writes}
use Rattle.octets.specs.Varints.{IsVarint, IsWidth, BeginsVarint, shortest, varint}
use Rattle.octets.specs.Writing.{writes_more}
use Rattle.octets.proofs.lemmas.Writes.{is_write}
use Rattle.octets.specs.Octets.{Octets}
use Rattle.octets.specs.declared.cursor.buffer.Bytes.{Ghosts}
use Rattle.octets.specs.declared.cursor.Cursor.{Cursor}
use Rattle.octets.proofs.lemmas.Splices.{length_held}
pub use Rattle.std.proofs.Common.{append_assoc}
pub use Rattle.octets_code.proofs.Lowering.{lower_bytes}
pub use Rattle.octets.specs.Writing.{bytes_after}
pub use Rattle.octets.proofs.lemmas.Splices.{splice_nothing, splice_refilled, splice_whole}
pub use Rattle.octets.proofs.lemmas.Writes.{write_fits, write_of}
pub use Rattle.octets.proofs.lemmas.Splices.{stays, goes_past, buffer_stays, buffer_goes_past, buffer_holds}
pub use Rattle.octets.proofs.lemmas.CasedCodes.{cased_bytes}
pub use Rattle.octets.proofs.lemmas.Giving.{front_first, front_then, front_whole}
pub use Rattle.octets.proofs.lemmas.Writes.{keeps_unchanged, keeps_writes, keeps_more, wrote_nothing, wrote_front}
pub use Rattle.octets.proofs.lemmas.Writes.{wrote_front_at}
pub use Rattle.octets.proofs.lemmas.Numbers.{length_network, network_byte, number_below, number-network, network-number}
pub use Rattle.octets.proofs.lemmas.Varints.{begins_some, begins_one, begins_width, begins_below, begins_least}
pub use Rattle.octets.proofs.lemmas.Varints.{begins_spelled, begins_within, length_varint, varint_only, varint_of_width}
pub use Rattle.octets.proofs.lemmas.Varints.{shortest_width, shortest_holds}

-- a list of length 0 after another list changes nothing
pub nothing_behind : (x l : List ℕ) → length l ≡ 0 → x ++ l ≡ x
nothing_behind x [] h = append-nil x
nothing_behind x (y ∷ l) h = absurd (omega arith)

-- several writes, one after the other, in two parts: the first of them, and the last
pub append_parts : (x y z : List ℕ) → x ++ (y ++ z) ≡ (x ++ y) ++ z
append_parts x y z = sym (append_assoc x y z)

pub drop_parts : (x y l : List ℕ) → drop (length (x ++ y)) l ≡ drop (length y) (drop (length x) l)
drop_parts x y l = grind (arith, common_steps)

-- a varint that was written is the one with which the bytes begin, in any width that holds its number
pub begins_in_width : (w n : ℕ) (y : List ℕ) → IsWidth w → n < 2 ^ (8 * w - 2) → BeginsVarint (varint w n ++ y) w n
unfolding BeginsVarint
begins_in_width w n y h held =
    let is : IsVarint (varint w n) w n = varint_of_width w n h held in grind (arith, common_steps)

-- the same in the least width
pub begins_front : (n : ℕ) (y : List ℕ) → n < 2 ^ 62 → BeginsVarint (varint (shortest n) n ++ y) (shortest n) n
begins_front n y small = begins_in_width _ n y (shortest_width n) (shortest_holds n small)

-- the same if no bytes follow the varint
pub begins_last : (n : ℕ) → n < 2 ^ 62 → BeginsVarint (varint (shortest n) n) (shortest n) n
begins_last n small = subst (λ l. BeginsVarint l (shortest n) n) (append-nil _) (begins_front n [] small)

-- after a list of length w come two lists: the first of them, and the second
behind : (w : ℕ) (a x y : List ℕ) → length a ≡ w
    → (take (length x) (drop w (a ++ (x ++ y))) ≡ x) × (drop (w + length x) (a ++ (x ++ y)) ≡ y)
behind w a x y h =
    let both : drop w (a ++ (x ++ y)) ≡ x ++ y = drop_at a (x ++ y) w h in (
      ap (take (length x)) both ∙ take_at x y (length x) refl,
      sym (drop-drop (length x) w _) ∙ ap (drop (length x)) both ∙ drop_at x y (length x) refl,
    )

-- A number with other bytes after it: its bytes, and the bytes that follow. The first equation of this lemma and
-- of those below only shows a tactic where to use the lemma. Without it a tactic would compute `take 2 l` to cases
-- of l, in which there is no `take`.
pub number_front : (w v : ℕ) (y : List ℕ) → (network w v ++ y ≡ network w v ++ y)
    × (take w (network w v ++ y) ≡ network w v) × (drop w (network w v ++ y) ≡ y)
number_front w v y = grind (arith, take_at, length_network, drop_at)

-- the same if no bytes follow the number
pub number_last : (w v : ℕ) → (network w v ≡ network w v) × (take w (network w v) ≡ network w v)
number_last w v = grind (arith, take_all, length_network)

-- a run after its length: the run, and the bytes that follow
pub number_run : (w : ℕ) (x y : List ℕ) → (network w (length x) ++ (x ++ y) ≡ network w (length x) ++ (x ++ y))
    × (take (length x) (drop w (network w (length x) ++ (x ++ y))) ≡ x)
    × (drop (w + length x) (network w (length x) ++ (x ++ y)) ≡ y)
number_run w x y = let h = behind w _ x y (length_network w (length x)) in (refl, h.0, h.1)

-- a varint with other bytes after it, in a width that holds its number: the bytes begin with it
pub width_front : (w n : ℕ) (y : List ℕ) → IsWidth w → n < 2 ^ (8 * w - 2)
    → (varint w n ++ y ≡ varint w n ++ y) × BeginsVarint (varint w n ++ y) w n
width_front w n y h held = (refl, begins_in_width w n y h held)

pub width_last : (w n : ℕ) → IsWidth w → n < 2 ^ (8 * w - 2) → (varint w n ≡ varint w n) × BeginsVarint (varint w n) w n
width_last w n h held = (refl, subst (λ l. BeginsVarint l w n) (append-nil _) (begins_in_width w n [] h held))

pub least_front : (n : ℕ) (y : List ℕ) → n < 2 ^ 62 → (varint (shortest n) n ++ y ≡ varint (shortest n) n ++ y)
    × BeginsVarint (varint (shortest n) n ++ y) (shortest n) n
least_front n y small = (refl, begins_front n y small)

pub least_last : (n : ℕ) → n < 2 ^ 62
    → (varint (shortest n) n ≡ varint (shortest n) n) × BeginsVarint (varint (shortest n) n) (shortest n) n
least_last n small = (refl, begins_last n small)

-- a varint with other bytes after it: its bytes, and the bytes that follow
pub varint_front : (w n : ℕ) (y : List ℕ)
    → (varint w n ++ y ≡ varint w n ++ y) × (take w (varint w n ++ y) ≡ varint w n) × (drop w (varint w n ++ y) ≡ y)
varint_front w n y = grind (arith, take_at, length_varint, drop_at)

pub varint_run : (w : ℕ) (x y : List ℕ) → (varint w (length x) ++ (x ++ y) ≡ varint w (length x) ++ (x ++ y))
    × (take (length x) (drop w (varint w (length x) ++ (x ++ y))) ≡ x)
    × (drop (w + length x) (varint w (length x) ++ (x ++ y)) ≡ y)
varint_run w x y = let h = behind w _ x y (length_varint w (length x)) in (refl, h.0, h.1)

-- All that a reader of one field needs to know of a number: its value, the bytes that follow, and how many bytes
-- there are. Use this lemma and the next ones, one for each field, if the single equations above are too many.
pub number_part : (w v : ℕ) (y : List ℕ) → v < 256 ^ w → (network w v ++ y ≡ network w v ++ y)
    × (number (take w (network w v ++ y)) ≡ v) × (drop w (network w v ++ y) ≡ y)
    × (w + length y ≡ length (network w v ++ y))
number_part w v y h =
    let a = number_front w v y in (
      refl,
      ap number (a.1) ∙ (number-network w v ∙ mod-eq_of_lt h),
      a.2,
      grind (arith, length-append, length_network),
    )

pub number_end : (w v : ℕ) → v < 256 ^ w → (network w v ≡ network w v) × (number (take w (network w v)) ≡ v)
    × (drop w (network w v) ≡ []) × (length (network w v) ≡ w)
number_end w v h =
    let l = append-nil (network w v) in let a = number_part w v [] h in (
      refl,
      subst (λ k. number (take w k) ≡ v) l (a.1),
      subst (λ k. drop w k ≡ []) l (a.2),
      length_network w v,
    )

pub run_part : (w : ℕ) (x y : List ℕ) → length x < 256 ^ w
    → (network w (length x) ++ (x ++ y) ≡ network w (length x) ++ (x ++ y))
    × (number (take w (network w (length x) ++ (x ++ y))) ≡ length x)
    × (take (length x) (drop w (network w (length x) ++ (x ++ y))) ≡ x)
    × (drop (w + length x) (network w (length x) ++ (x ++ y)) ≡ y)
    × (w + length x + length y ≡ length (network w (length x) ++ (x ++ y)))
run_part w x y h =
    let a = number_part w (length x) (x ++ y) h in let b = number_run w x y in (
      refl,
      a.1,
      b.1,
      b.2,
      grind (arith, length-append, length_network),
    )

pub run_end : (w : ℕ) (x : List ℕ) → length x < 256 ^ w
    → (network w (length x) ++ x ≡ network w (length x) ++ x) × (number (take w (network w (length x) ++ x)) ≡ length x)
    × (take (length x) (drop w (network w (length x) ++ x)) ≡ x)
    × (drop (w + length x) (network w (length x) ++ x) ≡ [])
    × (w + length x ≡ length (network w (length x) ++ x))
run_end w x h =
    let l = ap (λ k. network w (length x) ++ k) (append-nil x) in let a = run_part w x [] h in (
      refl,
      subst (λ k. number (take w k) ≡ length x) l (a.1),
      subst (λ k. take (length x) (drop w k) ≡ x) l (a.2),
      subst (λ k. drop (w + length x) k ≡ []) l (a.3),
      grind (arith, length-append, length_network),
    )

pub least_part : (n : ℕ) (y : List ℕ) → n < 2 ^ 62 → (varint (shortest n) n ++ y ≡ varint (shortest n) n ++ y)
    × BeginsVarint (varint (shortest n) n ++ y) (shortest n) n × (drop (shortest n) (varint (shortest n) n ++ y) ≡ y)
    × (shortest n + length y ≡ length (varint (shortest n) n ++ y))
least_part n y small =
    let a = varint_front (shortest n) n y in (
      refl,
      begins_front n y small,
      a.2,
      grind (arith, length-append, length_varint),
    )

pub least_run : (x y : List ℕ) → length x < 2 ^ 62
    → (varint (shortest (length x)) (length x) ++ (x ++ y) ≡ varint (shortest (length x)) (length x) ++ (x ++ y))
    × BeginsVarint (varint (shortest (length x)) (length x) ++ (x ++ y)) (shortest (length x)) (length x)
    × (take (length x) (drop (shortest (length x)) (varint (shortest (length x)) (length x) ++ (x ++ y))) ≡ x)
    × (drop (shortest (length x) + length x) (varint (shortest (length x)) (length x) ++ (x ++ y)) ≡ y)
    × (shortest (length x) + length x + length y
    ≡ length (varint (shortest (length x)) (length x) ++ (x ++ y)))
least_run x y small =
    let w = shortest (length x) in let b = varint_run w x y in (
      refl,
      begins_front (length x) (x ++ y) small,
      b.1,
      b.2,
      grind (arith, length-append, length_varint),
    )

-- a list is what comes before a position, and then what comes from it on
pub both_sides : (n : ℕ) (l : List ℕ) → (take n l ≡ take n l) × (l ≡ take n l ++ drop n l)
both_sides n l = (refl, sym (take-append-drop n l))

-- a write over as many bytes as were just written replaces them, like a length that is written last
pub splice_again : (l : List ℕ) (i : ℕ) (u w : List ℕ) → length u ≤ length w → splice (splice l i u) i w ≡ splice l i w
splice_again (x ∷ l) (suc i) u w h = ap (λ t. x ∷ t) (splice_again l i u w h)
splice_again (x ∷ l) zero (y ∷ u) [] h = absurd (omega arith)
splice_again (x ∷ l) zero (y ∷ u) (z ∷ w) h = ap (λ t. z ∷ t) (splice_again l zero u w (omega arith))
splice_again _ _ _ w h = refl

same_end : (x y t w : List ℕ) → length x ≡ length y → x ++ t ≡ y ++ w → t ≡ w
same_end x y t w e h = sym (drop_at x t (length x) refl) ∙ ap (drop (length x)) h ∙ drop_at y w (length x) (sym e)

module _ {X : Type 0} {g : Ghosts X} where
  -- passing m bytes and then n bytes passes m + n
  pub passes_more : (a b c : Cursor X g) (m n : ℕ) → Passes a b m → Passes b c n → Passes a c (m + n)
  passes_more a b c m n h k = grind (arith, drop-drop)

  -- a cursor that didn't go back has passed the bytes between its two positions
  pub passes_between : (a b : Cursor X g) → Advances a b → Passes a b (position b - position a)
  passes_between a b h =
      let n = position b - position a in let past : position b ≡ position a + n = omega (arith, h.0) in
      let same = ap g.bytes h.1 in (
        past,
        h.1,
        ap (drop (position b)) same ∙ ap (λ k. drop k (bytes a)) past ∙ sym (drop-drop n (position a) (bytes a)),
      )

  -- the bytes before a cursor that passed n bytes
  pub passes_passed : (a b : Cursor X g) (n : ℕ) → Passes a b n → passed b ≡ passed a ++ take n (rest a)
  passes_passed a b n h =
      ap (take (position b)) (ap g.bytes h.1) ∙ ap (λ k. take k (bytes a)) h.0 ∙ take-add (position a) n (bytes a)

  -- a cursor that didn't go back has passed some number of bytes
  pub advances_by : (a b : Cursor X g) → Advances a b → (k : ℕ) × Passes a b k
  advances_by a b h = (position b - position a, passes_between a b h)

  -- the same for a reader that failed
  pub passes_some : {T E : Type 0} (r : Result T E) (a b : Cursor X g) → Advances a b
      → OnErr r ((k : ℕ) × Passes a b k)
  passes_some (Ok _) a b h = tt
  passes_some (Err _) a b h = advances_by a b h

  -- what remained is what was read, and then what remains
  pub reads_rest : (a b : Cursor X g) (u : List ℕ) → Reads a b u → rest a ≡ u ++ rest b
  unfolding Reads
  reads_rest a b u h = h.0

  -- a cursor that doesn't change has read no bytes
  pub reads_none : (a : Cursor X g) → Reads a a []
  unfolding Reads
  reads_none a = (refl, omega arith, refl)

  -- reading some bytes and then others reads both, joined
  pub reads_more : (a b c : Cursor X g) (u w : List ℕ) → Reads a b u → Reads b c w → Reads a c (u ++ w)
  unfolding Reads
  reads_more a b c u w h k = grind (arith, common_steps)

  -- a varint of any width that was read, by its bytes
  pub reads_varint : (a b : Cursor X g) (w n : ℕ) → BeginsVarint (rest a) w n → Passes a b w → Reads a b (varint w n)
  unfolding Reads
  reads_varint a b w n v h = grind (arith, begins_spelled, length_varint)

  -- a run after a varint that was read, where the run may be incomplete
  pub reads_run : {E : Type 0} (a b c : Cursor X g) (r : Result Octets E) (w n : ℕ) → BeginsVarint (rest a) w n
      → Reads a b (varint w n)
      → IsOk r ↔ (n ≤ length (rest b)) → IfOk r (IsViewOf (take n (rest b)))
      → IfOk r (λ v. Reads b c (bytes v))
      → IfOk r (λ v. (k : ℕ) × BeginsVarint (rest a) k (length (bytes v))
      × Reads a c (varint k (length (bytes v)) ++ bytes v))
  reads_run a b c (Ok v) w n begins h fits view read = grind (arith, common_steps, reads_more)
  reads_run a b c (Err e) w n begins h fits view read = tt

  -- two writes one after the other are one write; for hand-written proof terms, if a tactic fails
  pub joined : {a b c : Cursor X g} {u w : List ℕ} → Writes a b u → Writes b c w → Writes a c (u ++ w)
  joined {a} {b} {c} {u} {w} h k = writes_more a b c u w h k

  -- what was written is what remains first, for a cursor that went back over it
  pub written_stands : (old new back : Cursor X g) (w : List ℕ) → Writes old new w → Passes back new (length w)
      → take (length w) (rest back) ≡ w
  written_stands old new back w h k =
      same_end _ _ _ w (grind (arith, common_steps))
      (sym (passes_passed back new _ k) ∙ h.before)

  -- a varint that was written is the one with which the remaining bytes begin, for a cursor that went back over it
  pub varint_stands : (old new back : Cursor X g) (n : ℕ) → n < 2 ^ 62 → Writes old new (varint (shortest n) n)
      → Passes back new (shortest n)
      → BeginsVarint (rest back) (shortest n) n
  varint_stands old new back n small h k =
      let w = varint (shortest n) n in
      let there = written_stands old new back w h (subst (Passes back new) (sym (length_varint (shortest n) n)) k) in
      subst (λ l. BeginsVarint l (shortest n) n)
      (ap (λ l. l ++ drop (length w) (rest back)) (sym there) ∙ take-append-drop (length w) (rest back))
      (begins_front n (drop (length w) (rest back)) small)

  -- a loan of what was just written, which is left unchanged, is a write
  pub left_as_put : (s : Cursor X g) (b : List ℕ) → length b ≤ length (rest s)
      → Writes s (standing s (splice (splice (bytes s) (position s) b) (position s) b) (position s + length b)) b
  left_as_put s b h =
      let one = ap (g.holding s.buf) (grind (arith, splice_again)) in
      is_write s _ b h (grind (arith, length-drop, length_held)) one

-- the same for cursors over a lent slice, which a tactic finds if it doesn't find the other lemma
pub slice_keeps_more : (a b c : SliceCursor) → Keeps a b → Keeps b c → Keeps a c
slice_keeps_more a b c h k = keeps_more a b c h k

-- the text of a value that isn't put in lower case
pub text_of-false : (v : List ℕ) → text_of false v ≡ text v
unfolding cased
text_of-false v = refl

-- for `using(..)`, at a function that makes any number of writes, one after the other
pub ruleset rows = (append_parts, drop_parts, length-append)

-- at a function whose contract states which bytes it read
pub ruleset spelled = (append_assoc, nothing_behind)

-- at a function whose contract has `Keeps`, as after an error: what is before the old offset is unchanged
pub ruleset keeps = (keeps_more, slice_keeps_more)

-- at a function whose contract says which bytes are before the cursor, after what it read
pub ruleset before = (take-add, append_assoc)

-- at a function that makes several calls on a sink
pub ruleset sinks = (front_first, front_then, front_whole, append_parts, length-append)

-- at a function that goes back; together with `read_back` if it then reads what it wrote
pub ruleset written = (append_assoc, length-append, drop-drop, drop_at, take_at, length-take)

-- at a function that reads by another cursor what was written
pub ruleset read_back = (
  append_assoc,
  length-append,
  take_all,
  number-network,
  length_network,
  length_varint,
  begins_front,
  begins_last,
  number_front,
  number_last,
  number_run,
  width_front,
  width_last,
  least_front,
  least_last,
  varint_front,
  varint_run,
)

-- at a function whose clause `every` is about several fields, some of which are runs
pub ruleset parts = (append_assoc, number_part, number_end, run_part, run_end, least_part, least_run)

-- at a loop that writes a field for each item of a list, and whose contract says when they fit
pub ruleset each = (length-append, length_network, length_varint, drop_more)

-- at a function whose contract says what a loan left, for any kind of buffer
pub ruleset lent = (
  stays,
  goes_past,
  buffer_stays,
  buffer_goes_past,
  buffer_holds,
  splice_whole,
  length-append,
  length-take,
  length-drop,
  length_network,
  length_varint,
)
