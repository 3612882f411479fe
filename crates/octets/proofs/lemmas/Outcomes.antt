-- Facts of the result of a call, and of a varint at a cursor's position.
use Rattle.octets.specs.declared.error.VarintError.{VarintError}
use Rattle.octets.specs.declared.error.VarintError.TheVariants.{Short, Overlong}
use Rattle.std.proofs.Common.{true, false, ◌≡◌, ◌+◌, ◌<◌, ℕ, List, length, arith, Result, Ok, Err, OnErr, IsErr, IsOk}
use Rattle.std.proofs.Common.{◌↔◌, ◌≤◌, ap, ◌∙◌, drop, take, length-drop, OnOk, IfOk}
use Rattle.std.proofs.lemmas.Grind.{common_steps}
use Rattle.octets.specs.declared.cursor.buffer.Bytes.{Ghosts}
use Rattle.octets.specs.declared.cursor.Cursor.{Cursor}
use Rattle.octets.specs.Cursor.{bytes, position, rest, IsUnchanged, Passes, IsViewOf}
use Rattle.octets.specs.Varints.{BeginsVarint, BeginsOverlong, HasNoVarint, HoldsPrefixed, LacksPrefixed, shortest}
use Rattle.octets.specs.Varints.LacksPrefixed.{no_length, no_bytes}
use Rattle.octets.proofs.lemmas.Varints.{begins_one, begins_below, begins_least, begins_shortest, begins_spelled}
use Rattle.octets.proofs.lemmas.Varints.{begins_within}
use Rattle.octets.specs.Bytes.{part}
use Rattle.octets.proofs.CallerLemmas.{passes_more}
use Rattle.octets.specs.Octets.{Octets, ReadsPrefixed, ShowsPrefixed}

-- what holds anyway holds at an error
pub on_err : {T E P : Type 0} (r : Result T E) → P → OnErr r P
on_err r p = grind arith

-- what remains of a cursor that is unchanged
pub same_rest : {X : Type 0} {g : Ghosts X} (old new : Cursor X g) → IsUnchanged old new → rest new ≡ rest old
same_rest {g} old new u = ap (λ k. drop k (bytes new)) u.0 ∙ ap (λ b. drop (position old) (g.bytes b)) u.1

-- where one varint's bytes aren't all there, no varint's are
pub short_of : (l : List ℕ) (w n : ℕ) → BeginsVarint l w n → length l < w + n
    → (w' n' : ℕ) → BeginsVarint l w' n' → (length l < w' + n') × (w ≡ w')
short_of l w n v short w' n' u = grind (arith, begins_one)

-- the result is an error if the varint is incomplete, or if fewer bytes follow it than it says
pub none_prefixed : {T E : Type 0} (r : Result T E) (l : List ℕ) → IsErr r → HasNoVarint l → IsOk r ↔ HoldsPrefixed l
none_prefixed r l h none = grind arith

pub not_prefixed : (l : List ℕ) (w n : ℕ) → BeginsVarint l w n → length l < w + n → HoldsPrefixed l → ⊥
not_prefixed l w n v short p = grind (arith, common_steps, short_of)

-- a result that is an error, if what the call reads isn't there
pub err_iff : {P : Type 0} → (P → ⊥) → (false ≡ true) ↔ P
err_iff h = grind arith

-- what is lacking is so of each varint that the list begins
pub lacks_each : (l : List ℕ) → LacksPrefixed l → (w n : ℕ) → BeginsVarint l w n → length l < w + n
lacks_each l (no_length none) w n v = absurd (none w n v)
lacks_each l (no_bytes width len u short) w n v = (short_of l width len u short w n v).0

-- if the varint is incomplete, it isn't overlong
pub none_overlong : {T : Type 0} (r : Result T VarintError) (l : List ℕ) → r ≡ Err Short → HasNoVarint l
    → (r ≡ Err Overlong) ↔ BeginsOverlong l
none_overlong r l h none = grind (arith, common_steps)

-- if the varint has its least width, it isn't overlong
pub read_overlong : {T : Type 0} (x : T) (l : List ℕ) (w n : ℕ) → BeginsVarint l w n → w ≤ shortest n
    → (◌≡◌ {A = Result T VarintError} (Ok x) (Err Overlong)) ↔ BeginsOverlong l
read_overlong x l w n v least = grind (arith, begins_one)

-- for `using(..)` where a varint in its least width is read
pub ruleset reads =
    (begins_below, begins_least, begins_shortest, begins_spelled, begins_within, none_overlong, read_overlong)

-- Reads of a run of bytes after its length.

module _ {X : Type 0} {g : Ghosts X} where
  -- the same after a varint
  pub prefixed_by_varint : {E : Type 0} (old mid new : Cursor X g) (r : Result Octets E) (w n : ℕ)
      → BeginsVarint (rest old) w n → Passes old mid w → n ≤ length (rest mid)
      → (IsOk r ↔ (n ≤ length (rest mid))) → IfOk r (IsViewOf (take n (rest mid)))
      → OnOk r (Passes mid new n) × OnErr r (IsUnchanged mid new)
      → (((w' n' : ℕ) → BeginsVarint (rest old) w' n' → OnOk r (Passes old new (w' + n')) × OnErr r (Passes old new w'))
      × (HasNoVarint (rest old) → IsUnchanged old new))
      × (IsOk r ↔ HoldsPrefixed (rest old)) × IfOk r (ShowsPrefixed (rest old)) × OnErr r (LacksPrefixed (rest old))
      × ((w' n' : ℕ) → BeginsVarint (rest old) w' n'
      → (IsOk r ↔ (w' + n' ≤ length (rest old))) × IfOk r (IsViewOf (part (rest old) w' n')))
  prefixed_by_varint old mid new (Ok v) w n begins moved fits ok view leaves =
      grind (arith, common_steps, passes_more, begins_one)
  prefixed_by_varint old mid new (Err e) w n begins moved fits ok view leaves = grind arith

  -- where no bytes are read after a varint, for fewer remain
  pub short_of_varint : (old mid : Cursor X g) (w n : ℕ) → BeginsVarint (rest old) w n → Passes old mid w
      → length (rest mid) < n
      → (w' n' : ℕ) → BeginsVarint (rest old) w' n' → (length (rest old) < w' + n') × Passes old mid w'
  short_of_varint old mid w n begins moved short w' n' other = grind (arith, begins_one, length-drop)

-- what was read after a varint, where it is Ok, is the run that it says
pub read_prefixed : {E : Type 0} (old mid new : Octets) (r : Result Octets E) (w n : ℕ) → BeginsVarint (rest old) w n
    → Passes old mid w → n ≤ length (rest mid) → IfOk r (IsViewOf (take n (rest mid))) → OnOk r (Passes mid new n)
    → IfOk r (ReadsPrefixed old new)
read_prefixed old mid new (Ok v) w n begins moved fits view run = record {
  width = w;
  len = n;
  begins = begins;
  within = grind (arith, length-drop);
  is_view = grind (arith, common_steps);
  passes = passes_more old mid new w n moved run;
}
read_prefixed old mid new (Err e) w n begins moved fits view run = tt
