-- What a cursor at an offset says of the bytes from the offset on, and which error a status means.
use Rattle.std.proofs.Common.{◌≡◌, ◌≢◌, ◌↔◌, ℕ, ◌+◌, ◌-◌, ◌≤◌, List, drop, length, length-drop, Result, Ok, Err, IsOk}
use Rattle.std.proofs.Common.{IfOk, OnOk, OnErr, refl, sym, subst, ◌∙◌, ap, arith, Bool}
use Rattle.std.proofs.lemmas.List.{length-take-le}
use Rattle.octets_code.specs.Answers.{IsRefusal}
use Rattle.octets.specs.Bytes.{part}
use Rattle.octets.specs.Cursor.{bytes, position, rest, Passes, IsViewOf, Writes}
use Rattle.octets.specs.Octets.{RefusesPrefixed, Octets}
use Rattle.octets.specs.Octets.RefusesPrefixed.{no_length, no_bytes}
use Rattle.octets.specs.Decodes.{Refuses}
use Rattle.octets.specs.Varints.{BeginsVarint}
use Rattle.octets.proofs.CallerLemmas.{begins_some, begins_within, bytes_after}
use Rattle.octets_literal.specs.Faults.{HoldsData, IsRefused}
use Rattle.octets_literal.specs.Literals.{BeginsLiteral}
use Rattle.octets_literal.specs.Values.{IsFaultOf, LeavesRead}
use Rattle.octets_literal.specs.declared.error.LiteralError.{LiteralError}
use Rattle.octets_literal.specs.declared.error.LiteralError.TheVariants.{Value, OutOfMemory}
use Rattle.octets_literal.specs.declared.error.ValueError.{ValueError}
use Rattle.octets_literal.proofs.Refusals.{refused_no_literal, refused_for_value_alone}
use Rattle.octets_c.specs.Refusals.{TellsFault, status_of_fault, written_by}
use Rattle.octets_c.specs.Runs.{PassesLength}
use Rattle.octets_c.specs.Statuses.{done, short}
use Rattle.octets.specs.declared.cursor.buffer.Bytes.{Ghosts}
use Rattle.octets.specs.declared.cursor.Cursor.{Cursor}
use Rattle.octets_c.specs.Fronts.{kept_front, WritesFront}
use Rattle.std.proofs.lemmas.Bool.Decides.{nat_tests}

-- a list with no bytes begins with no varint
pub none_begins : (l : List ℕ) (w n : ℕ) → length l ≡ 0 → BeginsVarint l w n → ⊥
none_begins l w n none begins = omega (arith, none, begins_some l w n begins, begins_within l w n begins)

pub rest_at : (c : Octets) (b : List ℕ) (i : ℕ) → (bytes c ≡ b) × (position c ≡ i) → rest c ≡ drop i b
rest_at c b i (e, f) = ap (λ k. drop k (bytes c)) f ∙ ap (drop i) e

passes_length : (old new : Octets) → RefusesPrefixed old new → PassesLength (bytes old) (position old) (position new)
passes_length old new (no_length none (p, q)) = PassesLength.no_length none p
passes_length old new (no_bytes width len begins less (p, q, r)) = PassesLength.no_bytes width len begins less p

pub past_length : (old new : Octets) (b : List ℕ) (i r : ℕ) → (bytes old ≡ b) × (position old ≡ i) → position new ≡ r
    → RefusesPrefixed old new → PassesLength b i r
past_length old new b i r (e, f) g h = simp (e, f, g) at (passes_length old new h)

-- what holds after an error holds if the status isn't the one of success
pub refused_holds : {T E P : Type 0} (r : Result T E) (status : ℕ) → OnOk r (status ≡ done) → status ≢ done
    → OnErr r P → P
refused_holds (Ok x) status told other h = absurd (other told)
refused_holds (Err e) status told other h = h

-- a run of n bytes after w bytes, which ends at the cursor's position
n_shown : (old : Octets) (v : Octets) (w n : ℕ) → w + n ≤ length (rest old) → IsViewOf (part (rest old) w n) v
    → length (bytes v) ≡ n
n_shown old v w n within view = ap length view.0
    ∙ length-take-le n (drop w (rest old)) (omega (arith, within, length-drop w (rest old)))

pub ends_behind : {E : Type 0} (r : Result Octets E) (old new : Octets) (w n stop : ℕ) → IsOk r
    ↔ (w + n ≤ length (rest old)) → IfOk r (IsViewOf (part (rest old) w n))
    → OnOk r (Passes old new (w + n)) → stop ≡ position new → IfOk r (λ v. length (bytes v) ≤ stop)
ends_behind (Ok v) old new w n stop fits view past ends = let n_bytes = n_shown old v w n (fits.0 refl) view in
    omega (arith, n_bytes, past.0, ends)
ends_behind (Err e) old new w n stop fits view past ends = tt

pub told_behind : {E : Type 0} (r : Result Octets E) (old new : Octets) (i w n status stop from len : ℕ)
    → position old ≡ i → IsOk r ↔ (w + n ≤ length (rest old))
    → IfOk r (IsViewOf (part (rest old) w n)) → OnOk r (Passes old new (w + n)) → stop ≡ position new
    → IfOk r (λ v. len ≡ length (bytes v))
    → IfOk r (λ v. from ≡ stop - length (bytes v)) → OnErr r (status ≡ short) → status ≡ done
    → (from ≡ i + w) × (stop ≡ from + len)
told_behind (Ok v) old new i w n status stop from len start fits view past ends long begins refused is =
    let n_bytes = n_shown old v w n (fits.0 refl) view in
    (omega (arith, past.0, n_bytes), omega (arith, past.0, n_bytes))
told_behind (Err e) old new i w n status stop from len start fits view past ends long begins refused is =
    absurd (omega (arith, refused, is))

pub refused_at : (old new : Octets) (b : List ℕ) (i m r : ℕ) → (bytes old ≡ b) × (position old ≡ i) → r ≡ position new
    → Refuses old new m
    → (n : ℕ) × IsRefusal (drop i b) m n × (r ≡ i + n)
refused_at old new b i m r s e (n, h, p) =
    (n, rw (rest_at old b i s) at h, e ∙ p.0 ∙ ap (λ k. k + n) s.1)

abbrev Left : List ℕ → List ℕ → List ℕ → Type 0
Left t old new = HoldsData t (λ huffman d. LeavesRead huffman d old new)

pub left_at : (c : Octets) (b : List ℕ) (i : ℕ) (old new : List ℕ) → (bytes c ≡ b) × (position c ≡ i)
    → Left (rest c) old new → Left (drop i b) old new
left_at c b i old new s h = rw (rest_at c b i s) at h

module _ (c : Octets) (b : List ℕ) (i m : ℕ) (why : LiteralError) (s : (bytes c ≡ b) × (position c ≡ i))
    (other : why ≢ OutOfMemory) (h : IsRefused (rest c) m why) (k : ℕ) (v : List ℕ) where
  begins : BeginsLiteral (drop i b) k v → BeginsLiteral (rest c) k v
  begins = subst (λ t. BeginsLiteral t k v) (sym (rest_at c b i s))

  -- reading a literal of a value within the limit doesn't fail
  pub none_refused : {P : Type 0} → i ≤ length b → BeginsLiteral (drop i b) k v → length v ≤ m → P
  none_refused _ l few = absurd (refused_no_literal (rest c) m k v why other h (begins l) few)

  -- reading a literal of any value fails only because of the value
  pub for_value_alone : {P : Type 0} → (why ≡ Value → ⊥) → i ≤ length b → BeginsLiteral (drop i b) k v → P
  for_value_alone never _ l =
      absurd (never (refused_for_value_alone {A = ℕ} (Err why) (rest c) m h other k v (begins l)))

-- the status and the length say the fault of a value
pub told_at : (c : Octets) (b : List ℕ) (i : ℕ) (old new : List ℕ) (why : ValueError) (status n : ℕ)
    → (bytes c ≡ b) × (position c ≡ i) → HoldsData (rest c) (λ huffman d. IsFaultOf why huffman d old new)
    → status ≡ status_of_fault why → n ≡ written_by why (length old)
    → HoldsData (drop i b) (λ huffman d. TellsFault status n huffman d old new)
told_at c b i old new why status n s h told long =
    let at = rw (rest_at c b i s) at h in
    record {
      k = at.k;
      huffman = at.huffman;
      n = at.n;
      begins = at.begins;
      holds = at.holds;
      is_so = (why, at.is_so, told, long);
    }

-- What an encode writes, as a splice.

module _ {X : Type 0} {g : Ghosts X} {T E : Type 0} where
  pub front_written : (r : Result T E) (old new : Cursor X g) (to_lower : Bool) (v : List ℕ)
      → OnErr r (Writes old new (kept_front to_lower v (length (rest old))))
      → OnErr r (WritesFront (bytes old) (bytes new) (position old) (position new) (kept_front to_lower v))
  front_written (Ok x) old new to_lower v h = tt
  front_written (Err e) old new to_lower v h =
      let k = rw length-drop at h in
      (bytes_after old new _ k, k.past)

-- Sets of lemmas that exports name, for `using(..)`.

-- a varint that is there or isn't; the pieces of a text
pub ruleset varints = (begins_some, begins_within)

pub ruleset pieces = (nat_tests)
