-- An error of a read, and the literals that it excludes.
use Rattle.std.proofs.Common.{◌≡◌, ◌≢◌, ℕ, ◌+◌, ◌<◌, ◌≤◌, ◌++◌, ◌⊎◌, inl, inr, Bool, true, false, List, length, take}
use Rattle.std.proofs.Common.{drop, Result, Ok, Err, IfOk, IfErr, IsOk, OnOk, Vec, vec_len, refl, sym, subst, ◌∙◌, ap}
use Rattle.std.proofs.Common.{arith}
use Rattle.std.proofs.lemmas.List.{take_at}
use Rattle.octets_code.specs.Texts.{AreBytes}
use Rattle.octets.specs.Bytes.{part}
use Rattle.octets_literal.specs.Literals.{AreData, BeginsLiteral}
use Rattle.octets_literal.specs.Faults.{BeginsLength, HoldsData, HaveNoValue, NeedMemory, IsRefused}
use Rattle.octets_literal.specs.Lengths.{HasNoLength}
use Rattle.octets_literal.specs.Values.{BeginsData, HasNoData, IsValue, IsNoValue}
use Rattle.octets_literal.specs.declared.error.LiteralError.{LiteralError}
use Rattle.octets_literal.specs.declared.error.LiteralError.TheVariants.{Short, Length, Value, OutOfMemory}
use Rattle.octets_literal.proofs.OneLiteral.{parts_of, data_there, literal_of, literal_within, one_length}
use Rattle.octets_literal.proofs.OneLiteral.{one_literal}
use Rattle.octets_literal.proofs.Written.{canon_begins, canon_alone}
use Rattle.octets_literal.proofs.OneLiteral.{literal_some, fault-holds, refused_by}

-- if there is no length, there are no complete data, for the reason of the same error
pub no_length : (l : List ℕ) (why : LiteralError) → HasNoLength l why → HasNoData l why
unfolding HasNoLength HasNoData
no_length l Short h = inl h
no_length l Length h = h
no_length l Value h = h
no_length l OutOfMemory h = h

-- if fewer bytes follow a length than it says, the data are incomplete
pub lacks_data : (l : List ℕ) (k : ℕ) (h : Bool) (n : ℕ) → BeginsLength l k h n → length l < k + n → HasNoData l Short
unfolding HasNoData
lacks_data l k h n b w = inr (record { k = k; huffman = h; n = n; begins = b; lacks = w })

-- and if as many follow, they are the data
pub finds_data : (l : List ℕ) (w k : ℕ) (h : Bool) (n : ℕ) (d : List ℕ) → AreBytes l → BeginsLength l w h n → k ≡ w + n
    → w + n ≤ length l → d ≡ part l w n → BeginsData l k h d
finds_data l w k h n d b begins e fits c =
    record { bytes = b; width = w; n = n; begins = begins; whole = sym e; within = omega (arith, e, fits); content = c }

-- at a reader of a literal's data
pub ruleset found_data = (no_length, lacks_data, finds_data)

-- a read of bytes without complete data fails with this error
pub refused_data : (l : List ℕ) (m : ℕ) (why : LiteralError) → HasNoData l why → IsRefused l m why
unfolding HasNoData IsRefused
refused_data l m Short h = h
refused_data l m Length h = h
refused_data l m Value h = absurd h
refused_data l m OutOfMemory h = absurd h

-- this error is neither OutOfMemory nor Value
pub data_not_value : (l : List ℕ) (why : LiteralError) → HasNoData l why → (why ≢ OutOfMemory) × (why ≢ Value)
unfolding HasNoData
data_not_value l Short h = ((λ f. cc), λ f. cc)
data_not_value l Length h = ((λ f. cc), λ f. cc)
data_not_value l Value h = absurd h
data_not_value l OutOfMemory h = absurd h

no_value : (m : ℕ) (h : Bool) (d v : List ℕ) → AreBytes v → HaveNoValue m h d → AreData h d v → length v ≤ m → ⊥
unfolding HaveNoValue AreData
no_value m true d v b n e w = n v (b, w, e)
no_value m false d v b n e w = omega (arith, n, w, ap length e)

data_no_value : (l : List ℕ) (m k : ℕ) (v : List ℕ) → IsRefused l m Value → BeginsLiteral l k v → length v ≤ m → ⊥
unfolding IsRefused
data_no_value l m k v r b w =
    let p = data_there l k v r.k r.huffman r.n b r.begins in
    no_value m r.huffman (part l r.k r.n) v p.2 r.is_so p.1 w

-- a read of a complete literal fails because of its value, or because an allocation fails
pub for_value : (l : List ℕ) (m k : ℕ) (v : List ℕ) (why : LiteralError) → IsRefused l m why → BeginsLiteral l k v
    → (why ≡ Value) ⊎ (why ≡ OutOfMemory)
for_value l m k v why r b = elim (refused_by l m why r) [
  | inl e ↦ inr e
  | inr e ↦ let p = parts_of l k v b in
      let fits : p.width + p.len ≤ length l = omega (arith, p.whole, literal_within l k v b) in
      inl (e ∙ sym (fault-holds l p.width p.huffman p.len p.begins fits))
]

-- if the value is within the limit, it fails only because an allocation fails
pub for_memory : (l : List ℕ) (m k : ℕ) (v : List ℕ) (why : LiteralError) → IsRefused l m why → BeginsLiteral l k v
    → length v ≤ m → why ≡ OutOfMemory
for_memory l m k v why r b w = elim (for_value l m k v why r b) [
  | inl e ↦ absurd (data_no_value l m k v (subst (IsRefused l m) e r) b w)
  | inr e ↦ e
]

-- if a read of bytes fails with another error than OutOfMemory, they begin with no literal of a value within the
-- limit
pub refused_no_literal : (l : List ℕ) (m k : ℕ) (v : List ℕ) (why : LiteralError) → why ≢ OutOfMemory
    → IsRefused l m why → BeginsLiteral l k v → length v ≤ m → ⊥
refused_no_literal l m k v why other r b w = other (for_memory l m k v why r b w)

other_error : {x : LiteralError} (why : LiteralError) → why ≢ OutOfMemory → (why ≡ OutOfMemory) ⊎ (why ≡ x) → why ≡ x
other_error why y (inl e) = absurd (y e)
other_error why y (inr e) = e

-- errors other than OutOfMemory: a read of some bytes fails with at most one of them
pub one_refusal : (l : List ℕ) (m : ℕ) (e f : LiteralError) → e ≢ OutOfMemory → f ≢ OutOfMemory → IsRefused l m e
    → IsRefused l m f → e ≡ f
one_refusal l m e f x y a b =
    other_error e x (refused_by l m e a) ∙ sym (other_error f y (refused_by l m f b))

-- bytes that begin with data hold all of them, with whatever holds of them
pub begun_holds : (l : List ℕ) (k : ℕ) (h : Bool) (d : List ℕ) (P : Bool → List ℕ → Type 0) → BeginsData l k h d → P h d
    → HoldsData l P
begun_holds l k h d P b x =
    let fits : b.width + b.n ≤ length l = omega (arith, b.whole, b.within) in
    record { k = b.width; huffman = h; n = b.n; begins = b.begins; holds = fits; is_so = subst (P h) b.content x }

-- if the read of the data fails, so does the read of the bytes
pub begun_refused : (l : List ℕ) (m k : ℕ) (h : Bool) (d : List ℕ) (why : LiteralError) → BeginsData l k h d
    → IsNoValue h d m why → IsRefused l m why
unfolding IsRefused IsNoValue
begun_refused l m k h d Short b x = absurd x
begun_refused l m k h d Length b x = absurd x
begun_refused l m k h d Value b x = begun_holds l k h d (HaveNoValue m) b x
begun_refused l m k h d OutOfMemory b x = begun_holds l k h d (NeedMemory m) b x

-- where they are a value, the bytes begin with a literal of it
pub begun_read : (l : List ℕ) (k : ℕ) (h : Bool) (d : List ℕ) (m : ℕ) (v : List ℕ) → BeginsData l k h d
    → IsValue h d m v → BeginsLiteral l k v
begun_read l k h d m v b x =
    let fits : b.width + b.n ≤ length l = omega (arith, b.whole, b.within) in
    let are = subst (λ t. AreData h t v) b.content x.are_data in
    subst (λ j. BeginsLiteral l j v) b.whole (literal_of l b.width h b.n v b.bytes b.begins fits are x.bytes)

-- A read of a complete literal fails only because of its value, if no memory is needed.
pub refused_for_value_alone : {A : Type 0} (r : Result A LiteralError) (l : List ℕ) (m : ℕ) → IfErr r (IsRefused l m)
    → IfErr r (λ why. why ≢ OutOfMemory)
    → (k : ℕ) (v : List ℕ) → BeginsLiteral l k v → IfErr r (λ why. why ≡ Value)
refused_for_value_alone (Ok x) l m h y k v b = tt
refused_for_value_alone (Err why) l m h y k v b = elim (for_value l m k v why h b) [
  | inl e ↦ e
  | inr e ↦ absurd (y e)
]

-- at a reader of a literal
pub ruleset answers = (
  literal_some,
  literal_within,
  one_literal,
  canon_begins,
  canon_alone,
  for_memory,
  for_value,
  take_at,
)

-- at a reader of data that were found
pub ruleset begun = (
  refused_data,
  data_not_value,
  begun_refused,
  begun_read,
  begun_holds,
)

-- at the law of errors
pub ruleset refusals = (one_refusal, refused_no_literal)
