-- What a reader of a literal's data finds.
use Rattle.std.proofs.Common.{◌≡◌, ◌++◌, ℕ, ◌*◌, ◌<◌, ◌≤◌, true, false, List, [], ◌∷◌, length, drop, min, refl, subst}
use Rattle.std.proofs.Common.{◌∙◌, ap, arith}
use Rattle.octets_code.specs.Texts.{AreBytes, IsText}
use Rattle.octets_code.specs.Answers.{IsAnswer, HasNoAnswer}
use Rattle.octets_code.proofs.TextLemmas.{each_byte}
use Rattle.octets.specs.Cursor.{bytes, position, rest}
use Rattle.octets.specs.Requests.{Refused}
use Rattle.octets.specs.Octets.{Octets}
use Rattle.octets.specs.Reading.{IsReadBefore}
use Rattle.octets.specs.Stops.{IsStoppedBy}
use Rattle.octets.specs.declared.error.IntoError.{IntoError}
use Rattle.octets_literal.specs.Literals.{AreData}
use Rattle.octets_literal.specs.Faults.{HaveNoValue, NeedMemory}
use Rattle.octets_literal.specs.Values.{IsFaultOf, IsValue, IsNoValue, LeavesRead}
use Rattle.octets_literal.specs.declared.error.LiteralError.TheVariants.{Value, OutOfMemory}
use Rattle.std.proofs.lemmas.Grind.{common_steps}
use Rattle.octets_literal.specs.declared.error.ValueError.TheVariants.{Text, Long}

-- plain data that are longer than the limit are no value within it
pub too_long : (d : List ℕ) (m : ℕ) → m < length d → IsNoValue false d m Value
unfolding IsNoValue HaveNoValue
too_long d m h = h

-- plain data within the limit are their value
pub is_plain : (d : List ℕ) (m : ℕ) (v : List ℕ) → AreBytes d → length d ≤ m → d ≡ v → IsValue false d m v
unfolding AreData
is_plain d m v b h e = grind (arith, common_steps)

-- a copy of plain data within the limit needs memory if there are any
pub needs_memory : (d r : List ℕ) (m : ℕ) → r ≡ d → 0 < length d → length d ≤ m → Refused (length r)
    → IsNoValue false d m OutOfMemory
unfolding IsNoValue NeedMemory
needs_memory d r m e h k n = (h, k, subst (λ x. Refused (length x)) e n)

-- if a copy of some bytes failed, there is at least one byte
pub some_bytes : (d r : List ℕ) → r ≡ d → (r ≡ [] → false ≡ true) → 0 < length d
some_bytes [] r same h = let k = h same in cc
some_bytes (b ∷ d) r same h = omega arith

-- what remains of a cursor at the start of its bytes
pub whole_view : (c : Octets) (d : List ℕ) → bytes c ≡ d → position c ≡ 0 → rest c ≡ d
whole_view c d e f = ap (λ n. drop n (bytes c)) f ∙ e

-- the value of the data as a text is their value
pub is_decoded : (r d : List ℕ) (m : ℕ) (v : List ℕ) → r ≡ d → IsAnswer r m v → IsValue true d m v
unfolding AreData
is_decoded r d m v e a = record { bytes = a.0; within = a.1; are_data = subst (IsText v) e a.2 }

-- data that are the text of no value within the limit have none
pub is_undecoded : (r d : List ℕ) (m : ℕ) → r ≡ d → HasNoAnswer r m → IsNoValue true d m Value
unfolding IsNoValue HaveNoValue
is_undecoded r d m e h = subst (λ t. HasNoAnswer t m) e h

-- data that are a text need memory if memory is allocated for a value
pub needs_room : (r d : List ℕ) (m : ℕ) → r ≡ d → 0 < min (2 * length r) m → Refused (min (2 * length r) m)
    → IsNoValue true d m OutOfMemory
unfolding IsNoValue NeedMemory
needs_room r d m e h n =
    (omega (arith, h, ap length e), omega (arith, h), subst (λ x. Refused (min (2 * length x) m)) e n)

-- plain data leave the slice as it was
pub nothing_read : (d l : List ℕ) → LeavesRead false d l l
unfolding LeavesRead
nothing_read d l = refl

-- the slice begins with what was read of a text
pub text_read : (r d l n v : List ℕ) → r ≡ d → IsReadBefore v r (length l) → length v ≤ length l
    → n ≡ v ++ drop (length v) l → LeavesRead true d l n
unfolding LeavesRead
text_read r d l n v s x h e = (v, subst (λ t. IsReadBefore v t (length l)) s x, h, e)

-- the fault of data that are decoded as a text
pub text_fault : (e : IntoError) (r d l n v : List ℕ) → r ≡ d → IsReadBefore v r (length l)
    → IsStoppedBy e v r (length l) → n ≡ v ++ drop (length v) l → IsFaultOf (Text e) true d l n
unfolding IsFaultOf
text_fault e r d l n v same h k is = grind (arith, common_steps)

-- that of plain data
pub long_fault : (d l : List ℕ) → length l < length d → IsFaultOf Long false d l l
unfolding IsFaultOf
long_fault d l h = (refl, h, refl)

-- at a reader of data
pub ruleset values = (
  too_long,
  is_plain,
  needs_memory,
  some_bytes,
  whole_view,
  is_decoded,
  is_undecoded,
  needs_room,
  nothing_read,
  text_read,
  text_fault,
  long_fault,
  each_byte,
)
