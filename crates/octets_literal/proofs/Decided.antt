-- Bytes begin with a literal of a value within a limit, or a read of them fails.
use Rattle.std.proofs.Common.{◌≡◌, ◌≢◌, ℕ, zero, suc, ◌+◌, ◌-◌, ◌*◌, ◌%◌, ◌<◌, ◌≤◌, nat_le, ◌⊎◌, inl, inr, Bool, true}
use Rattle.std.proofs.Common.{false, List, [], ◌∷◌, length, drop, refl, subst, arith}
use Rattle.std.proofs.lemmas.Bool.{cases_lt}
use Rattle.std.proofs.lemmas.List.Elements.{All-head, All-take, All-drop}
use Rattle.octets_code.specs.Laws.{EachIsDecided}
use Rattle.octets_code.specs.Texts.{AreBytes}
use Rattle.octets.specs.Bytes.{part}
use Rattle.octets_literal.specs.Literals.{BeginsLiteral}
use Rattle.octets_literal.specs.Faults.{BeginsLength, IsRefused}
use Rattle.octets_literal.specs.Lengths.{AreGroups, HasNoGroups, HasNoLength}
use Rattle.octets_literal.specs.Values.{BeginsData, HasNoData, IsValue, IsNoValue}
use Rattle.octets_literal.specs.Laws.{LiteralOrRefusal}
use Rattle.octets_literal.specs.declared.error.LiteralError.{LiteralError}
use Rattle.octets_literal.specs.declared.error.LiteralError.TheVariants.{Short, Length, Value, OutOfMemory}
use Rattle.octets_literal.proofs.Heads.{no_byte, last_group, past_last, refused_on, one_more, in_first, length_read}
use Rattle.octets_literal.proofs.Heads.{length_exceeds, no_first, no_more}
use Rattle.octets_literal.proofs.Refusals.{no_length, lacks_data, finds_data, refused_data, data_not_value}
use Rattle.octets_literal.proofs.Refusals.{begun_refused, begun_read}
use Rattle.octets_literal.proofs.Values.{too_long, is_plain, is_decoded, is_undecoded}

abbrev Groups : List ℕ → ℕ → Type 0
Groups l most = ((k : ℕ) × (n : ℕ) × AreGroups l most k n) ⊎ ((e : LiteralError) × HasNoGroups l most e)

abbrev Head : List ℕ → Type 0
Head l = ((k : ℕ) × (h : Bool) × (n : ℕ) × BeginsLength l k h n) ⊎ ((e : LiteralError) × HasNoLength l e)

abbrev Data : Bool → List ℕ → ℕ → Type 0
Data h d m = ((v : List ℕ) × IsValue h d m v) ⊎ IsNoValue h d m Value

abbrev Decided : List ℕ → ℕ → Type 0
Decided l m = ((k : ℕ) × (v : List ℕ) × BeginsLiteral l k v × (length v ≤ m))
    ⊎ ((e : LiteralError) × (e ≢ OutOfMemory) × IsRefused l m e)

groups_on : (b : ℕ) (l : List ℕ) (p : ℕ) → (b < 128) ⊎ (128 ≤ b) → Groups l (suc (suc p) - 1)
    → Groups (b ∷ l) (suc (suc p))
groups_on b l p (inl lt) g = inl (1, b, last_group b l (suc (suc p)) lt (omega arith))
groups_on b l p (inr ge) (inl g) =
    inl (g.0 + 1, b % 128 + 128 * g.1, one_more b l (suc (suc p)) g.0 g.1 ge (omega arith) g.2)
groups_on b l p (inr ge) (inr g) = inr (g.0, refused_on b l (suc (suc p)) g.0 ge (omega arith) g.1)

-- groups, `suc p` of them at most, or none
groups_or_none : (l : List ℕ) (p : ℕ) → Groups l (suc p)
groups_or_none [] p = inr (Short, no_byte [] (suc p) refl (omega arith))
groups_or_none (b ∷ l) zero = elim (cases_lt b 128) [
  | inl lt ↦ inl (1, b, last_group b l 1 lt (omega arith))
  | inr ge ↦ inr (Length, past_last b l 1 ge refl)
]
groups_or_none (b ∷ l) (suc p) =
    let less : suc p ≡ suc (suc p) - 1 = omega arith in
    groups_on b l p (cases_lt b 128) (subst (Groups l) less (groups_or_none l p))

length_by : (b : ℕ) (l : List ℕ) (k n : ℕ) → b < 256 → b % 128 ≡ 127 → AreGroups l 5 k n
    → (4294967295 < n + 127) ⊎ (n + 127 ≤ 4294967295) → Head (b ∷ l)
length_by b l k n byte full g (inl big) = inr (Length, length_exceeds b l k n byte full g big)
length_by b l k n byte full g (inr small) = inl (k + 1, nat_le 128 b, n + 127, length_read b l k n byte full g small)

head_by : (b : ℕ) (l : List ℕ) → b < 256 → (b % 128 < 127) ⊎ (127 ≤ b % 128) → Groups l 5 → Head (b ∷ l)
head_by b l byte (inl lt) g = inl (1, nat_le 128 b, b % 128, in_first b l byte lt)
head_by b l byte (inr ge) (inl g) = length_by b l g.0 g.1 byte (omega arith) g.2 (cases_lt 4294967295 (g.1 + 127))
head_by b l byte (inr ge) (inr g) = inr (g.0, no_more b l g.0 (omega arith) g.1)

-- a length, or why there is none
length_or_none : (l : List ℕ) → AreBytes l → Head l
length_or_none [] h = inr (Short, no_first [] refl)
length_or_none (b ∷ l) h = head_by b l (All-head (λ b. b < 256) b l h) (cases_lt (b % 128) 127) (groups_or_none l 4)

plain_by : (d : List ℕ) (m : ℕ) → AreBytes d → (m < length d) ⊎ (length d ≤ m) → Data false d m
plain_by d m b (inl lt) = inr (too_long d m lt)
plain_by d m b (inr le) = inl (d, is_plain d m d b le refl)

-- the value of data, or that there is none
value_or_none : EachIsDecided → (h : Bool) (d : List ℕ) (m : ℕ) → AreBytes d → Data h d m
value_or_none decided false d m b = plain_by d m b (cases_lt m (length d))
value_or_none decided true d m b = elim (decided d m b) [
  | inl a ↦ inl (a.0, is_decoded d d m a.0 refl a.1)
  | inr a ↦ inr (is_undecoded d d m refl a.1.0)
]

whole_data : (l : List ℕ) (m k : ℕ) (h : Bool) (d : List ℕ) → BeginsData l k h d → Data h d m → Decided l m
whole_data l m k h d b (inl v) = inl (k, v.0, begun_read l k h d m v.0 b v.1, v.1.within)
whole_data l m k h d b (inr v) = inr (Value, (λ f. cc), begun_refused l m k h d Value b v)

no_data : (l : List ℕ) (m : ℕ) (e : LiteralError) → HasNoData l e → Decided l m
no_data l m e x = inr (e, (data_not_value l e x).0, refused_data l m e x)

data_by : EachIsDecided → (l : List ℕ) (m k : ℕ) (h : Bool) (n : ℕ) → AreBytes l → BeginsLength l k h n
    → (length l < k + n) ⊎ (k + n ≤ length l) → Decided l m
data_by decided l m k h n bytes b (inl lt) = no_data l m Short (lacks_data l k h n b lt)
data_by decided l m k h n bytes b (inr le) =
    whole_data l m (k + n) h (part l k n) (finds_data l k (k + n) h n (part l k n) bytes b refl le refl)
    (value_or_none decided h (part l k n) m (All-take (λ b. b < 256) n (drop k l) (All-drop (λ b. b < 256) k l bytes)))

decided_by : EachIsDecided → (l : List ℕ) (m : ℕ) → AreBytes l → Head l → Decided l m
decided_by decided l m bytes (inl b) = data_by decided l m b.0 b.1 b.2 bytes b.3 (cases_lt (length l) (b.0 + b.2))
decided_by decided l m bytes (inr none) = no_data l m none.0 (no_length l none.0 none.1)

-- since texts are decided, bytes begin with a literal of a value within the limit, or a read of them fails
pub literal_or_refusal : EachIsDecided → LiteralOrRefusal
literal_or_refusal decided l m bytes = decided_by decided l m bytes (length_or_none l bytes)
