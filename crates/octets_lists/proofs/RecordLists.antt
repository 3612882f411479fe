-- Records that were read, and one more; and a record as it is written.
use Rattle.std.proofs.Common.{◌≡◌, ◌≢◌, ℕ, ◌<◌, List, [], ◌∷◌, ◌++◌}
use Rattle.std.proofs.Common.{length, map, take, drop, append-nil, append_assoc, refl, sym, ◌∙◌, ap, arith}
use Rattle.std.proofs.lemmas.List.{take_at, drop_at, map_push}
use Rattle.std.proofs.lemmas.List.Elements.{All-nil, All-push}
use Rattle.octets.specs.Bytes.{network}
use Rattle.octets.proofs.CallerLemmas.{network_byte}
use Rattle.octets_lists.specs.declared.records.Record.{Record}
use Rattle.octets_lists.specs.Records.{Fields, fields_of, record_of}
use Rattle.octets_lists.specs.Records.{record_bytes, records_bytes, BeginsOthers, BeginsNone}

-- lists that are equal after their lengths, part by part
same_behind_length : (a b x y : List ℕ) → length a ∷ (a ++ x) ≡ length b ∷ (b ++ y) → (a ≡ b) × (x ≡ y)
same_behind_length a b x y e =
    let n : length a ≡ length b = cc in
    let t : a ++ x ≡ b ++ y = cc in (
      sym (take_at a x _ n) ∙ ap (take (length b)) t ∙ take_at b y _ refl,
      sym (drop_at a x _ n) ∙ ap (drop (length b)) t ∙ drop_at b y _ refl,
    )

pub record_written : (kind : ℕ) (value : List ℕ) → kind < 256 → length value < 256
    → network 1 kind ++ network 1 (length value) ++ value ≡ record_of kind value
record_written kind value k l =
    ap (λ t. t ++ network 1 (length value) ++ value) (network_byte kind k)
    ∙ ap (λ t. (kind ∷ []) ++ t ++ value) (network_byte (length value) l)

joined : (fs : List Fields) (f : Fields) (after : List ℕ)
    → records_bytes fs ++ (record_bytes f ++ after) ≡ records_bytes (fs ++ f ∷ []) ++ after
unfolding records_bytes
joined [] f after = ap (λ t. t ++ after) (sym (append-nil (record_bytes f)))
joined (x ∷ fs) f after = simp (append_assoc, joined fs f after)

pub one_more : (b l after : List ℕ) (rs : List Record) (r : Record) → b ≡ records_bytes (map fields_of rs) ++ l
    → l ≡ record_bytes (fields_of r) ++ after → b ≡ records_bytes (map fields_of (rs ++ r ∷ [])) ++ after
one_more b l after rs r e h = e ∙ rw (h, map_push fields_of rs r) (joined (map fields_of rs) (fields_of r) after)

-- bytes that begin with records and one more begin with one
pub first_of : (b l after : List ℕ) (rs : List Record) (r : Record) → b ≡ records_bytes (map fields_of rs) ++ l
    → l ≡ record_bytes (fields_of r) ++ after → (f : Fields) × (x : List ℕ) × (b ≡ record_bytes f ++ x)
unfolding records_bytes
first_of b l after [] r e h = (fields_of r, after, e ∙ h)
first_of b l after (x ∷ rs) r e h = (
  fields_of x,
  records_bytes (map fields_of rs) ++ l,
  e ∙ append_assoc (record_bytes (fields_of x)) (records_bytes (map fields_of rs)) l,
)

-- records and then bytes that begin with none
pub no_more : (fs gs : List Fields) (l : List ℕ) → BeginsNone l → records_bytes fs ++ l ≢ records_bytes gs
unfolding records_bytes
no_more [] [] l none = λ e. none.0 e
no_more [] (g ∷ gs) l none = λ e. none.1 g (records_bytes gs) e
no_more (f ∷ fs) [] l none = λ e. cc
no_more (f ∷ fs) (g ∷ gs) l none = λ e.
    let split : record_bytes f ++ (records_bytes fs ++ l) ≡ record_bytes g ++ records_bytes gs =
    sym (append_assoc (record_bytes f) (records_bytes fs) l) ∙ e in
    no_more fs gs l none (same_behind_length f.value g.value (records_bytes fs ++ l) (records_bytes gs) (cc)).1

pub none_read : (b l : List ℕ) (rs : List Record) → rs ≡ [] → l ≡ b → b ≡ records_bytes (map fields_of rs) ++ l
unfolding records_bytes
none_read b l [] e h = sym h
none_read b l (r ∷ rs) e h = cc

-- records and nothing after them
pub all_read : (b l : List ℕ) (fs : List Fields) → b ≡ records_bytes fs ++ l → length l ≡ 0 → b ≡ records_bytes fs
all_read b [] fs e h = e ∙ append-nil (records_bytes fs)
all_read b (x ∷ l) fs e h = absurd (omega arith)

-- bytes are those of one list of records at most
pub one_list : (fs gs : List Fields) → records_bytes fs ≡ records_bytes gs → fs ≡ gs
unfolding records_bytes
one_list [] [] e = refl
one_list [] (g ∷ gs) e = cc
one_list (f ∷ fs) [] e = cc
one_list (f ∷ fs) (g ∷ gs) e =
    let kind : f.kind ≡ g.kind = cc in
    let both = same_behind_length f.value g.value (records_bytes fs) (records_bytes gs) (cc) in
    let first : f ≡ g = λ i. record { kind = kind i; value = both.0 i } in
    cc (first, one_list fs gs both.1)

-- no other record was read yet, and then one more
pub no_others : (kind : ℕ) (l after : List ℕ) → after ≡ l → BeginsOthers kind l after
unfolding records_bytes
no_others kind l after e = record { others = []; are_others = All-nil (λ f. f.kind ≢ kind); stand_there = sym e }

pub one_other : (kind : ℕ) (l mid after : List ℕ) (f : Fields) → BeginsOthers kind l mid → mid ≡ record_bytes f ++ after
    → f.kind ≢ kind → BeginsOthers kind l after
one_other kind l mid after f h e other = record {
  others = h.others ++ f ∷ [];
  are_others = All-push (λ f. f.kind ≢ kind) h.others f h.are_others other;
  stand_there = h.stand_there ∙ ap (λ t. records_bytes h.others ++ t) e ∙ joined h.others f after;
}
