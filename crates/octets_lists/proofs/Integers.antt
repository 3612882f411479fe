-- What a reader of an integer with a prefix of any size finds.
use Rattle.std.proofs.Common.{◌≡◌, ℕ, zero, suc, ◌+◌, ◌-◌, ◌*◌, ◌/◌, ◌%◌, ◌^◌, ◌<◌, ◌≤◌, inl, inr, List, [], ◌∷◌}
use Rattle.std.proofs.Common.{nat_lt, if◌then◌else◌, length, take, drop, get_or, refl, sym, subst, ap, ◌∙◌, ◌↔◌}
use Rattle.std.proofs.Common.{Result, Ok, Err, IsErrAnd, arith, add-one}
use Rattle.std.proofs.Math.Nat.{pow-le-pow_right}
use Rattle.std.proofs.lemmas.Bool.Decides.{nat_tests}
use Rattle.std.proofs.lemmas.List.{take_all}
use Rattle.std.proofs.lemmas.Nat.{div-add-mod', div-mul-add, mod-mul-add, mod_below, pow_pos, shr_le}
use Rattle.octets_literal.specs.Integers.{EndsOnce, grouped, IsInteger, BeginsInteger}
use Rattle.octets_literal.specs.Integers.IsInteger.{in_prefix, behind_prefix}
use Rattle.octets_literal.specs.Lengths.{AreGroups, HasNoGroups as LacksGroups}
use Rattle.octets_literal.specs.declared.error.LiteralError.TheVariants as Reasons
use Rattle.octets_literal.proofs.Groups.{ends, ends_at, ends_past, nothing_taken}
use Rattle.octets_literal.proofs.Heads as heads
use Rattle.octets_lists.specs.Integers.{EndsInInteger, IsLongInteger, HasNoInteger, HasNoGroups}
use Rattle.octets_lists.specs.declared.integer.IntegerError.{IntegerError}
use Rattle.octets_lists.specs.declared.integer.IntegerError.TheVariants.{Short, Long}

-- if there is no byte, there are no groups: the bytes end within them
pub no_byte : (l : List ℕ) (most : ℕ) → length l ≡ 0 → 0 < most → HasNoGroups l most Short
unfolding HasNoGroups
no_byte l most e h = heads.no_byte l most e h

-- if only one group is allowed, a byte from 128 on is no number, since more groups would have to follow
pub past_last : (b : ℕ) (more : List ℕ) (most : ℕ) → 128 ≤ b → most ≡ 1 → HasNoGroups (b ∷ more) most Long
unfolding HasNoGroups
past_last b more most h s = heads.past_last b more most h s

-- a byte from 128 on doesn't begin groups if none follow it
pub refused_on : (b : ℕ) (more : List ℕ) (most : ℕ) (why : IntegerError) → 128 ≤ b → 1 < most
    → HasNoGroups more (most - 1) why → HasNoGroups (b ∷ more) most why
unfolding HasNoGroups
refused_on b more most Short h m w = heads.refused_on b more most Reasons.Short h m w
refused_on b more most Long h m w = heads.refused_on b more most Reasons.Length h m w

-- the number in at most m groups is below 128 ^ m
groups_below : (l : List ℕ) (most k n m : ℕ) → AreGroups l most k n → most ≤ m → n < 128 ^ m
groups_below l most k n m w h =
    let fits : k ≤ m = omega (arith, w.few, h) in
    let more : 128 ^ k ≤ 128 ^ m = pow-le-pow_right (omega arith) fits in omega (arith, w.small, more)

-- the number in eight groups at most is below 2 ^ 56, and the number in nine below 2 ^ 63
pub eight_fit : (l : List ℕ) (most k n : ℕ) → AreGroups l most k n → most ≤ 8 → n < 72057594037927936
eight_fit l most k n w h = groups_below l most k n 8 w h

pub nine_fit : (l : List ℕ) (k n : ℕ) → AreGroups l 9 k n → n < 9223372036854775808
nine_fit l k n w = groups_below l 9 k n 9 w (omega arith)

-- a prefix that isn't full is the integer itself
pub in_first : (first size : ℕ) (more : List ℕ) → first % 2 ^ size < 2 ^ size - 1
    → BeginsInteger (first ∷ more) 1 size (first / 2 ^ size) (first % 2 ^ size)
in_first first size more s = record {
  within = omega arith;
  is_integer = in_prefix s (ap (λ b. b ∷ []) (sym (div-add-mod' first (2 ^ size))));
}

is_full : (first size : ℕ) → 2 ^ size - 1 ≤ first % 2 ^ size → first % 2 ^ size ≡ 2 ^ size - 1
is_full first size h =
    let some = pow_pos size in let below = mod_below first (2 ^ size) some in omega (arith, h, some, below)

-- a full prefix and groups after it are an integer
pub in_more : (first size : ℕ) (more : List ℕ) (k n : ℕ) → 2 ^ size - 1 ≤ first % 2 ^ size → AreGroups more 9 k n
    → BeginsInteger (first ∷ more) (k + 1) size (first / 2 ^ size) (2 ^ size - 1 + n)
in_more first size more k n h w =
    let q = is_full first size h in
    let head : first ≡ first / 2 ^ size * 2 ^ size + (2 ^ size - 1) =
    sym (div-add-mod' first (2 ^ size)) ∙ ap (λ r. first / 2 ^ size * 2 ^ size + r) q in
    rw add-one (record {
      within = omega (arith, w.within);
      is_integer = behind_prefix w.ends (ap (λ g. 2 ^ size - 1 + g) w.spells) (ap (λ b. b ∷ take k more) head);
    })

-- with no byte there is no integer
pub no_first : (l : List ℕ) (size : ℕ) → length l ≡ 0 → HasNoInteger l size Short
unfolding HasNoInteger EndsInInteger
no_first l size e = inl (omega (arith, e))

-- if there are no groups after a full prefix, there is no integer
pub no_more : (first size : ℕ) (more : List ℕ) (why : IntegerError) → 2 ^ size - 1 ≤ first % 2 ^ size
    → HasNoGroups more 9 why → HasNoInteger (first ∷ more) size why
unfolding HasNoInteger HasNoGroups LacksGroups EndsInInteger IsLongInteger
no_more first size more Short h w =
    let q = is_full first size h in inr (ap (λ b. b % 2 ^ size) (omega arith) ∙ q, omega (arith, w.0), w.1)
no_more first size more Long h w =
    let q = is_full first size h in (ap (λ b. b % 2 ^ size) (omega arith) ∙ q, omega (arith, w.0), w.1)

-- how many bytes the integer has with which l begins, where p is 2 ^ size
width : List ℕ → ℕ → ℕ
width [] p = 1
width (b ∷ l) p = if nat_lt (b % p) (p - 1) then 1 else suc (ends l)

-- and its number
number_in : List ℕ → ℕ → ℕ
number_in [] p = 0
number_in (b ∷ l) p = if nat_lt (b % p) (p - 1) then b % p else p - 1 + grouped (take (ends l) l)

-- the first k bytes of l are an integer of n
record Is (l : List ℕ) (p k mark n : ℕ) : Type 0 where
  pub ends : k ≡ width l p
  pub spells : n ≡ number_in l p
  pub marked : mark ≡ get_or l 0 0 / p
  pub within : k ≤ length l

first_of : (a b : ℕ) (x y : List ℕ) → a ∷ x ≡ b ∷ y → (a ≡ b) × (x ≡ y)
first_of a b x y e = (ap (λ l. get_or l 0 0) e, ap (drop 1) e)

in_one : (b : ℕ) (l : List ℕ) (p k mark n : ℕ) → suc k ≤ length (b ∷ l) → n < p - 1
    → b ∷ take k l ≡ (mark * p + n) ∷ [] → Is (b ∷ l) p (suc k) mark n
unfolding width number_in
in_one b l p k mark n w s e =
    let both = first_of b (mark * p + n) (take k l) [] e in
    let low : b % p ≡ n = ap (λ x. x % p) both.0 ∙ mod-mul-add mark p n (omega arith) in
    let high : b / p ≡ mark = ap (λ x. x / p) both.0 ∙ div-mul-add mark p n (omega arith) in
    let none : k ≡ 0 = nothing_taken k l (omega arith) both.1 in grind (arith, nat_tests)

in_many : (b : ℕ) (l : List ℕ) (p k mark n : ℕ) → 0 < p → suc k ≤ length (b ∷ l) → k ≡ ends l
    → n ≡ p - 1 + grouped (take k l)
    → b ≡ mark * p + (p - 1) → Is (b ∷ l) p (suc k) mark n
unfolding width number_in
in_many b l p k mark n some w at s e =
    let low : b % p ≡ p - 1 = ap (λ x. x % p) e ∙ mod-mul-add mark p (p - 1) (omega arith) in
    let high : b / p ≡ mark = ap (λ x. x / p) e ∙ div-mul-add mark p (p - 1) (omega arith) in
    grind (arith, nat_tests)

is_by : (l : List ℕ) (size k mark n : ℕ) → k ≤ length l → IsInteger size mark n (take k l) → Is l (2 ^ size) k mark n
is_by l size zero mark n w (in_prefix s e) = cc
is_by l size zero mark n w (behind_prefix end s e) = cc
is_by [] size (suc k) mark n w i = absurd (omega arith)
is_by (b ∷ l) size (suc k) mark n w (in_prefix s e) = in_one b l (2 ^ size) k mark n w s e
is_by (b ∷ l) size (suc k) mark n w (behind_prefix {more} end s e) =
    let both = first_of b (mark * 2 ^ size + (2 ^ size - 1)) (take k l) more e in
    let stops = ends_at l k (omega arith) (subst EndsOnce (sym both.1) end) in
    in_many b l (2 ^ size) k mark n (pow_pos size) w stops (s ∙ ap (λ m. 2 ^ size - 1 + grouped m) (sym both.1)) both.0

is_one : (l : List ℕ) (size k mark n : ℕ) → BeginsInteger l k size mark n → Is l (2 ^ size) k mark n
is_one l size k mark n b = is_by l size k mark n b.within b.is_integer

-- bytes begin with one integer at most
pub one_integer : (l : List ℕ) (size j k mark m n v : ℕ) → BeginsInteger l j size mark n → BeginsInteger l k size m v
    → (j ≡ k) × (mark ≡ m) × (n ≡ v)
one_integer l size j k mark m n v a b =
    let p = is_one l size j mark n a in let q = is_one l size k m v b in
    (cc (p.ends, q.ends), cc (p.marked, q.marked), cc (p.spells, q.spells))

-- bytes that end within an integer have fewer bytes than the integer
ends_before : (l : List ℕ) (size : ℕ) → EndsInInteger l size → length l < width l (2 ^ size)
unfolding EndsInInteger width
ends_before [] size h = omega arith
ends_before (b ∷ l) size (inl h) = absurd (omega (arith, h))
ends_before (b ∷ l) size (inr (full, few, on)) =
    let goes = ends_past l (length l) (omega arith) (rw (take_all (length l) l (omega arith)) on) in
    let low : b % 2 ^ size ≡ 2 ^ size - 1 = ap (λ x. x % 2 ^ size) (omega arith) ∙ full in
    grind (arith, nat_tests, goes, low)

-- an integer of more than ten bytes
long_is : (l : List ℕ) (size : ℕ) → IsLongInteger l size → 10 < width l (2 ^ size)
unfolding IsLongInteger width
long_is [] size (full, many, on) = absurd (omega (arith, many))
long_is (b ∷ l) size (full, many, on) =
    let goes = ends_past l 9 (omega (arith, many)) on in
    let low : b % 2 ^ size ≡ 2 ^ size - 1 = ap (λ x. x % 2 ^ size) (omega arith) ∙ full in
    grind (arith, nat_tests, goes, low)

-- bytes that begin with an integer don't end within it
pub not_short : (l : List ℕ) (size k mark n : ℕ) → BeginsInteger l k size mark n → EndsInInteger l size → ⊥
not_short l size k mark n b h =
    let i = is_one l size k mark n b in omega (arith, ends_before l size h, i.ends, i.within)

-- and it has more than ten bytes if it is too long
pub not_long : (l : List ℕ) (size k mark n : ℕ) → k ≤ 10 → BeginsInteger l k size mark n → IsLongInteger l size → ⊥
not_long l size k mark n few b h =
    let i = is_one l size k mark n b in omega (arith, long_is l size h, i.ends, few)

not_both : (l : List ℕ) (size : ℕ) → EndsInInteger l size → IsLongInteger l size → ⊥
unfolding EndsInInteger IsLongInteger
not_both l size (inl h) (full, many, on) = omega (arith, h, many)
not_both l size (inr (full, few, on)) (same, many, more) = omega (arith, few, many)

-- what the error says is so, and nothing else
pub no_integer : (l : List ℕ) (size : ℕ) (why : IntegerError) → HasNoInteger l size why
    → ((why ≡ Short) ↔ EndsInInteger l size) × ((why ≡ Long) ↔ IsLongInteger l size)
    × ((k mark n : ℕ) → k ≤ 10 → BeginsInteger l k size mark n → ⊥)
unfolding HasNoInteger
no_integer l size Short h = (
  (λ _. h, λ _. refl),
  (λ e. cc, λ g. absurd (not_both l size h g)),
  λ k mark n few b. not_short l size k mark n b h,
)
no_integer l size Long h = (
  (λ e. cc, λ g. absurd (not_both l size g h)),
  (λ _. h, λ _. refl),
  λ k mark n few b. not_long l size k mark n few b h,
)

-- an error that was passed on is e exactly if P holds, where the error passed on was e exactly then
pub passed_on : {T E : Type 0} {P : Type 0} (r : Result T E) (s e : E) → IsErrAnd r (λ x. x ≡ s)
    → ((s ≡ e) ↔ P) → ((r ≡ Err e) ↔ P)
passed_on (Ok x) s e h w = absurd h
passed_on (Err x) s e h w = (λ p. w.0 cc, λ q. let same = w.1 q in cc)

-- at a reader of groups
pub ruleset groups_read = (no_byte, past_last, refused_on, eight_fit)

-- at a reader of an integer
pub ruleset integers_found = (in_first, no_first, no_more, nine_fit, shr_le)
