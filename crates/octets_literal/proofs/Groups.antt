-- Groups of 7 bits after a prefix.
use Rattle.std.proofs.Common.{◌≡◌, ℕ, zero, suc, ◌+◌, ◌*◌, ◌/◌, ◌%◌, ◌^◌, ◌<◌, ◌≤◌, inl, inr, List, [], ◌∷◌}
use Rattle.std.proofs.Common.{if◌then◌else◌, nat_lt, length, take, refl, ◌∙◌, ap, arith}
use Rattle.std.proofs.lemmas.Bool.{cases_lt}
use Rattle.std.proofs.lemmas.Bool.Decides.{nat_tests}
use Rattle.std.proofs.lemmas.Nat.{pow-add}
use Rattle.std.proofs.lemmas.List.Elements.{All-nil, All-cons, All-head, All-tail}
use Rattle.octets_code.specs.Texts.{AreBytes}
use Rattle.octets_literal.specs.Integers.{EndsOnce, grouped, groups_of}
use Rattle.octets_literal.specs.Faults.{GoOn}

-- an empty prefix has no bytes
pub nothing_taken : (k : ℕ) (l : List ℕ) → k ≤ length l → take k l ≡ [] → k ≡ 0
nothing_taken zero l h e = refl
nothing_taken (suc k) [] h e = absurd (omega arith)
nothing_taken (suc k) (b ∷ l) h e = cc

-- how many bytes the groups have with which l begins
unfoldable pub ends : List ℕ → ℕ
ends [] = 1
ends (b ∷ l) = if nat_lt b 128 then 1 else suc (ends l)

-- if the groups end after k bytes, this number is k
pub ends_at : (l : List ℕ) (k : ℕ) → k ≤ length l → EndsOnce (take k l) → k ≡ ends l
unfolding EndsOnce ends
ends_at l zero h e = absurd e
ends_at [] (suc k) h e = absurd e
ends_at (b ∷ l) (suc k) h (inl e) = grind (arith, nat_tests, nothing_taken k l)
ends_at (b ∷ l) (suc k) h (inr e) = grind (arith, nat_tests, ends_at l k (omega arith) e.1)

-- after k bytes that all continue, the groups have not ended
pub ends_past : (l : List ℕ) (k : ℕ) → k ≤ length l → GoOn (take k l) → k < ends l
unfolding ends
ends_past [] zero h g = omega arith
ends_past (b ∷ l) zero h g = grind (arith, nat_tests)
ends_past [] (suc k) h g = absurd (omega arith)
ends_past (b ∷ l) (suc k) h g =
    let on = ends_past l k (omega arith) (All-tail (λ x. 128 ≤ x) b (take k l) g) in
    grind (arith, nat_tests, All-head (λ x. 128 ≤ x) b (take k l) g, on)

-- a byte below 128 is a last group
pub one_group : (b : ℕ) → b < 128 → EndsOnce (b ∷ [])
unfolding EndsOnce
one_group b h = inl (h, refl)

-- a byte from 128 on and the groups after it are groups
pub more_groups : (b : ℕ) (l : List ℕ) → 128 ≤ b → EndsOnce l → EndsOnce (b ∷ l)
unfolding EndsOnce
more_groups b l h e = inr (h, e)

-- the number that a group and those after it spell
pub grouped-cons : (b : ℕ) (l : List ℕ) → grouped (b ∷ l) ≡ b % 128 + 128 * grouped l
unfolding grouped
grouped-cons b l = refl

-- the number that a last group spells
pub grouped-one : (b : ℕ) → b < 128 → grouped (b ∷ []) ≡ b
unfolding grouped
grouped-one b h = omega arith

-- a power of 128 by the one below it
pub power-suc : (k : ℕ) → 128 ^ suc k ≡ 128 * 128 ^ k
power-suc k = let e : suc k ≡ 1 + k = omega arith in ap (λ n. 128 ^ n) e ∙ pow-add 128 1 k

-- a number below 128 is written in one group
pub groups-last : (k n : ℕ) → n < 128 → groups_of k n ≡ n ∷ []
unfolding groups_of
groups-last zero n h = let e : n % 128 ≡ n = omega arith in ap (λ b. b ∷ []) e
groups-last (suc k) n h = grind (arith, nat_tests)

-- any other number as its lowest 7 bits, and then the rest
pub groups-next : (k n : ℕ) → 128 ≤ n → groups_of (suc k) n ≡ (n % 128 + 128) ∷ groups_of k (n / 128)
unfolding groups_of
groups-next k n h = grind (arith, nat_tests)

next_small : (k n : ℕ) → n < 128 ^ suc (suc k) → n / 128 < 128 ^ suc k
next_small k n h = let e = power-suc (suc k) in omega (arith, e, h)

-- what is written ends once, and spells the number
pub groups_spell : (k n : ℕ) → n < 128 ^ suc k → EndsOnce (groups_of k n) × (grouped (groups_of k n) ≡ n)
unfolding groups_of
groups_spell zero n h = grind (arith, one_group, grouped-one)
groups_spell (suc k) n h =
    let more = groups_spell k (n / 128) (next_small k n h) in
    grind (arith, nat_tests, one_group, grouped-one, grouped-cons, more_groups, more)

-- one more group is allowed than is needed
pub groups-more : (k n : ℕ) → n < 128 ^ suc k → groups_of (suc k) n ≡ groups_of k n
groups-more zero n h = grind (arith, groups-last)
groups-more (suc k) n h =
    let more = groups-more k (n / 128) (next_small k n h) in
    grind (arith, cases_lt n 128, groups-last, groups-next, more)

-- no fewer groups spell the number
pub groups_least : (k n : ℕ) (l : List ℕ) → EndsOnce l → n ≡ grouped l → length (groups_of k n) ≤ length l
unfolding EndsOnce groups_of
groups_least k n [] e h = absurd e
groups_least zero n (b ∷ l) e h = omega arith
groups_least (suc k) n (b ∷ l) (inl e) h = grind (arith, grouped-one, groups-last)
groups_least (suc k) n (b ∷ l) (inr e) h =
    let g = h ∙ grouped-cons b l in
    let more = groups_least k (n / 128) l e.1 (omega (arith, g)) in grind (arith, nat_tests, more)

-- at most k + 1 groups are written
pub length-groups : (k n : ℕ) → length (groups_of k n) ≤ suc k
unfolding groups_of
length-groups zero n = omega arith
length-groups (suc k) n = grind (arith, nat_tests, length-groups k (n / 128))

-- the groups that are written are bytes
pub groups-bytes : (k n : ℕ) → AreBytes (groups_of k n)
unfolding groups_of
groups-bytes zero n = All-cons (λ b. b < 256) (n % 128) [] (omega arith) (All-nil (λ b. b < 256))
groups-bytes (suc k) n = grind (arith, nat_tests, All-cons, All-nil, groups-bytes k (n / 128))

-- a number of at most 32 bits never needs more than five groups
pub groups-five : (n : ℕ) → 128 ≤ n → n ≤ 4294967295 → groups_of 4 n ≡ (n % 128 + 128) ∷ groups_of 4 (n / 128)
groups-five n h w = rw (groups-more 3 (n / 128) (omega arith)) (groups-next 3 n h)

-- at a writer of groups
pub ruleset groups_written = (groups-last, groups-five)
