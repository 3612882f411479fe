-- What a reader of a length finds.
use Rattle.std.proofs.Common.{◌≡◌, ℕ, suc, ◌+◌, ◌-◌, ◌*◌, ◌%◌, ◌^◌, ◌<◌, ◌≤◌, nat_le, List, [], ◌∷◌, length, take}
use Rattle.std.proofs.Common.{get_or, refl, subst, ap, arith, add-one}
use Rattle.std.proofs.Math.Nat.{pow-le-pow_right}
use Rattle.std.proofs.lemmas.Grind.{common_steps}
use Rattle.std.proofs.lemmas.Bool.Decides.{nat_tests}
use Rattle.std.proofs.lemmas.List.{nil_from_length, length-take-le}
use Rattle.std.proofs.lemmas.List.Elements.{All-nil, All-cons}
use Rattle.octets_literal.specs.Integers.{BeginsInteger}
use Rattle.octets_literal.specs.Integers.IsInteger.{behind_prefix}
use Rattle.octets_literal.specs.Literals.{flag}
use Rattle.octets_literal.specs.Faults.{BeginsLength, EndsInLength, HasLongLength, GoOn}
use Rattle.octets_literal.specs.Lengths.{AreGroups, HasNoGroups, HasNoLength}
use Rattle.octets_literal.specs.declared.error.LiteralError.{LiteralError}
use Rattle.octets_literal.specs.declared.error.LiteralError.TheVariants.{Short, Length, Value, OutOfMemory}
use Rattle.octets_literal.proofs.Groups.{one_group, more_groups, grouped-one, grouped-cons, power-suc}

-- if there is no byte, there are no groups: the bytes end within them
pub no_byte : (l : List ℕ) (most : ℕ) → length l ≡ 0 → 0 < most → HasNoGroups l most Short
unfolding HasNoGroups
no_byte l most e h = (omega (arith, e, h), λ k d b. absurd (omega (arith, b, e)))

-- a byte below 128 is a number in one group
pub last_group : (b : ℕ) (more : List ℕ) (most : ℕ) → b < 128 → 0 < most → AreGroups (b ∷ more) most 1 b
last_group b more most h s = grind (arith, one_group, grouped-one)

-- if only one group is allowed, a byte from 128 on is no number, since more groups would have to follow
pub past_last : (b : ℕ) (more : List ℕ) (most : ℕ) → 128 ≤ b → most ≡ 1 → HasNoGroups (b ∷ more) most Length
unfolding HasNoGroups
past_last b more most h s = rw s (omega arith, All-cons (λ x. 128 ≤ x) b [] h (All-nil (λ x. 128 ≤ x)))

-- a byte from 128 on doesn't begin groups if none follow it
pub refused_on : (b : ℕ) (more : List ℕ) (most : ℕ) (why : LiteralError) → 128 ≤ b → 1 < most
    → HasNoGroups more (most - 1) why → HasNoGroups (b ∷ more) most why
unfolding HasNoGroups
refused_on b more most Short h m w = (omega (arith, w.0, m), All-cons (λ x. 128 ≤ x) b more h w.1)
refused_on b more most Length h m w =
    let next : suc (most - 1) ≡ most = omega (arith, m) in
    (omega (arith, w.0, m), subst (λ k. GoOn (take k (b ∷ more))) next (All-cons (λ x. 128 ≤ x) b _ h w.1))
refused_on b more most Value h m w = w
refused_on b more most OutOfMemory h m w = w

-- and if groups follow it, it begins one more
pub one_more : (b : ℕ) (more : List ℕ) (most k n : ℕ) → 128 ≤ b → 1 < most → AreGroups more (most - 1) k n
    → AreGroups (b ∷ more) most (k + 1) (b % 128 + 128 * n)
one_more b more most k n h m w = grind (arith, common_steps, power-suc, more_groups, grouped-cons)

fit_by : (l : List ℕ) (most k n m : ℕ) → AreGroups l most k n → most ≤ m → n < 128 ^ m
fit_by l most k n m w h =
    let fits : k ≤ m = omega (arith, w.few, h) in
    let more : 128 ^ k ≤ 128 ^ m = pow-le-pow_right (omega arith) fits in omega (arith, w.small, more)

-- the number in four groups at most is below 2 ^ 28
pub groups_fit : (l : List ℕ) (most k n : ℕ) → AreGroups l most k n → most ≤ 4 → n < 268435456
groups_fit l most k n w h = fit_by l most k n 4 w h

-- the number in five groups at most is below 2 ^ 35
pub five_fit : (l : List ℕ) (k n : ℕ) → AreGroups l 5 k n → n < 34359738368
five_fit l k n w = fit_by l 5 k n 5 w (omega arith)

-- the first of some bytes is one
pub first_byte : (l : List ℕ) (first : ℕ) (more : List ℕ) → l ≡ first ∷ more → get_or l 0 0 < 256 → first < 256
first_byte l first more e h = omega (arith, h, ap (λ x. get_or x 0 0) e)

-- a byte is its bit 7 and its lower 7 bits
flag_bit : (first : ℕ) → first < 256 → first ≡ flag (nat_le 128 first) * 128 + first % 128
unfolding flag
flag_bit first h = grind (arith, nat_tests)

-- a prefix that isn't full is the length itself
pub in_first : (first : ℕ) (more : List ℕ) → first < 256 → first % 128 < 127
    → BeginsLength (first ∷ more) 1 (nat_le 128 first) (first % 128)
in_first first more h s = grind (arith, flag_bit)

-- a full prefix and groups after it are an integer
in_more : (first : ℕ) (more : List ℕ) (k n : ℕ) → first < 256 → first % 128 ≡ 127 → AreGroups more 5 k n
    → BeginsInteger (first ∷ more) (k + 1) 7 (flag (nat_le 128 first)) (n + 127)
in_more first more k n h q w =
    let head : first ≡ flag (nat_le 128 first) * 2 ^ 7 + (2 ^ 7 - 1) = omega (arith, flag_bit first h, q) in
    rw add-one (record {
      within = omega (arith, w.within);
      is_integer = behind_prefix w.ends (omega (arith, w.spells)) (ap (λ b. b ∷ take k more) head);
    })

-- and this integer is the length, if it is at most 4294967295
pub length_read : (first : ℕ) (more : List ℕ) (k n : ℕ) → first < 256 → first % 128 ≡ 127 → AreGroups more 5 k n
    → n + 127 ≤ 4294967295 → BeginsLength (first ∷ more) (k + 1) (nat_le 128 first) (n + 127)
length_read first more k n h q w s =
    let i = in_more first more k n h q w in
    let few : length (take (k + 1) (first ∷ more)) ≤ 6 =
    omega (arith, w.few, length-take-le (k + 1) (first ∷ more) i.within) in
    record { within = i.within; is_length = record { is_integer = i.is_integer; few = few; small = s } }

-- and there is no length, if it exceeds 4294967295
pub length_exceeds : (first : ℕ) (more : List ℕ) (k n : ℕ) → first < 256 → first % 128 ≡ 127 → AreGroups more 5 k n
    → 4294967295 < n + 127 → HasNoLength (first ∷ more) Length
unfolding HasNoLength
length_exceeds first more k n h q w s = HasLongLength.exceeds (in_more first more k n h q w) (omega (arith, w.few)) s

-- with no byte there is no length
pub no_first : (l : List ℕ) → length l ≡ 0 → HasNoLength l Short
unfolding HasNoLength
no_first l e = EndsInLength.at_once (nil_from_length l e)

-- if there are no groups after a full prefix, there is no length
pub no_more : (first : ℕ) (more : List ℕ) (why : LiteralError) → first % 128 ≡ 127 → HasNoGroups more 5 why
    → HasNoLength (first ∷ more) why
unfolding HasNoLength HasNoGroups
no_more first more Short q w = EndsInLength.behind_prefix refl q w.0 w.1
no_more first more Length q w = HasLongLength.goes_on refl q w.0 w.1
no_more first more Value q w = w
no_more first more OutOfMemory q w = w

-- at a reader of groups, and of a length
pub ruleset groups_read = (no_byte, past_last, refused_on, groups_fit)

pub ruleset lengths_read = (no_first, no_more, five_fit)
