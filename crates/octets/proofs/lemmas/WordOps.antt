-- Shifts, masks and ors of words as lists of bits.
use Rattle.std.proofs.Common.{◌≡◌, ℕ, zero, suc, ◌+◌, ◌-◌, ◌*◌, ◌/◌, ◌%◌, ◌^◌, ◌<◌, ◌≤◌, Bool, List, ◌++◌, bit_and}
use Rattle.std.proofs.Common.{bit_or, refl, ◌∙◌, ap, arith, append_assoc, subst}
use Rattle.std.proofs.lemmas.Grind.{common_steps}
use Rattle.std.proofs.Math.Nat.{mul-mod_left}
use Rattle.std.proofs.lemmas.Nat.{pow_pos, pow-add, shl-shr, shr_split, shl_whole, shl_below, or_shifted, one_shl}
use Rattle.std.proofs.lemmas.Nat.{and_mask, shr_below, mod_below, mul-add-lt, shr_high, mod-pow-add, mul-mod_first}
use Rattle.std.proofs.lemmas.Nat.Bits.{ones_shr}
use Rattle.octets_code.specs.Bits.{bits_of}
use Rattle.octets_code.specs.Texts.{ones}
use Rattle.octets_code.proofs.BitLemmas.{length-bits_of, bits_of-low, bits_of-append, bits_of-cat}

-- `b | y`, where b is the number a moved up, and y is below it
pub or_join : (n k a b y : ℕ) → a < 2 ^ n → b ≡ a * 2 ^ k → y < 2 ^ k
    → (bits_of (n + k) (bit_or b y) ≡ bits_of n a ++ bits_of k y) × (bit_or b y < 2 ^ (n + k))
or_join n k a b y ha e hy = grind (arith, or_shifted, bits_of-cat, pow-add)

-- `a << k | y`
pub shl_or : (j k a y : ℕ) → a < 2 ^ j → j + k ≤ 64 → y < 2 ^ k
    → (bits_of (j + k) (bit_or (a * 2 ^ k % 2 ^ 64) y) ≡ bits_of j a ++ bits_of k y)
    × (bit_or (a * 2 ^ k % 2 ^ 64) y < 2 ^ (j + k))
shl_or j k a y ha fit hy = or_join j k a _ y ha (shl_whole a j k 64 ha fit) hy

-- `n & (1 << k) - 1`
pub mask_is : (k n : ℕ) → k < 64 → bit_and n (1 * 2 ^ k % 2 ^ 64 - 1) ≡ n % 2 ^ k
mask_is k n h = rw (one_shl k 64 h) (and_mask n k)

pub low_bits : (k n : ℕ) → bits_of k (n % 2 ^ k) ≡ bits_of k n
low_bits k n = rw (← bits_of-low k (n / 2 ^ k) _, shr_split)

pub bits_of-ones : (k : ℕ) → bits_of k (2 ^ k - 1) ≡ ones k
unfolding bits_of
bits_of-ones zero = refl
bits_of-ones (suc k) =
    let e : 2 ^ suc k - 1 ≡ 1 * 2 ^ k + (2 ^ k - 1) = omega arith in
    rw (e, shr_high 1 k (2 ^ k - 1) (omega (arith, pow_pos)), bits_of-low k 1 _, bits_of-ones k) refl

-- the highest n bits of a word
abbrev pub high : ℕ → ℕ → List Bool
high n b = bits_of n (b / 2 ^ (64 - n))

-- fewer than 64, and no others
abbrev pub IsHigh : ℕ → ℕ → Type 0
IsHigh n b = (n < 64) × (b ≡ b / 2 ^ (64 - n) * 2 ^ (64 - n)) × (b / 2 ^ (64 - n) < 2 ^ n)

-- a word that has no others
pub is_high : (n b : ℕ) → n < 64 → b % 2 ^ (64 - n) ≡ 0 → b < 2 ^ 64 → IsHigh n b
is_high n b few none below =
    let e : 64 ≡ n + (64 - n) = omega (arith, few) in
    (few, omega (arith, none, shr_split b (64 - n)), shr_below b n (64 - n) (subst (λ k. b < 2 ^ k) e below))

pub no_others : (n b : ℕ) → IsHigh n b → b % 2 ^ (64 - n) ≡ 0
no_others n b h = omega (arith, shr_split b (64 - n), h.1)

-- the number a, moved up
pub high_of : (n a b : ℕ) → n < 64 → a < 2 ^ n → b ≡ a * 2 ^ (64 - n) → IsHigh n b × (high n b ≡ bits_of n a)
high_of n a b h below e = grind (arith, common_steps, shl-shr)

-- the same, as a shift computes it
pub moved : (n a : ℕ) → n < 64 → a < 2 ^ n → (high n (a * 2 ^ (64 - n) % 2 ^ 64) ≡ bits_of n a)
    × IsHigh n (a * 2 ^ (64 - n) % 2 ^ 64)
moved n a h below = let w = high_of n a _ h below (shl_whole a n (64 - n) 64 below (omega arith)) in (w.1, w.0)

-- y beneath a number that was moved up
or_moved : (a len k b y : ℕ) → b ≡ a * 2 ^ (len + k) → y < 2 ^ len → bit_or b (y * 2 ^ k) ≡ (a * 2 ^ len + y) * 2 ^ k
or_moved a len k b y e hy = rw (e, or_shifted a (len + k) _ (shl_below y len k hy), pow-add) (grind arith)

-- y beneath them, where it fits
pub joined : (n len b y : ℕ) → IsHigh n b → y < 2 ^ len → n + len < 64
    → IsHigh (n + len) (bit_or b (y * 2 ^ (64 - (n + len)) % 2 ^ 64))
    × (high (n + len) (bit_or b (y * 2 ^ (64 - (n + len)) % 2 ^ 64)) ≡ high n b ++ bits_of len y)
joined n len b y is hy fit =
    let a = b / 2 ^ (64 - n) in let k = 64 - (n + len) in let e : 64 - n ≡ len + k = omega arith in
    let below : a * 2 ^ len + y < 2 ^ (n + len) =
    omega (arith, mul-add-lt a (2 ^ len) y (2 ^ n) is.2 hy, pow-add) in
    let h = high_of (n + len) _ _ fit below (ap (bit_or b) (shl_whole y len k 64 hy (omega arith))
    ∙ or_moved a len k b y (is.1 ∙ ap (λ x. a * 2 ^ x) e) hy) in (h.0, h.1 ∙ bits_of-cat n len a y hy)

pub shl_mod : (y k j : ℕ) → y * 2 ^ j % 2 ^ (k + j) ≡ y % 2 ^ k * 2 ^ j
shl_mod y k j = rw (mod-pow-add, shl-shr, mul-mod_left) (omega arith)

-- what is above the lowest k bits moved out
shl_twice : (y k : ℕ) → k < 64 → y * 2 ^ 1 % 2 ^ 64 * 2 ^ (63 - k) % 2 ^ 64 ≡ y % 2 ^ k * 2 ^ (64 - k)
shl_twice y k h =
    let e : 64 - k ≡ 1 + (63 - k) = omega arith in let f : k + (64 - k) ≡ 64 = omega arith in
    let m : y * 2 ^ 1 * 2 ^ (63 - k) ≡ y * 2 ^ (64 - k) = rw (e, pow-add) (grind arith) in
    mul-mod_first _ _ (2 ^ 64) ∙ ap (λ x. x % 2 ^ 64) m ∙ (rw f at (shl_mod y k (64 - k)))

-- y beneath them, where it passes the end of the word
pub passed : (n len b y : ℕ) → IsHigh n b → y < 2 ^ len → len ≤ 60 → 64 ≤ n + len
    → IsHigh (n + len - 64) (y * 2 ^ 1 % 2 ^ 64 * 2 ^ (63 - (n + len - 64)) % 2 ^ 64)
    × (high n b ++ bits_of len y ≡ bits_of 64 (bit_or b (y / 2 ^ (n + len - 64))) ++ high (n + len - 64)
    (y * 2 ^ 1 % 2 ^ 64 * 2 ^ (63 - (n + len - 64)) % 2 ^ 64))
passed n len b y is hy hl past =
    let k = n + len - 64 in let e : len ≡ 64 - n + k = omega arith in
    let f : n + (64 - n) ≡ 64 = omega arith in let few : k < 64 = omega arith in
    let h = high_of k _ _ few (mod_below y (2 ^ k) (pow_pos k)) (shl_twice y k few) in
    let word =
    rw f at (or_join n (64 - n) _ b _ is.2 is.1 (shr_below y (64 - n) k (rw e at hy))).0 in
    grind (arith, low_bits, append_assoc, bits_of-append)

-- ones beneath them
pub filled : (n b : ℕ) → IsHigh n b → bits_of 64 (bit_or b (18446744073709551615 / 2 ^ n)) ≡ high n b ++ ones (64 - n)
filled n b is =
    let f : n + (64 - n) ≡ 64 = omega arith in
    let e : 18446744073709551615 / 2 ^ n ≡ 2 ^ (64 - n) - 1 = ones_shr 64 n (omega arith) in
    rw (← bits_of-ones)
    (grind (arith, or_join, pow_pos))

-- how many bits wait, and what fills them up
pub ruleset bits_left = (length-bits_of, filled)
