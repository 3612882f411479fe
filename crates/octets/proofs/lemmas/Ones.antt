-- How many ones a word begins with.
use Rattle.std.proofs.Common.{◌≡◌, ℕ, suc, ◌+◌, ◌-◌, ◌*◌, ◌/◌, ◌%◌, ◌^◌, ◌<◌, ◌≤◌, Bool, List, ◌++◌, take, drop}
use Rattle.std.proofs.Common.{bit_and, bit_or, sym, ◌∙◌, ap, arith, take-append-drop, append_assoc, inl, inr, Option}
use Rattle.std.proofs.Common.{None, Some, IfSome}
use Rattle.std.proofs.lemmas.Grind.{common_steps}
use Rattle.std.proofs.lemmas.Bool.{cases_lt}
use Rattle.std.proofs.lemmas.Nat.{pow_pos, pow-add, pow_below, shr-shr, shr_split, mod_below, div-mul-add, or_lt}
use Rattle.std.proofs.lemmas.Nat.{or_shr, le_or_r, and_mask, leading_top}
use Rattle.std.specs.Int.Count.{count_leading_zeros}
use Rattle.std.specs.Int.Bits.{or_zero_r}
use Rattle.octets_code.specs.Bits.{bits_of}
use Rattle.octets_code.specs.Codes.{code}
use Rattle.octets_code.specs.Looks.{BeginsWithCode}
use Rattle.octets_code.proofs.TextLemmas.{end_code}
use Rattle.octets.proofs.lemmas.WindowBits.{take-bits_of}
use Rattle.octets.proofs.lemmas.WordOps.{bits_of-ones}

-- where both hold of what there is, so does what they say
pub both_of : {A : Type 0} (r : Option A) (P Q R : A → Type 0) → IfSome r P → IfSome r Q → ((x : A) → P x → Q x → R x)
    → IfSome r R
both_of None P Q R p q f = tt
both_of (Some x) P Q R p q f = f x p q

-- the inverted word, with the bit 33 set
abbrev pub turned : ℕ → ℕ
turned w = bit_or (18446744073709551615 - w) 8589934592

-- `(!w | 1 << 33).leading_zeros()`
abbrev pub ones_of : ℕ → ℕ
ones_of w = count_leading_zeros 64 (turned w)

-- its highest bit
top : (w : ℕ) → (j : ℕ) × (ones_of w + suc j ≡ 64) × (2 ^ j ≤ turned w) × (turned w < 2 ^ suc j)
top w =
    let some : 8589934592 ≤ turned w = le_or_r _ 8589934592 in
    leading_top 64 (turned w) (omega arith) (or_lt 64 _ 8589934592 (omega arith) (omega arith))

above : (w j : ℕ) → turned w < 2 ^ suc j → 33 ≤ j
above w j h =
    let some : 2 ^ 33 ≤ turned w = le_or_r _ 8589934592 in
    elim (cases_lt 33 (suc j)) [
      | inl more ↦ omega arith
      | inr few ↦ elim (cases_lt (suc j) 33) [
        | inl less ↦ let below = pow_below (suc j) 33 less in absurd (omega arith)
        | inr same ↦ let e : suc j ≡ 33 = omega arith in grind (arith, common_steps)
      ]
    ]

-- there are at most thirty
pub ones_few : (w : ℕ) → ones_of w ≤ 30
ones_few w = let t = top w in omega (arith, t.1, above w t.0 t.3)

-- fewer than thirty ones, and a zero
ones_then_zero : (w n j : ℕ) → w < 2 ^ 64 → n + suc j ≡ 64 → n < 30 → 2 ^ j ≤ turned w → turned w < 2 ^ suc j
    → w / 2 ^ j ≡ (2 ^ n - 1) * 2
ones_then_zero w n j h e few low high =
    let v : ℕ = turned w in let u : ℕ = 18446744073709551615 - w in let p : ℕ = 2 ^ j in let m : ℕ = 2 ^ n - 1 in
    let twice : 2 ^ suc j ≡ p * 2 = grind (arith, common_steps, pow-add) in
    let one : v / p ≡ 1 = let s : v ≡ 1 * p + (v - p) = omega (arith, low) in
    ap (λ k. k / p) s ∙ div-mul-add 1 p (v - p) (omega (arith, low, high, twice)) in
    let sum : 34 + (j - 34) ≡ j = omega (arith, e, few) in
    let top : v / 2 ^ 34 ≡ u / 2 ^ 34 = or_shr u 8589934592 34 ∙ or_zero_r (u / 2 ^ 34) in
    let same : u / p ≡ 1 = rw (← sum, ← shr-shr u 34 (j - 34), ← top, shr-shr v 34 (j - 34), sum, one) in
    let r : ℕ = u % p in
    let below : r < p = mod_below u p (pow_pos j) in
    let parts : u ≡ 1 * p + r = sym (shr_split u j) ∙ ap (λ k. k * p + r) same in
    let some : 2 ^ n ≡ m + 1 = omega (arith, pow_pos n) in
    let whole : 2 ^ 64 ≡ m * 2 * p + 2 * p = ap (λ k. 2 ^ k) (sym e) ∙ pow-add 2 n (suc j)
    ∙ rw (some, twice) (grind arith) in
    let split : w ≡ m * 2 * p + (p - 1 - r) = omega (arith, whole, parts, below, h) in
    rw (split, div-mul-add (m * 2) p (p - 1 - r) (omega (arith, below)))

-- thirty ones are the end code
pub thirty_ones : (w : ℕ) → w < 2 ^ 64 → ones_of w ≡ 30 → BeginsWithCode (bits_of 64 w) 256
thirty_ones w h e =
    let x : List Bool = bits_of 64 w in let u : ℕ = 18446744073709551615 - w in let t = top w in
    let j : suc t.0 ≡ 34 = omega arith in
    let below : turned w < 2 ^ 34 = grind arith in
    let high : turned w / 2 ^ 34 ≡ u / 2 ^ 34 = or_shr u 8589934592 34 ∙ or_zero_r _ in
    let all : w / 2 ^ 34 ≡ 2 ^ 30 - 1 = omega arith in
    let front : take 30 x ≡ code 256 = rw (take-bits_of 64 30 w (omega arith), all, bits_of-ones, ← end_code) in
    (drop 30 x, sym (take-append-drop 30 x) ∙ ap (λ z. z ++ drop 30 x) front)

-- the word begins with the code with which the ones and the five bits begin
pub long_found : (w b : ℕ) → w < 2 ^ 64 → ones_of w < 30
    → BeginsWithCode (bits_of (ones_of w + 6) ((2 ^ ones_of w - 1) * 64 + bit_and (w / 2 ^ (58 - ones_of w)) 31)) b
    → BeginsWithCode (bits_of 64 w) b
long_found w b h few f =
    let n : ℕ = ones_of w in let t = top w in let j : ℕ = t.0 in let k : ℕ = 58 - n in let q : ℕ = w / 2 ^ k in
    let x : List Bool = bits_of 64 w in
    let place : k + 5 ≡ j = omega (arith, t.1, few) in
    let up : q / 32 ≡ (2 ^ n - 1) * 2 = rw (shr-shr w k 5, place, ones_then_zero w n j h t.1 few t.2 t.3) in
    let low : bit_and q 31 ≡ q % 32 = and_mask q 5 in
    let all : (2 ^ n - 1) * 64 + bit_and q 31 ≡ q = omega (arith, up, low) in
    let e : 64 - (n + 6) ≡ k = omega (arith, few) in
    let front : take (n + 6) x ≡ code b ++ f.0 = grind (arith, common_steps, take-bits_of) in (
      f.0 ++ drop (n + 6) x,
      sym (take-append-drop (n + 6) x) ∙ ap (λ z. z ++ drop (n + 6) x) front
          ∙ append_assoc (code b) f.0 (drop (n + 6) x),
    )
