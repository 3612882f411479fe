-- Laws of bits_of.
use Rattle.std.proofs.Common.{◌≡◌, ℕ, zero, suc, ◌+◌, ◌*◌, ◌/◌, ◌%◌, ◌^◌, ◌==◌, ◌<◌, ◌∷◌, ◌++◌, length, refl, sym, ◌∙◌}
use Rattle.std.proofs.Common.{ap, arith}
use Rattle.std.proofs.Math.Nat.{div-div-eq-div-mul, mul-add-div_right, mul-add-mod_self_right}
use Rattle.std.proofs.lemmas.Grind.{common_steps}
use Rattle.std.proofs.lemmas.Nat.{pow_pos, pow-add, div-mul-add, div-add-mod'}
use Rattle.octets_code.specs.Bits.{bits_of}

-- a number in n bits has n bits
pub length-bits_of : (n x : ℕ) → length (bits_of n x) ≡ n
unfolding bits_of
length-bits_of zero x = refl
length-bits_of (suc n) x = ap suc (length-bits_of n x)

div-pow : (x n m : ℕ) → x / 2 ^ (n + m) ≡ x / 2 ^ m / 2 ^ n
div-pow x n m = grind (arith, pow-add, div-div-eq-div-mul)

-- the first n bits of n + m, and the last m
pub bits_of-append : (n m x : ℕ) → bits_of (n + m) x ≡ bits_of n (x / 2 ^ m) ++ bits_of m x
unfolding bits_of
bits_of-append zero m x = let e : 0 + m ≡ m = omega arith in rw e refl
bits_of-append (suc n) m x =
    let e : suc n + m ≡ suc (n + m) = omega arith in
    let head : (x / 2 ^ (n + m) % 2 == 1) ≡ (x / 2 ^ m / 2 ^ n % 2 == 1) = rw (div-pow x n m) in
    rw e (ap (λ b. b ∷ bits_of (n + m) x) head ∙ ap (λ t. (x / 2 ^ m / 2 ^ n % 2 == 1) ∷ t) (bits_of-append n m x))

-- the lowest m bits see nothing above them
pub bits_of-low : (m a b : ℕ) → bits_of m (a * 2 ^ m + b) ≡ bits_of m b
unfolding bits_of
bits_of-low zero a b = refl
bits_of-low (suc m) a b =
    let one : suc m ≡ 1 + m = omega arith in
    let two : a * 2 ^ suc m ≡ a * 2 * 2 ^ m = rw (one, pow-add 2 1 m) (omega arith) in
    let pos : 0 < 2 ^ m = pow_pos m in
    let div : (a * 2 * 2 ^ m + b) / 2 ^ m ≡ a * 2 + b / 2 ^ m = mul-add-div_right pos (a * 2) b in
    let head : ((a * 2 * 2 ^ m + b) / 2 ^ m % 2 == 1) ≡ (b / 2 ^ m % 2 == 1) =
    grind (arith, common_steps, mul-add-mod_self_right) in
    rw two (ap (λ q. q ∷ bits_of m (a * 2 * 2 ^ m + b)) head
    ∙ ap (λ t. (b / 2 ^ m % 2 == 1) ∷ t) (bits_of-low m (a * 2) b))

-- so n bits of a number are those of what is left modulo 2 ^ n
pub bits_of-mod : (n x : ℕ) → bits_of n x ≡ bits_of n (x % 2 ^ n)
bits_of-mod n x = ap (bits_of n) (sym (div-add-mod' x (2 ^ n))) ∙ bits_of-low n (x / 2 ^ n) (x % 2 ^ n)

-- the n bits of a and then the m bits of b are those of the one number a * 2 ^ m + b
pub bits_of-cat : (n m a b : ℕ) → b < 2 ^ m → bits_of (n + m) (a * 2 ^ m + b) ≡ bits_of n a ++ bits_of m b
bits_of-cat n m a b h = grind (arith, bits_of-append, div-mul-add, bits_of-low)
