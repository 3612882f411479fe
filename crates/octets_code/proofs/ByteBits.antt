-- Laws of the bits of bytes.
use Rattle.std.proofs.Common.{◌≡◌, ℕ, zero, suc, ◌+◌, ◌*◌, ◌/◌, ◌%◌, ◌^◌, ◌==◌, ◌<◌, Bool, true, cond, List, [], ◌∷◌}
use Rattle.std.proofs.Common.{◌++◌, replicate, length, take, drop, refl, sym, ◌∙◌, ap, arith, length-append}
use Rattle.std.proofs.Common.{take-append-drop, append_assoc, append-nil, get_or, add-one, drop-cons}
use Rattle.std.proofs.lemmas.Nat.{pow-add, div-mul-add, mod-pow-add}
use Rattle.std.proofs.lemmas.Bool.{cases_eq, eq-eqb, ne_eqb}
use Rattle.std.proofs.lemmas.List.{length-replicate}
use Rattle.octets_code.specs.Bits.{bits_of, value_of}
use Rattle.octets_code.specs.Texts.{bits}
use Rattle.octets_code.proofs.BitLemmas.{length-bits_of, bits_of-append, bits_of-low, bits_of-mod}

lowest : (q : ℕ) → cond (q % 2 == 1) 1 0 ≡ q % 2
lowest q = grind (arith, cases_eq, eq-eqb, ne_eqb)

-- the lowest n bits of a number spell it modulo 2 ^ n
pub value_of-bits_of : (n x : ℕ) → value_of (bits_of n x) ≡ x % 2 ^ n
unfolding value_of bits_of
value_of-bits_of zero x = let e : x % 1 ≡ 0 = omega arith in sym e
value_of-bits_of (suc n) x =
    let one : suc n ≡ 1 + n = omega arith in
    let m : x % 2 ^ (1 + n) ≡ (x / 2 ^ n % 2 ^ 1) * 2 ^ n + x % 2 ^ n = mod-pow-add x 1 n in
    rw (length-bits_of n x, value_of-bits_of n x, lowest (x / 2 ^ n), one, m) refl

-- n bits spell a number below 2 ^ n
pub value_of-lt : (p : List Bool) → value_of p < 2 ^ length p
unfolding value_of
value_of-lt [] = omega arith
value_of-lt (b ∷ bs) = grind (arith, pow-add, (value_of-lt bs))

-- bits come back from the number that they spell
pub bits_of-value_of : (p : List Bool) → bits_of (length p) (value_of p) ≡ p
unfolding value_of bits_of
bits_of-value_of [] = refl
bits_of-value_of (b ∷ bs) = grind (arith, div-mul-add, value_of-lt, bits_of-low, (bits_of-value_of bs))

-- bytes have eight bits each
pub length-bits : (t : List ℕ) → length (bits t) ≡ 8 * length t
unfolding bits
length-bits [] = refl
length-bits (b ∷ bs) = omega (arith, length-append (bits_of 8 b) (bits bs), length-bits_of 8 b, length-bits bs)

-- bits and then n one bits as padding are complete bytes
pub filled_length : (x : List Bool) (t : List ℕ) (n : ℕ) → bits t ≡ x ++ replicate n true → length x + n ≡ 8 * length t
filled_length x t n e = rw (← length-replicate n true, ← length-append x (replicate n true), ← e, length-bits t)

-- the bits of joined bytes are their bits, joined
pub bits-append : (a b : List ℕ) → bits (a ++ b) ≡ bits a ++ bits b
unfolding bits
bits-append [] b = refl
bits-append (c ∷ a) b = grind (arith, append_assoc, (bits-append a b))

-- the same with one byte more at the end
pub bits-push : (t : List ℕ) (b : ℕ) → bits (t ++ b ∷ []) ≡ bits t ++ bits_of 8 b
unfolding bits
bits-push t b = rw (bits-append t (b ∷ []), append-nil (bits_of 8 b))

-- a byte is two half bytes
pub halves : (b : ℕ) → bits_of 8 b ≡ bits_of 4 (b / 16) ++ bits_of 4 (b % 16)
halves b = bits_of-append 4 4 b ∙ ap (λ z. bits_of 4 (b / 16) ++ z) (bits_of-mod 4 b)

-- the bits from the byte at i on
pub bits-at : (t : List ℕ) (i : ℕ) → i < length t → bits (drop i t) ≡ bits_of 8 (get_or t i 0) ++ bits (drop (i + 1) t)
unfolding bits
bits-at t i h = grind (arith, add-one, drop-cons)

-- the bits before the byte at i, its two halves, and those after it
pub bits-around : (t : List ℕ) (i : ℕ) → i < length t
    → bits t
    ≡ bits (take i t) ++ (bits_of 4 (get_or t i 0 / 16) ++ (bits_of 4 (get_or t i 0 % 16) ++ bits (drop (i + 1) t)))
bits-around t i h =
    let b : ℕ = get_or t i 0 in
    ap bits (sym (take-append-drop i t)) ∙ bits-append (take i t) (drop i t)
    ∙ ap (λ z. bits (take i t) ++ z) (bits-at t i h ∙ ap (λ z. z ++ bits (drop (i + 1) t)) (halves b)
    ∙ append_assoc (bits_of 4 (b / 16)) (bits_of 4 (b % 16)) (bits (drop (i + 1) t)))
