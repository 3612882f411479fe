-- The last byte of a text.
use Rattle.std.proofs.Common.{◌≡◌, ℕ, ◌+◌, ◌-◌, ◌*◌, ◌%◌, ◌^◌, ◌<◌, ◌≤◌, Bool, List, []}
use Rattle.std.proofs.Common.{◌∷◌, ◌++◌, length, bit_or, sym, ◌∙◌, ap, arith, append-nil}
use Rattle.std.proofs.lemmas.Nat.{pow_pos, one_shl}
use Rattle.octets_code.specs.Bits.{bits_of}
use Rattle.octets_code.specs.Texts.{ones, bytes_of}
use Rattle.octets_code.proofs.BitLemmas.{length-bits_of}
use Rattle.octets_code.proofs.BytesOf.{bytes_of-byte_low, bytes_of-fill}
use Rattle.octets.proofs.lemmas.WordOps.{shl_or, bits_of-ones}

-- how many bits there are
pub count-bits : (n x : ℕ) (l : List Bool) → bits_of n x ≡ l → n ≡ length l
count-bits n x l e = sym (length-bits_of n x) ∙ ap length e

-- x and a fill are the bits of the byte b
bytes_of-filled : (x : List Bool) (b : ℕ) → length x < 8 → 0 < length x → b < 256
    → bits_of 8 b ≡ x ++ ones (8 - length x) → bytes_of x ≡ b ∷ []
unfolding bytes_of
bytes_of-filled x b few some below is =
    let m : b % 256 ≡ b = omega arith in
    sym (bytes_of-fill x (8 - length x) 1 (omega arith) (omega arith))
    ∙ ap bytes_of (sym is ∙ sym (append-nil (bits_of 8 b))) ∙ bytes_of-byte_low b [] ∙ ap (λ n. n ∷ []) m

-- the bits of a, moved up, and ones beneath them
pub filled_byte : (n a : ℕ) (x : List Bool) → bits_of n a ≡ x → length x < 8 → 0 < length x → a < 2 ^ n
    → (bit_or (a * 2 ^ (8 - n) % 2 ^ 64) (1 * 2 ^ (8 - n) % 2 ^ 64 - 1) < 256)
    × (bytes_of x ≡ bit_or (a * 2 ^ (8 - n) % 2 ^ 64) (1 * 2 ^ (8 - n) % 2 ^ 64 - 1) ∷ [])
filled_byte n a x v few some h =
    let c = count-bits n a x v in let f : n + (8 - n) ≡ 8 = omega (arith, c) in
    let fit : n + (8 - n) ≤ 64 = omega (arith, c) in let lt : 8 - n < 64 = omega arith in
    let low : 2 ^ (8 - n) - 1 < 2 ^ (8 - n) = omega (arith, pow_pos (8 - n)) in
    let both = shl_or n (8 - n) a (2 ^ (8 - n) - 1) h fit low in let is = rw (f, v, bits_of-ones (8 - n)) at both.0 in
    rw (one_shl (8 - n) 64 lt)
    (rw f at both.1, bytes_of-filled x _ few some (rw f at both.1) (is ∙ ap (λ k. x ++ ones (8 - k)) c))
