-- Parts of the bytes of a word.
use Rattle.std.proofs.Common.{◌≡◌, ℕ, ◌+◌, ◌-◌, ◌*◌, ◌/◌, ◌%◌, ◌^◌, ◌≤◌, List, ◌++◌, length, take, drop}
use Rattle.std.proofs.Common.{sym, ◌∙◌, ap, arith}
use Rattle.std.proofs.Math.Seq.{take-add}
use Rattle.std.proofs.lemmas.Grind.{common_steps}
use Rattle.std.proofs.lemmas.List.{take-append-le, take-take}
use Rattle.std.proofs.lemmas.Nat.{pow_pos, shr_split, mod_below}
use Rattle.std.specs.Int.{bytes_low_first}
use Rattle.octets.specs.Windows.{low_bytes}
use Rattle.octets.proofs.lemmas.Groups.{low_bytes-cat, length-low_bytes, low_of_word}

-- the bytes of a number in two parts, the lower first
parts : (n k x : ℕ) → low_bytes (n + k) x ≡ low_bytes n (x % 2 ^ (8 * n)) ++ low_bytes k (x / 2 ^ (8 * n))
parts n k x =
    ap (low_bytes (n + k)) (sym (shr_split x (8 * n)))
    ∙ low_bytes-cat n k _ _ (mod_below x _ (pow_pos (8 * n)))

inner : (at n : ℕ) (a b c : List ℕ) → length a ≡ at → length b ≡ n → take n (drop at (a ++ (b ++ c))) ≡ b
inner at n a b c h k = grind (arith, common_steps)

-- the n bytes from one on, as shifts have them
bytes_from : (at n x : ℕ) → at + n ≤ 8
    → low_bytes n (x / 2 ^ (8 * at) % 2 ^ (8 * n)) ≡ take n (drop at (low_bytes 8 x))
bytes_from at n x h =
    let k : ℕ = 8 - (at + n) in let e : 8 ≡ at + (n + k) = omega (arith, h) in
    let y : ℕ = x / 2 ^ (8 * at) in
    let a : List ℕ = low_bytes at (x % 2 ^ (8 * at)) in
    let b : List ℕ = low_bytes n (y % 2 ^ (8 * n)) in
    let c : List ℕ = low_bytes k (y / 2 ^ (8 * n)) in
    let all : low_bytes 8 x ≡ a ++ (b ++ c) =
    ap (λ m. low_bytes m x) e ∙ parts at (n + k) x ∙ ap (λ l. a ++ l) (parts n k y) in
    sym (ap (λ l. take n (drop at l)) all ∙ inner at n a b c (length-low_bytes at _) (length-low_bytes n _))

pub four_from : (at x : ℕ) → at ≤ 4
    → bytes_low_first 0 4 (x / 2 ^ (8 * at) % 2 ^ 32) ≡ take 4 (drop at (bytes_low_first 0 8 x))
four_from at x h = low_of_word 4 _ (omega arith) ∙ bytes_from at 4 x (omega (arith, h))
    ∙ ap (λ l. take 4 (drop at l)) (sym (low_of_word 8 x (omega arith)))

pub two_from : (at x : ℕ) → at ≤ 6
    → bytes_low_first 0 2 (x / 2 ^ (8 * at) % 2 ^ 16) ≡ take 2 (drop at (bytes_low_first 0 8 x))
two_from at x h = low_of_word 2 _ (omega arith) ∙ bytes_from at 2 x (omega (arith, h))
    ∙ ap (λ l. take 2 (drop at l)) (sym (low_of_word 8 x (omega arith)))

-- the first bytes of w, in two stores of n bytes over old, which may overlap
pub two_stores : (n len : ℕ) (w old a b m r : List ℕ) → n ≤ len → len ≤ 2 * n → len ≤ length w → length old ≡ len
    → a ≡ take n w → m ≡ a ++ drop n old → b ≡ take n (drop (len - n) w) → r ≡ take (length m - n) m ++ b
    → r ≡ take len w
two_stores n len w old a b m r few most long e first is last ends =
    let k : length (take n w) ≡ n = grind (arith, common_steps) in
    let l : length m ≡ len = grind (arith, common_steps) in
    let x : take (len - n) m ≡ take (len - n) w =
    ap (take (len - n)) (is ∙ ap (λ l. l ++ drop n old) first)
    ∙ take-append-le (len - n) (take n w) (drop n old) (omega (arith, k, most))
    ∙ take-take (len - n) n w (omega (arith, most)) in
    let f : len ≡ (len - n) + n = omega (arith, few) in
    rw (ends, l, x, last) (sym (take-add (len - n) n w) ∙ ap (λ j. take j w) (sym f))
