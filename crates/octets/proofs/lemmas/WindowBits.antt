-- Words of bits: shifted, cut, and over a text with ones past its end.
use Rattle.std.proofs.Common.{◌≡◌, ℕ, zero, suc, ◌+◌, ◌-◌, ◌*◌, ◌/◌, ◌%◌, ◌^◌, ◌<◌, ◌≤◌, true, List, [], ◌++◌, length}
use Rattle.std.proofs.Common.{take, drop, min, bit_or, refl, sym, ◌∙◌, ap, arith, length-take, length-drop}
use Rattle.std.proofs.Common.{take-append-drop, get_or}
use Rattle.std.proofs.Math.Seq.{take-add, take-append_seam, drop-append_seam, take-append-add, drop-append-add}
use Rattle.std.proofs.lemmas.Grind.{common_steps}
use Rattle.std.proofs.lemmas.List.{drop_all, drop-drop, drop-take, take-append-le, drop-append-le, take-replicate}
use Rattle.std.proofs.lemmas.List.{drop-replicate, take-take}
use Rattle.std.proofs.lemmas.Nat.{pow_pos, mod_below, shr_below, shr-shr, one_shl}
use Rattle.std.specs.Int.{byte_at, bytes_high_first}
use Rattle.octets_code.specs.Bits.{bits_of}
use Rattle.octets_code.specs.Texts.{bits, ones}
use Rattle.octets_code.proofs.BitLemmas.{bits_of-append, bits_of-cat}
use Rattle.octets_code.proofs.BytesOf.{byte_at-is}
use Rattle.octets.specs.Windows.{filled, IsWindow, IsBehind, IsLast}
use Rattle.octets.proofs.lemmas.CodeFacts.{length-bits_of, length-bits, bits-append, bits-push}
use Rattle.octets.proofs.lemmas.WordOps.{or_join, shl_mod, low_bits, bits_of-ones, shl_or}

module _ {A : Type 0} where
  -- after the first n
  pub drop_front : (n : ℕ) (x y : List A) → n ≡ length x → drop n (x ++ y) ≡ y
  drop_front n x y e = rw (e, drop-append_seam x y)

  pub take_front : (n : ℕ) (x y : List A) → n ≡ length x → take n (x ++ y) ≡ x
  take_front n x y e = rw (e, take-append_seam x y)

  -- a window of n moved by c
  pub slide : (g : List A) (n c : ℕ) → c ≤ n → drop c (take n g) ++ take c (drop n g) ≡ take n (drop c g)
  slide g n c h = let e : c + (n - c) ≡ n = omega arith in grind (arith, common_steps, take-add)

  -- the first m of n past o, which are among the n
  pub inner : (g : List A) (m o n : ℕ) → o + m ≤ n → take m (drop o (take n g)) ≡ take m (drop o g)
  inner g m o n h = let e : o + (n - o) ≡ n = omega arith in grind (arith, drop-take, take-take)

-- the bits past the first k
pub drop-bits_of : (n k x : ℕ) → k ≤ n → drop k (bits_of n x) ≡ bits_of (n - k) x
drop-bits_of n k x h =
    let e : k + (n - k) ≡ n = omega arith in grind (arith, bits_of-append, drop_front, length-bits_of)

-- the first k bits
pub take-bits_of : (n k x : ℕ) → k ≤ n → take k (bits_of n x) ≡ bits_of k (x / 2 ^ (n - k))
take-bits_of n k x h =
    let e : k + (n - k) ≡ n = omega arith in grind (arith, bits_of-append, take_front, length-bits_of)

-- `x << k | y`
pub shl_bits : (k x y : ℕ) → k ≤ 64 → y < 2 ^ k
    → bits_of 64 (bit_or (x * 2 ^ k % 2 ^ 64) y) ≡ drop k (bits_of 64 x) ++ bits_of k y
shl_bits k x y h hy =
    let e : 64 - k + k ≡ 64 = omega arith in
    let cut : x * 2 ^ k % 2 ^ 64 ≡ x % 2 ^ (64 - k) * 2 ^ k = rw e at (shl_mod x (64 - k) k) in
    let j = or_join (64 - k) k _ _ y
    (mod_below x _ (pow_pos (64 - k))) cut hy in grind (arith, low_bits, drop-bits_of)

-- `x << k`
pub shl_alone : (k x : ℕ) → k ≤ 64 → bits_of 64 (x * 2 ^ k % 2 ^ 64) ≡ drop k (bits_of 64 x) ++ bits_of k 0
shl_alone k x h =
    let e : 64 - k + k ≡ 64 = omega arith in
    let cut : x * 2 ^ k % 2 ^ 64 ≡ x % 2 ^ (64 - k) * 2 ^ k = rw e at (shl_mod x (64 - k) k) in
    let more : x * 2 ^ k % 2 ^ 64 ≡ x % 2 ^ (64 - k) * 2 ^ k + 0 = omega arith in
    grind (arith, bits_of-cat, pow_pos, low_bits, drop-bits_of)

-- the bits of a number's bytes
pub bits-high_first : (n x : ℕ) → bits (bytes_high_first n x) ≡ bits_of (8 * n) x
unfolding bits bits_of
bits-high_first zero x = refl
bits-high_first (suc n) x =
    let e : 8 * suc n ≡ 8 + 8 * n = omega arith in
    let byte : bits_of 8 (byte_at n x) ≡ bits_of 8 (x / 2 ^ (8 * n)) =
    rw (← byte_at-is, low_bits 8 _) in
    ap (λ z. z ++ bits (bytes_high_first n x)) byte ∙ ap (λ z. bits_of 8 (x / 2 ^ (8 * n)) ++ z) (bits-high_first n x)
    ∙ sym (bits_of-append 8 (8 * n) x) ∙ ap (λ k. bits_of k x) (sym e)

-- the bits of a word are those of its bytes
pub word_bits : (w : ℕ) (l : List ℕ) → bytes_high_first 8 w ≡ l → bits_of 64 w ≡ bits l
word_bits w l e = sym (bits-high_first 8 w) ∙ ap bits e

-- the bits of a text in two parts
parted : (k : ℕ) (t : List ℕ) → bits t ≡ bits (take k t) ++ bits (drop k t)
parted k t = ap bits (sym (take-append-drop k t)) ∙ bits-append (take k t) (drop k t)

pub bits-take : (k : ℕ) (t : List ℕ) → k ≤ length t → take (8 * k) (bits t) ≡ bits (take k t)
bits-take k t h =
    rw (
      parted k t,
      take_front (8 * k) (bits (take k t)) _ (omega (arith, length-bits, length-take k t)),
    )

pub bits-drop : (k : ℕ) (t : List ℕ) → k ≤ length t → drop (8 * k) (bits t) ≡ bits (drop k t)
bits-drop k t h =
    rw (
      parted k t,
      drop_front (8 * k) (bits (take k t)) _ (omega (arith, length-bits, length-take k t)),
    )

-- eight bytes from the one at i on
pub eight_bytes : (t : List ℕ) (i : ℕ) → i + 8 ≤ length t → bits (take 8 (drop i t)) ≡ take 64 (drop (8 * i) (filled t))
unfolding filled
eight_bytes t i h =
    let long : 64 ≤ length (drop (8 * i) (bits t)) = omega (arith, length-drop (8 * i) (bits t), length-bits) in
    rw (
      ← bits-take 8 (drop i t) (omega (arith, length-drop i t)),
      ← bits-drop i t (omega arith),
      ← take-append-le 64 _ (ones 128) long,
      ← drop-append-le (8 * i) (bits t) (ones 128) (omega (arith, length-bits)),
    )

-- a word of eight bytes, moved up by o bits, of which the first 57 count
pub moved_up : (t : List ℕ) (i o w : ℕ) → i + 8 ≤ length t → o < 8 → bytes_high_first 8 w ≡ take 8 (drop i t)
    → take 57 (bits_of 64 (w * 2 ^ o % 2 ^ 64)) ≡ take 57 (drop (8 * i + o) (filled t))
moved_up t i o w h ho e =
    let long : 57 ≤ length (drop o (bits_of 64 w)) = omega (arith, length-drop o (bits_of 64 w), length-bits_of) in
    rw (
      shl_alone o w (omega arith),
      take-append-le,
      word_bits w _ e,
      eight_bytes,
      inner _ 57 o 64 (omega arith),
      drop-drop,
    )

-- a window and what is after it, moved
pub moved_on : (t : List ℕ) (at w b c : ℕ) → c ≤ 57 → b < 2 ^ 64 → IsWindow t at w → IsBehind t at b
    → IsWindow t (at + c) (bit_or (w * 2 ^ c % 2 ^ 64) (b / 2 / 2 ^ (63 - c)))
moved_on t at w b c h small iw ib =
    let sum : 1 + (63 - c) ≡ 64 - c = omega arith in
    let whole : c + (64 - c) ≡ 64 = omega arith in
    let low : b / 2 / 2 ^ (63 - c) ≡ b / 2 ^ (64 - c) = rw (shr-shr b 1 (63 - c), sum) in
    let below : b / 2 ^ (64 - c) < 2 ^ c = shr_below b c (64 - c) (rw whole small) in
    let next : bits_of c (b / 2 ^ (64 - c)) ≡ take c (drop 64 (drop at (filled t))) =
    rw (← take-bits_of 64 c b (omega arith), ← take-take c 57 _ h, ib, take-take, ← drop-drop) in
    let both : drop c (bits_of 64 w) ++ bits_of c (b / 2 ^ (64 - c)) ≡ take 64 (drop c (drop at (filled t))) =
    rw (iw, next) (slide _ 64 c (omega arith)) in grind (arith, shl_bits, drop-drop)

ended_past : (t : List ℕ) (last at past : ℕ) → at + 64 ≡ 8 * length t + past → at ≤ 8 * length t + 64 → 64 ≤ past
    → drop past (bits_of 64 last) ++ ones (min past 64) ≡ take 64 (drop at (filled t))
unfolding filled
ended_past t last at past e h many =
    let o : at ≡ length (bits t) + (at - 8 * length t) = omega (arith, length-bits) in
    let none : drop past (bits_of 64 last) ≡ [] = grind (arith, drop_all, length-bits_of) in
    let right : take 64 (drop at (bits t ++ ones 128)) ≡ ones 64 =
    rw (o, drop-append-add, drop-replicate, take-replicate 64 (128 - (at - 8 * length t)) true (omega arith)) in
    grind arith

ended_within : (t : List ℕ) (last at past : ℕ) → IsLast t last → at + 64 ≡ 8 * length t + past → past < 64
    → drop past (bits_of 64 last) ++ ones (min past 64) ≡ take 64 (drop at (filled t))
unfolding filled
ended_within t last at past l e few =
    let total : ℕ = 8 * length t in let k : ℕ = total - at in let m : ℕ = min 64 total in
    let long : length (bits t) ≡ total = length-bits t in
    let e2 : k ≡ m - (m - k) = omega arith in
    let e3 : total - m + (m - k) ≡ at = omega arith in
    let e4 : 64 ≡ length (drop at (bits t)) + past = grind (arith, common_steps) in
    let a : drop past (bits_of 64 last) ≡ bits_of k last = grind (arith, drop-bits_of) in
    let b : bits_of k last ≡ drop at (bits t) =
    rw (e2, ← drop-bits_of m (m - k) last (omega arith), l, drop-drop, e3) in
    let c : take 64 (drop at (bits t ++ ones 128)) ≡ drop at (bits t) ++ ones past =
    rw (
      drop-append-le at (bits t) (ones 128) (omega arith),
      e4,
      take-append-add,
      take-replicate past 128 true
          (omega arith),
    ) in grind arith

-- the text's last bits from the bit at on, and ones past its end
pub ended_at : (t : List ℕ) (last at past : ℕ) → IsLast t last → at + 64 ≡ 8 * length t + past → at ≤ 8 * length t + 64
    → drop past (bits_of 64 last) ++ ones (min past 64) ≡ take 64 (drop at (filled t))
ended_at t last at past l e h = grind (arith, ended_within, ended_past)

-- nothing is left but ones
pub ended_none : (last past : ℕ) → 64 ≤ past
    → bits_of 64 18446744073709551615 ≡ drop past (bits_of 64 last) ++ ones (min past 64)
ended_none last past h = grind (arith, drop_all, length-bits_of, bits_of-ones)

-- `last << past | ((1 << past) - 1)`
pub ended_some : (last past : ℕ) → past < 64 → bits_of 64
    (bit_or (last * 2 ^ past % 2 ^ 64) (1 * 2 ^ past % 2 ^ 64 - 1)) ≡ drop past (bits_of 64 last) ++ ones (min past 64)
ended_some last past h =
    let below : 2 ^ past - 1 < 2 ^ past = omega (arith, pow_pos) in
    rw one_shl (grind (arith, shl_bits, bits_of-ones))

-- the last eight bytes
pub last_eight : (t : List ℕ) (w : ℕ) → 8 ≤ length t → bytes_high_first 8 w ≡ drop (length t - 8) t → IsLast t w
last_eight t w h e = let o : 8 * (length t - 8) ≡ 8 * length t - 64 = omega arith in grind (arith, word_bits, bits-drop)

-- fewer bytes
pub last_few : (t : List ℕ) (w : ℕ) → length t < 8 → bits_of (8 * length t) w ≡ bits t → IsLast t w
last_few t w h e = grind (arith, common_steps)

-- four to seven of them: the first of the first four, and the last four
pub last_four : (t : List ℕ) (a b : ℕ) → 4 ≤ length t → length t < 8 → bytes_high_first 4 a ≡ take 4 t
    → bytes_high_first 4 b ≡ drop (length t - 4) t → a < 2 ^ 32 → b < 2 ^ 32
    → IsLast t (bit_or (a / 2 ^ (8 * (8 - length t)) * 2 ^ 32 % 2 ^ 64) b)
last_four t a b h few ea eb sa sb =
    let m : ℕ = length t - 4 in let j : ℕ = 8 * m in
    let whole : 8 * length t ≡ j + 32 = omega arith in
    let small : a / 2 ^ (32 - j) < 2 ^ j = grind (arith, shr_below) in
    let front : bits_of j (a / 2 ^ (32 - j)) ≡ bits (take m t) = sym (take-bits_of 32 j a (omega arith))
    ∙ ap (take j) (sym (bits-high_first 4 a) ∙ ap bits ea) ∙ bits-take m (take 4 t) (omega (arith, length-take 4 t))
    ∙ ap bits (take-take m 4 t (omega arith)) in
    let back : bits_of 32 b ≡ bits (drop m t) = sym (bits-high_first 4 b) ∙ ap bits eb in grind (arith, shl_or, parted)

-- one more byte
pub byte_more : (t : List ℕ) (i w : ℕ) → i < length t → i < 8 → bits_of (8 * i) w ≡ bits (take i t) → w < 2 ^ (8 * i)
    → get_or t i 0 < 256
    → (bits_of (8 * (i + 1)) (bit_or (w * 2 ^ 8 % 2 ^ 64) (get_or t i 0)) ≡ bits (take (i + 1) t))
    × (bit_or (w * 2 ^ 8 % 2 ^ 64) (get_or t i 0) < 2 ^ (8 * (i + 1)))
byte_more t i w h few e small byte =
    let s = shl_or (8 * i) 8 w _ small (omega arith) byte in grind (arith, common_steps, bits-push)

-- after a window, before the last eight bytes
pub behind_within : (t : List ℕ) (at w : ℕ) → at / 8 + 16 ≤ length t
    → bytes_high_first 8 w ≡ take 8 (drop (at / 8 + 8) t) → IsBehind t at (w * 2 ^ (at % 8) % 2 ^ 64)
behind_within t at w h e = let o : 8 * (at / 8 + 8) + at % 8 ≡ at + 64 = omega arith in grind (arith, moved_up)

pub behind_end : (t : List ℕ) (last at w : ℕ) → IsLast t last → at ≤ 8 * length t → length t - at / 8 < 16
    → bits_of 64 w ≡ drop (at + 128 - 8 * length t) (bits_of 64 last) ++ ones (min (at + 128 - 8 * length t) 64)
    → IsBehind t at w
behind_end t last at w l h few e =
    rw (
      e,
      ended_at t last (at + 64) (at + 128 - 8 * length t) l (omega arith) (omega arith),
      take-take 57 64 _ (omega arith),
    )
