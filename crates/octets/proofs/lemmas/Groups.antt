-- What lookups in a window find.
use Rattle.std.proofs.Common.{◌≡◌, ℕ, zero, suc, ◌+◌, ◌-◌, ◌*◌, ◌/◌, ◌%◌, ◌^◌, ◌<◌, ◌≤◌, Bool, List, [], ◌∷◌, ◌++◌}
use Rattle.std.proofs.Common.{length, take, drop, bit_and, bit_or, refl, sym, ◌∙◌, ap, arith, length-append}
use Rattle.std.proofs.Common.{length-take, take-append-drop, append_assoc, append-nil}
use Rattle.std.proofs.Math.Seq.{take-append-add, take-add}
use Rattle.std.proofs.lemmas.Grind.{common_steps}
use Rattle.std.proofs.lemmas.List.{take_all, take-append-le, drop-append-le, take-take}
use Rattle.std.proofs.lemmas.List.Elements.{All-cons}
use Rattle.std.proofs.lemmas.Nat.{pow-add, shl_whole, or_shifted, or_comm, mul-add-lt, and_mask, shr-shr}
use Rattle.std.specs.Int.{byte_at, bytes_low_first}
use Rattle.std.proofs.Math.Nat.{div-div-eq-div-mul}
use Rattle.octets_code.specs.Bits.{bits_of}
use Rattle.octets_code.specs.Codes.{code}
use Rattle.octets_code.specs.Looks.{IsLook, bytes_of_look}
use Rattle.octets_code.specs.Texts.{bits, codes, ones, AreBytes}
use Rattle.octets.specs.Windows.{filled, low_bytes, IsWindow, IsSeen, IsGroup, AreCut}
use Rattle.octets.proofs.lemmas.CodeFacts.{length-bits_of, length-bits, codes-append}
use Rattle.octets_code.proofs.CodesLemmas.{length-codes}
use Rattle.octets_code.proofs.TextLemmas.{are_symbols}
use Rattle.octets.proofs.lemmas.WindowBits.{take_front, take-bits_of, shl_alone}

-- the bytes of a number in two parts, the lower first
pub low_bytes-cat : (c k x y : ℕ) → x < 2 ^ (8 * c)
    → low_bytes (c + k) (y * 2 ^ (8 * c) + x) ≡ low_bytes c x ++ low_bytes k y
unfolding low_bytes
low_bytes-cat zero k x y h = grind (arith, common_steps)
low_bytes-cat (suc c) k x y h =
    let p : ℕ = 2 ^ (8 * c) in
    let eight : 8 * suc c ≡ 8 + 8 * c = omega arith in
    let more : 2 ^ (8 * suc c) ≡ 256 * p = rw (eight, pow-add) in
    let whole : y * 2 ^ (8 * suc c) + x ≡ 256 * (y * p) + x = rw more (grind arith) in
    let below : x / 256 < p = omega arith in
    let sum : suc c + k ≡ suc (c + k) = omega arith in
    let head : (256 * (y * p) + x) % 256 ≡ x % 256 = omega arith in
    let tail : (256 * (y * p) + x) / 256 ≡ y * p + x / 256 = omega arith in
    rw (whole, sum, head, tail, low_bytes-cat c k (x / 256) y below)

-- the bytes that a lookup finds
pub pair_bytes : (k p : ℕ) → k ≤ 2 → p < 2 ^ (8 * k) → take k (p % 256 ∷ p / 256 ∷ []) ≡ low_bytes k p
unfolding low_bytes
pair_bytes zero p h l = refl
pair_bytes (suc zero) p h l = refl
pair_bytes (suc (suc zero)) p h l = grind (arith, common_steps)
pair_bytes (suc (suc (suc k))) p h l = absurd (omega arith)

-- before the first lookup
pub seen_none : (w : ℕ) → IsSeen (bits_of 64 w) 0 w 0 0
unfolding low_bytes codes
seen_none w =
    record {
      few = omega arith;
      short = omega arith;
      small = omega arith;
      len = refl;
      parts = sym (take_all 64 _ (omega (arith, length-bits_of)));
    }

-- if the first twelve bits of a word begin with codes, all its bits do
front_of : (w c s : ℕ) (a r : List Bool) → bits_of 12 (w / 2 ^ 52) ≡ a ++ r → length a ≡ c → s + c ≤ 64
    → take (64 - s) (bits_of 64 w) ≡ a ++ take (64 - (s + c)) (bits_of 64 (w * 2 ^ c % 2 ^ 64))
front_of w c s a r e l h =
    let x : List Bool = bits_of 64 w in
    let long : length x ≡ 64 = length-bits_of 64 w in
    let cut : x ≡ a ++ (r ++ drop 12 x) = sym (take-append-drop 12 x)
    ∙ ap (λ z. z ++ drop 12 x) (take-bits_of 64 12 w (omega arith) ∙ e) ∙ append_assoc a r _ in
    let sum : 64 - s ≡ length a + (64 - (s + c)) = omega arith in
    grind (arith, common_steps, shl_alone, take-append-add)

-- the codes that one more lookup adds
seen_codes : (x : List Bool) (k rest sums bytes cut pair : ℕ) (left : List Bool) → k ≤ 3 → IsSeen x k rest sums bytes
    → cut / 64 ≤ 2 → pair < 2 ^ (8 * (cut / 64)) → length (codes (bytes_of_look cut pair)) ≡ cut % 64
    → bits_of 12 (rest / 2 ^ 52) ≡ codes (bytes_of_look cut pair) ++ left
    → IsSeen x (k + 1) (rest * 2 ^ (cut % 64) % 2 ^ 64) (sums + cut)
    (bit_or bytes (pair * 2 ^ (sums / 64 * 8) % 2 ^ 64))
seen_codes x k rest sums bytes cut pair left h s two below same parts =
    let n : ℕ = sums / 64 in let j : ℕ = cut / 64 in let w : List ℕ = bytes_of_look cut pair in
    let fit : cut % 64 ≤ 12 =
    omega (arith, ap length parts, length-append (codes w) left, length-bits_of) in
    let len : (sums + cut) % 64 ≡ sums % 64 + cut % 64 = omega arith in
    let place : n * 8 ≡ 8 * n = omega arith in
    let room : 8 * j + 8 * n ≤ 64 = omega arith in
    let word : bit_or bytes (pair * 2 ^ (n * 8) % 2 ^ 64) ≡ pair * 2 ^ (8 * n) + bytes =
    rw (place, shl_whole pair (8 * j) (8 * n) 64 below room, or_comm, or_shifted pair (8 * n) bytes s.small) in
    let eight : 8 * (n + j) ≡ 8 * j + 8 * n = omega arith in
    let small : pair * 2 ^ (8 * n) + bytes < 2 ^ (8 * (n + j)) = rw (eight, pow-add)
    (omega (arith, mul-add-lt pair _ bytes _ below s.small)) in
    let both : codes (low_bytes (n + j) (pair * 2 ^ (8 * n) + bytes)) ≡ codes (low_bytes n bytes) ++ codes w =
    grind (arith, low_bytes-cat, codes-append, pair_bytes) in
    grind (arith, common_steps, front_of)

-- one more lookup
pub seen_more : (x : List Bool) (k rest sums bytes cut pair : ℕ) → k ≤ 3 → IsSeen x k rest sums bytes
    → IsLook (bits_of 12 (rest / 2 ^ 52)) cut pair
    → IsSeen x (k + 1) (rest * 2 ^ (cut % 64) % 2 ^ 64) (sums + cut)
    (bit_or bytes (pair * 2 ^ (sums / 64 * 8) % 2 ^ 64))
seen_more x k rest sums bytes cut pair h s l =
    seen_codes x k rest sums bytes cut pair l.rest h s l.few l.small l.len l.parts

-- after at most four lookups
pub seen_group : (x : List Bool) (k rest sums bytes : ℕ) → k ≤ 4 → IsSeen x k rest sums bytes
    → IsGroup x (sums % 64) (sums / 64) bytes
seen_group x k rest sums bytes h s = grind (arith, common_steps)

-- the bytes of a number are bytes
pub low_bytes-bytes : (n x : ℕ) → AreBytes (low_bytes n x)
unfolding low_bytes
low_bytes-bytes zero x = λ k d l. absurd (omega arith)
low_bytes-bytes (suc n) x = All-cons (λ b. b < 256) (x % 256) _ (omega arith) (low_bytes-bytes n (x / 256))

pub length-low_bytes : (n x : ℕ) → length (low_bytes n x) ≡ n
unfolding low_bytes
length-low_bytes zero x = refl
length-low_bytes (suc n) x = ap suc (length-low_bytes n (x / 256))

-- if a code was found, it has at least one bit
pub seen_some : (x : List Bool) (k rest sums bytes : ℕ) → IsSeen x k rest sums bytes → 0 < sums → 1 ≤ sums % 64
seen_some x k rest sums bytes s h =
    let b : List ℕ = low_bytes (sums / 64) bytes in
    omega (arith, length-low_bytes, (length-codes b (are_symbols b (low_bytes-bytes (sums / 64) bytes))).0)

-- one code that was found is a group of one byte
pub one_group : (x r : List Bool) (b len : ℕ) → b < 256 → x ≡ code b ++ r → len ≡ length (code b) → len ≤ 48
    → IsGroup x len 1 b
unfolding low_bytes codes
one_group x r b len h e l few =
    let one : b % 256 ≡ b = omega arith in
    record {
      few = omega arith;
      short = few;
      same = ap (λ k. length (code k ++ [])) one ∙ ap length (append-nil (code b)) ∙ sym l;
      rest = r;
      parts = e ∙ sym (grind (arith, append-nil));
    }

-- the n lowest of the n + k lowest bytes
pub low_bytes-fewer : (n k x : ℕ) → take n (low_bytes (n + k) x) ≡ low_bytes n x
unfolding low_bytes
low_bytes-fewer zero k x = refl
low_bytes-fewer (suc n) k x =
    let e : suc n + k ≡ suc (n + k) = omega arith in rw (e, low_bytes-fewer n k (x / 256))

-- the n + 1 lowest bytes are the n lowest and one more
pub low_bytes-more : (n x : ℕ) → low_bytes (n + 1) x ≡ low_bytes n x ++ x / 2 ^ (8 * n) % 256 ∷ []
unfolding low_bytes
low_bytes-more zero x = grind (arith, common_steps)
low_bytes-more (suc n) x =
    let e : suc n + 1 ≡ suc (n + 1) = omega arith in
    let f : 8 + 8 * n ≡ 8 * suc n = omega arith in rw (e, low_bytes-more n (x / 256), shr-shr x 8 (8 * n), f)

-- the codes of a group follow those that were read
pub cut_on : (t v : List ℕ) (at w len count bytes : ℕ) → at + len ≤ 8 * length t → IsWindow t at w
    → IsGroup (bits_of 64 w) len count bytes → AreCut t at v
    → AreCut t (at + len) (v ++ low_bytes count bytes)
unfolding filled
cut_on t v at w len count bytes h iw g c =
    let b : List Bool = codes (low_bytes count bytes) in
    let long : length (bits t) ≡ 8 * length t = length-bits t in
    let inside : len ≤ length (drop at (bits t)) = grind (arith, common_steps) in
    let seen : take len (bits_of 64 w) ≡ b = grind (arith, take_front) in
    let here : take len (bits_of 64 w) ≡ take len (drop at (bits t)) =
    rw (iw, take-take len 64 _ (omega arith), drop-append-le at (bits t) (ones 128) (omega arith), take-append-le) in
    rw (take-add, c, ← here, seen, ← codes-append)

-- each byte that was decoded has a code of at least five bits
pub cut_few : (t v : List ℕ) (at : ℕ) → AreCut t at v → AreBytes v → at ≤ 8 * length t → 5 * length v ≤ at
cut_few t v at c h l = grind (arith, length-codes, length-take)

pub cut_none : (t v : List ℕ) → v ≡ [] → AreCut t 0 v
unfolding codes
cut_none t v e = sym (ap codes e)

byte_is : (i x : ℕ) → byte_at i x ≡ x / 256 ^ i % 256
byte_is zero x = omega arith
byte_is (suc i) x = refl

byte_after : (i x : ℕ) → x / 256 ^ suc i ≡ x / 256 ^ i / 256
byte_after i x = grind (arith, div-div-eq-div-mul)

-- the bytes of a word, as std counts them
low_first : (i k x : ℕ) → bytes_low_first i k x ≡ low_bytes k (x / 256 ^ i)
unfolding low_bytes
low_first i zero x = refl
low_first i (suc k) x = rw (byte_is, low_first (suc i) k x, byte_after)

pub low_of_word : (n x : ℕ) → n ≤ 8 → take n (bytes_low_first 0 8 x) ≡ low_bytes n x
low_of_word n x h =
    let e : n + (8 - n) ≡ 8 = omega arith in let one : x / 1 ≡ x = omega arith in
    rw (low_first, one, ← e, low_bytes-fewer)

-- of the eight bytes that were pushed the first n remain
pub cut_word : (v : List ℕ) (n k x : ℕ) → n ≤ 8 → k ≡ length v + n → take k (v ++ low_bytes 8 x) ≡ v ++ low_bytes n x
cut_word v n k x h e =
    let f : n + (8 - n) ≡ 8 = omega arith in
    rw (e, take-append-add, ← f, low_bytes-fewer)

-- one more byte is pushed
pub push_more : (v u : List ℕ) (i x r : ℕ) → v ≡ u ++ low_bytes i x → r ≡ x / 2 ^ (8 * i)
    → (v ++ bit_and r 255 ∷ [] ≡ u ++ low_bytes (i + 1) x) × (r / 256 ≡ x / 2 ^ (8 * (i + 1)))
push_more v u i x r e f =
    let k : 8 * i + 8 ≡ 8 * (i + 1) = omega arith in
    let byte : bit_and r 255 ≡ x / 2 ^ (8 * i) % 256 = rw (and_mask r 8, f) in (
      ap (λ l. l ++ bit_and r 255 ∷ []) e ∙ append_assoc u _ _
          ∙ ap (λ y. u ++ (low_bytes i x ++ y ∷ [])) byte ∙ ap (λ l. u ++ l) (sym (low_bytes-more i x)),
      ap (λ y. y / 256) f ∙ shr-shr x (8 * i) 8 ∙ ap (λ j. x / 2 ^ j) k,
    )
