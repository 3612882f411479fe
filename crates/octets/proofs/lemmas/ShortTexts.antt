-- What lookups find in a window that is followed by one bits.
use Rattle.std.proofs.Common.{◌≡◌, ℕ, ◌+◌, ◌-◌, ◌*◌, ◌/◌, ◌%◌, ◌^◌, ◌<◌, ◌≤◌, true, List, [], ◌∷◌, ◌++◌}
use Rattle.std.proofs.Common.{Bool, length, take, drop, refl, sym, ◌∙◌, ap, arith, length-append, length-take}
use Rattle.std.proofs.Common.{append_assoc, take-append-drop, slice_set, bit_and}
use Rattle.std.proofs.Math.ListN.{replicate-append-replicate}
use Rattle.std.proofs.Math.Seq.{take-append-add}
use Rattle.std.proofs.lemmas.List.{take-append-le, drop-append-le, take-replicate, take-take, take_more_set}
use Rattle.std.proofs.lemmas.List.{length-set, length-replicate}
use Rattle.std.proofs.lemmas.List.Elements.{All-append}
use Rattle.std.proofs.lemmas.Nat.{pow_pos, pow-add, shr_split, shr_below, mod_below, and_mask}
use Rattle.octets_code.specs.Bits.{bits_of}
use Rattle.octets_code.specs.Looks.{IsLook, bytes_of_look}
use Rattle.octets_code.specs.Texts.{bits, codes, ones}
use Rattle.octets_code.proofs.BitLemmas.{bits_of-cat, bits_of-low}
use Rattle.octets.specs.Windows.{filled, IsWindow, AreCut, IsShown}
use Rattle.octets.proofs.lemmas.CodeFacts.{length-bits_of, length-bits, codes-append}
use Rattle.octets.proofs.lemmas.Groups.{pair_bytes, low_bytes-bytes}
use Rattle.octets.proofs.lemmas.WindowBits.{take_front, drop_front, drop-bits_of, take-bits_of}
use Rattle.octets.proofs.lemmas.WordOps.{bits_of-ones, shl_mod}

-- l and its complement below 2 ^ n, moved up and inverted
inverse_low : (p q l m : ℕ) → l < p → 0 < q → m ≡ p * q - 1 → m - l * q ≡ (p - 1 - l) * q + (q - 1)
inverse_low p q l m h pos e =
    let a : ℕ = p - 1 - l in
    let s : p ≡ a + l + 1 = omega arith in
    let t : p * q ≡ a * q + l * q + q = rw s (grind arith) in
    omega arith

-- the complement of a number in two parts is that of its lower part, beneath others
inverse_high : (p q u l m : ℕ) → l < p → u < q → m ≡ q * p - 1 → m - (u * p + l) ≡ (q - 1 - u) * p + (p - 1 - l)
inverse_high p q u l m h k e =
    let b : ℕ = q - 1 - u in
    let s : q ≡ b + u + 1 = omega arith in
    let t : q * p ≡ b * p + u * p + p = rw s (grind arith) in
    omega arith

-- a word inverted, shifted up, and inverted back has ones at its end
pub inverse_moved : (i c : ℕ) → i < 2 ^ 64 → c ≤ 64
    → bits_of 64 (18446744073709551615 - i * 2 ^ c % 2 ^ 64) ≡ drop c (bits_of 64 (18446744073709551615 - i)) ++ ones c
inverse_moved i c h few =
    let n : ℕ = 64 - c in let p : ℕ = 2 ^ n in let q : ℕ = 2 ^ c in
    let e : n + c ≡ 64 = omega arith in
    let whole : p * q ≡ 2 ^ 64 = sym (pow-add 2 n c) ∙ ap (λ k. 2 ^ k) e in
    let turned : q * p ≡ 2 ^ 64 = omega (arith, whole) in
    let cut : i * q % 2 ^ 64 ≡ i % p * q = rw e at (shl_mod i n c) in
    let below : i % p < p = mod_below i p (pow_pos n) in
    let f : c + n ≡ 64 = omega arith in
    let high : i / p < q = shr_below i c n (rw f h) in
    let a : ℕ = p - 1 - i % p in
    let up : 18446744073709551615 - i * q % 2 ^ 64 ≡ a * q + (q - 1) =
    rw cut (inverse_low p q (i % p) 18446744073709551615 below (pow_pos c) (omega (arith, whole))) in
    let down : 18446744073709551615 - i ≡ (q - 1 - i / p) * p + a =
    ap (λ k. 18446744073709551615 - k) (sym (shr_split i n))
    ∙ inverse_high p q (i / p) (i % p) 18446744073709551615 below high (omega (arith, turned)) in
    let left : bits_of (n + c) (a * q + (q - 1)) ≡ bits_of n a ++ ones c =
    bits_of-cat n c a (q - 1) (omega (arith, pow_pos c)) ∙ ap (λ z. bits_of n a ++ z) (bits_of-ones c) in
    let right : drop c (bits_of 64 (18446744073709551615 - i)) ≡ bits_of n a =
    drop-bits_of 64 c _ few ∙ ap (bits_of n) down ∙ bits_of-low n (q - 1 - i / p) a in
    ap (bits_of 64) up ∙ ap (λ k. bits_of k (a * q + (q - 1))) (sym e) ∙ left ∙ ap (λ z. z ++ ones c) (sym right)

-- before the first lookup
pub shown_none : (w : ℕ) (v : List ℕ) → w < 2 ^ 64 → v ≡ [] → IsShown (bits_of 64 w) 0 0 0 (18446744073709551615 - w) v
unfolding codes
shown_none w v h e =
    let same : 18446744073709551615 - (18446744073709551615 - w) ≡ w = omega arith in
    rw e (record {
      few = omega arith;
      short = omega arith;
      bytes = λ n d l. absurd (omega arith);
      len = refl;
      parts = rw same refl;
    })

regroup : (v b d m o : List Bool) → v ++ ((b ++ d) ++ (m ++ o)) ≡ (v ++ b) ++ ((d ++ m) ++ o)
regroup v b d m o = simp append_assoc

-- one more lookup
pub shown_more : (x : List Bool) (k at count inverse cut pair : ℕ) (v : List ℕ) → k < 8 → inverse < 2 ^ 64
    → IsShown x k at count inverse v → IsLook (bits_of 12 ((18446744073709551615 - inverse) / 2 ^ 52)) cut pair
    → IsShown x (k + 1) (at + cut % 64) (count + cut / 64) (inverse * 2 ^ (cut % 64) % 2 ^ 64)
    (v ++ bytes_of_look cut pair)
shown_more x k at count inverse cut pair v h below s l =
    let w : ℕ = 18446744073709551615 - inverse in
    let b : List ℕ = bytes_of_look cut pair in let c : ℕ = cut % 64 in
    let fit : c ≤ 12 = omega (arith, l.len, ap length l.parts, length-append (codes b) l.rest, length-bits_of) in
    let sum : c + (128 - (at + c)) ≡ 128 - at = omega (arith, s.short) in
    let few : c + (12 - c) ≡ 12 = omega arith in
    let first : take 12 (bits_of 64 w) ≡ codes b ++ l.rest = take-bits_of 64 12 w (omega arith) ∙ l.parts in
    let seen : take c (bits_of 64 w) ≡ codes b =
    sym (take-take c 12 (bits_of 64 w) fit) ∙ ap (take c) first ∙ take_front c (codes b) l.rest (sym l.len) in
    let d : List Bool = drop c (bits_of 64 w) in let o : List Bool = ones (128 - (at + c)) in
    let split : bits_of 64 w ≡ codes b ++ d = sym (take-append-drop c (bits_of 64 w)) ∙ ap (λ z. z ++ d) seen in
    let more : ones (128 - at) ≡ ones c ++ ones (128 - (at + c)) =
    ap ones (sym sum) ∙ sym (replicate-append-replicate c (128 - (at + c)) true) in
    record {
      few = omega (arith, s.few, l.few);
      short = omega (arith, s.short, fit);
      bytes = All-append (λ z. z < 256) v b s.bytes
          (rw (pair_bytes (cut / 64) pair l.few l.small) (low_bytes-bytes (cut / 64) pair));
      len = ap length (codes-append v b) ∙ length-append (codes v) (codes b) ∙ omega (arith, s.len, l.len);
      parts = s.parts ∙ ap (λ z. codes v ++ (z ++ ones (128 - at))) split
          ∙ ap (λ z. codes v ++ ((codes b ++ d) ++ z)) more
          ∙ regroup (codes v) (codes b) d (ones c) o ∙ ap (λ z. z ++ ((d ++ ones c) ++ o)) (sym (codes-append v b))
          ∙ ap (λ z. codes (v ++ b) ++ (z ++ o)) (sym (inverse_moved inverse c below (omega (arith, fit))));
    }

-- two bytes after the first c, of which n count
two_set : (b : List ℕ) (c n y z : ℕ) → c + 2 ≤ length b → n ≤ 2
    → take (c + n) (slice_set (slice_set b c y) (c + 1) z) ≡ take c b ++ take n (y ∷ z ∷ [])
two_set b c n y z h few =
    let s : List ℕ = slice_set (slice_set b c y) (c + 1) z in
    let two : c + 2 ≡ c + 1 + 1 = omega arith in
    let whole : take (c + 2) s ≡ take c b ++ (y ∷ z ∷ []) =
    ap (λ k. take k s) two ∙ take_more_set (slice_set b c y) (c + 1) z (omega (arith, length-set b c y))
    ∙ ap (λ l. l ++ z ∷ []) (take_more_set b c y (omega arith)) ∙ append_assoc (take c b) (y ∷ []) (z ∷ []) in
    let long : c + n ≡ length (take c b) + n = omega (arith, length-take c b) in
    sym (take-take (c + n) (c + 2) s (omega arith)) ∙ ap (take (c + n)) whole
    ∙ ap (λ k. take k (take c b ++ (y ∷ z ∷ []))) long ∙ take-append-add (take c b) (y ∷ z ∷ []) n

-- the same, with its bytes put after the others
pub shown_put : (x : List Bool) (k at count inverse cut pair : ℕ) (b : List ℕ) → k < 8 → inverse < 2 ^ 64
    → count + 2 ≤ length b → IsShown x k at count inverse (take count b)
    → IsLook (bits_of 12 ((18446744073709551615 - inverse) / 2 ^ 52)) cut pair
    → IsShown x (k + 1) (at + cut % 64) (count + cut / 64) (inverse * 2 ^ (cut % 64) % 2 ^ 64)
    (take (count + cut / 64) (slice_set (slice_set b count (bit_and pair 255)) (count + 1) (pair / 256)))
shown_put x k at count inverse cut pair b h below room s l =
    let low : bit_and pair 255 ≡ pair % 256 = and_mask pair 8 in
    rw (low, two_set b count (cut / 64) (pair % 256) (pair / 256) room l.few)
    (shown_more x k at count inverse cut pair (take count b) h below s l)

-- what more lookups could have found
pub shown_most : (x : List Bool) (j k at count inverse : ℕ) (v : List ℕ) → j ≤ k → IsShown x j at count inverse v
    → IsShown x k at count inverse v
shown_most x j k at count inverse v h s = record {
  few = omega (arith, s.few);
  short = omega (arith, s.short);
  bytes = s.bytes;
  len = s.len;
  parts = s.parts;
}

-- If these codes end within an encoding of at most eight bytes, they were cut off, and the window is after them.
pub shown_cut : (t v : List ℕ) (w k at count inverse : ℕ) → length t ≤ 8 → IsWindow t 0 w
    → IsShown (bits_of 64 w) k at count inverse v → at ≤ 8 * length t
    → AreCut t at v × IsWindow t at (18446744073709551615 - inverse)
unfolding filled
shown_cut t v w k at count inverse h iw s inside =
    let o : ℕ = 64 - 8 * length t in let d : List Bool = drop at (bits t) in
    let y : List Bool = bits_of 64 (18446744073709551615 - inverse) in
    let long : length (bits t) ≡ 8 * length t = length-bits t in
    let e : 64 ≡ length (bits t) + o = omega (arith, long) in
    let x : bits_of 64 w ≡ bits t ++ ones o = iw ∙ ap (λ j. take j (bits t ++ ones 128)) e
    ∙ take-append-add (bits t) (ones 128) o ∙ ap (λ z. bits t ++ z) (take-replicate o 128 true (omega arith)) in
    let all : bits t ++ (ones o ++ ones 128) ≡ codes v ++ (y ++ ones (128 - at)) =
    sym (append_assoc (bits t) (ones o) (ones 128)) ∙ ap (λ z. z ++ ones 128) (sym x) ∙ s.parts in
    let rest : d ++ (ones o ++ ones 128) ≡ y ++ ones (128 - at) =
    sym (drop-append-le at (bits t) (ones o ++ ones 128) (omega (arith, long))) ∙ ap (drop at) all
    ∙ drop_front at (codes v) _ (sym s.len) in
    let swapped : ones o ++ ones 128 ≡ ones 128 ++ ones o = replicate-append-replicate o 128 true
    ∙ ap ones (omega arith) ∙ sym (replicate-append-replicate 128 o true) in
    let enough : 64 ≤ length (d ++ ones 128) = omega (arith, length-append d (ones 128), length-replicate 128 true) in (
      sym (take-append-le at (bits t) _ (omega (arith, long))) ∙ ap (take at) all
          ∙ take_front at (codes v) _ (sym s.len),
      sym (take_front 64 y (ones (128 - at)) (sym (length-bits_of 64 _))) ∙ ap (take 64) (sym rest)
          ∙ ap (λ z. take 64 (d ++ z)) swapped ∙ ap (take 64) (sym (append_assoc d (ones 128) (ones o)))
          ∙ take-append-le 64 (d ++ ones 128) (ones o) enough
          ∙ ap (take 64) (sym (drop-append-le at (bits t) (ones 128) (omega (arith, long)))),
    )
