-- The bits between the last whole code and the next half byte, and how reading goes on from there.
use Rattle.std.proofs.Common.{◌≡◌, ℕ, ◌+◌, ◌-◌, ◌*◌, ◌/◌, ◌%◌, ◌^◌, ◌<◌, ◌≤◌, Bool, List, [], ◌++◌, length, take, drop}
use Rattle.std.proofs.Common.{get_or, refl, subst, sym, ◌∙◌, ap, arith, length-take, length-drop, true}
use Rattle.std.proofs.Common.{take-append-drop, append_assoc, Option, None, Some, MatchOption}
use Rattle.std.proofs.lemmas.Grind.{common_steps}
use Rattle.std.proofs.lemmas.Nat.{and_mask}
use Rattle.std.proofs.lemmas.List.Elements.{All-nil}
use Rattle.std.proofs.lemmas.List.{take-take, drop-drop, drop-take, drop-append-le, take-replicate}
use Rattle.octets_code.specs.Answers.{IsRefusal, AreSteps}
use Rattle.octets_code.specs.Bits.{bits_of}
use Rattle.octets_code.specs.Steps.{IsOpen, IsFill}
use Rattle.octets_code.specs.Codes.{code}
use Rattle.octets_code.specs.Texts.{bits, codes, ones, AreBytes}
use Rattle.octets_code.proofs.ByteBits.{bits-around}
use Rattle.octets.specs.Reading.{IsRead, IsReadBefore, IsStopped}
use Rattle.octets.specs.Windows.{filled, AreCut, IsWindow}
use Rattle.octets.proofs.lemmas.CodeFacts.{length-bits_of, length-bits, bits-push}
use Rattle.octets.proofs.lemmas.TextsRead.{by_halves, stops_low, refused_in}
use Rattle.octets.proofs.lemmas.WindowBits.{drop_front, take_front, drop-bits_of, bits-take}
use Rattle.octets.proofs.lemmas.WordOps.{low_bits, bits_of-ones}
use Rattle.octets_code.proofs.TextLemmas.{end_code, more_ones}

-- the bits before the byte at i
before_long : (t : List ℕ) (i : ℕ) → i < length t → length (bits (take i t)) ≡ 8 * i
before_long t i h = omega (arith, length-bits, length-take i t)

-- the text up to the middle of the byte at i
pub to_middle : (t : List ℕ) (i : ℕ) → i < length t
    → take (4 * (2 * i + 1)) (bits t) ≡ bits (take i t) ++ bits_of 4 (get_or t i 0 / 16)
to_middle t i h =
    let z = bits_of 4 (get_or t i 0 % 16) ++ bits (drop (i + 1) t) in
    let whole : bits t ≡ (bits (take i t) ++ bits_of 4 (get_or t i 0 / 16)) ++ z =
    grind (arith, bits-around, append_assoc) in grind (arith, common_steps, before_long, length-bits_of)

-- the higher half of the byte at i, and the lower
pub half_high : (t : List ℕ) (i k : ℕ) → i < length t → k ≡ 2 * i
    → take 4 (drop (4 * k) (bits t)) ≡ bits_of 4 (get_or t i 0 / 16)
half_high t i k h e =
    rw (
      bits-around t i h,
      drop_front (4 * k) (bits (take i t)) _ (omega (arith, before_long, e)),
      take_front 4 _ _ (sym (length-bits_of 4 _)),
    )

pub half_low : (t : List ℕ) (i k : ℕ) → i < length t → k ≡ 2 * i + 1
    → take 4 (drop (4 * k) (bits t)) ≡ bits_of 4 (get_or t i 0 % 16)
half_low t i k h e =
    let b = get_or t i 0 in let x = bits (take i t) in let z = bits (drop (i + 1) t) in let l = bits_of 4 (b % 16) in
    let whole : bits t ≡ (x ++ bits_of 4 (b / 16)) ++ (l ++ z) =
    grind (arith, bits-around, append_assoc) in
    rw (
      whole,
      drop_front (4 * k) (x ++ bits_of 4 (b / 16)) (l ++ z) (grind (arith, common_steps, before_long, length-bits_of)),
      take_front 4 l z (sym (length-bits_of 4 (b % 16))),
    )

-- the bits from the position on to the end of its half byte
pub front_is : (t : List ℕ) (at n : ℕ) → 0 < at % 4 → take 4 (drop (4 * (at / 4)) (bits t)) ≡ bits_of 4 n
    → bits_of (4 - at % 4) (n % 2 ^ (4 - at % 4)) ≡ drop at (take (4 * ((at + 3) / 4)) (bits t))
front_is t at n some e =
    let k : ℕ = at / 4 in let o : ℕ = at % 4 in
    let next : 4 * ((at + 3) / 4) ≡ 4 * k + 4 = omega arith in
    let place : 4 * k + o ≡ at = omega arith in
    let x : List Bool = take (4 * k + 4) (bits t) in
    let a : drop at x ≡ bits_of (4 - o) n =
    ap (λ j. drop j x) (sym place) ∙ sym (drop-drop o (4 * k) x) ∙ ap (drop o) (drop-take (4 * k) 4 (bits t) ∙ e)
    ∙ drop-bits_of 4 o n (omega arith) in rw (low_bits, ← a, ← next)

-- at the start nothing was read
pub read_none : (t v : List ℕ) (m : ℕ) (p : List Bool) → v ≡ [] → IsOpen p → p ≡ [] → IsRead (bits (take 0 t)) m v p
unfolding bits codes
read_none t v m p e o n = record {
  bytes = rw e (All-nil (λ b. b < 256));
  within = rw e (omega arith);
  open_front = o;
  parts = rw (e, n) refl;
}

-- the codes that were read, and the bits to the end of the half byte
pub read_to_half : (t v : List ℕ) (at m : ℕ) (p : List Bool) → AreCut t at v → AreBytes v → length v ≤ m → IsOpen p
    → p ≡ drop at (take (4 * ((at + 3) / 4)) (bits t))
    → IsRead (take (4 * ((at + 3) / 4)) (bits t)) m v p
read_to_half t v at m p c b w o e =
    let x : List Bool = take (4 * ((at + 3) / 4)) (bits t) in
    record {
      bytes = b;
      within = w;
      open_front = o;
      parts = sym (take-append-drop at x) ∙ ap (λ z. z ++ drop at x)
          (grind (arith, take-take)) ∙ ap (λ z. codes v ++ z) (sym e);
    }

-- at a byte's end
pub read_to_byte : (t v : List ℕ) (h m : ℕ) (p : List Bool) → h % 2 ≡ 0 → h ≤ 2 * length t
    → IsRead (take (4 * h) (bits t)) m v p → IsRead (bits (take ((h + 1) / 2) t)) m v p
read_to_byte t v h m p even inside r =
    let i : ℕ = (h + 1) / 2 in
    let e : 4 * h ≡ 8 * i = omega arith in grind (arith, bits-take)

-- from the middle of a byte to its end
pub read_low : (t : List ℕ) (i m : ℕ) (v w : List ℕ) (p q : List Bool) → i < length t
    → IsRead (take (4 * (2 * i + 1)) (bits t)) m v p
    → IsRead ((codes v ++ p) ++ bits_of 4 (get_or t i 0 % 16)) m w q → IsRead (bits (take (i + 1) t)) m w q
read_low t i m v w p q h r s = grind (arith, common_steps, by_halves, to_middle, bits-push)

-- the decode fails in the lower half of the byte at i
pub refused_low : (t : List ℕ) (i m : ℕ) (v w : List ℕ) (p : List Bool) → i < length t
    → IsRead (take (4 * (2 * i + 1)) (bits t)) m v p → IsStopped w (codes v ++ p) (bits_of 4 (get_or t i 0 % 16)) m 1
    → IsRefusal t m (i + 1) × AreSteps t m (2 * i + 2) × IsReadBefore w t m
refused_low t i m v w p h r s =
    refused_in t i m 2 w _ h refl
    (stops_low w _ _ _ m (sym (to_middle t i h) ∙ r.parts) s)

-- the lower half of a byte was read, or the decode fails in it
pub half_done : (r : Option (List Bool)) (t : List ℕ) (h m : ℕ) (v w : List ℕ) (p : List Bool) → h < 2 * length t
    → h % 2 ≡ 1 → IsRead (take (4 * h) (bits t)) m v p
    → MatchOption r (IsStopped w (codes v ++ p) (bits_of 4 (get_or t (h / 2) 0 % 16)) m 1)
    (IsRead ((codes v ++ p) ++ bits_of 4 (get_or t (h / 2) 0 % 16)) m w)
    → MatchOption r (IsRefusal t m (h / 2 + 1) × AreSteps t m (h + 1) × IsReadBefore w t m × (h % 2 ≡ 1))
    (IsRead (bits (take ((h + 1) / 2) t)) m w)
half_done None t h m v w p inside odd r s =
    let i : ℕ = h / 2 in
    let e : h ≡ 2 * i + 1 = omega arith in let f : 2 * i + 2 ≡ h + 1 = omega arith in
    let d = refused_low t i m v w p (omega arith) (rw e at r) s in grind arith
half_done (Some q) t h m v w p inside odd r s =
    let i : ℕ = h / 2 in
    let e : h ≡ 2 * i + 1 = omega arith in let f : i + 1 ≡ (h + 1) / 2 = omega arith in
    subst (λ n. IsRead (bits (take n t)) m w q) f (read_low t i m v w p q (omega arith) (rw e at r) s)

-- padding is a prefix of the end code
fill_open : (p : List Bool) → IsFill p → IsOpen p
fill_open p f =
    let n : ℕ = length p in
    let whole : code 256 ≡ p ++ ones (30 - n) = grind (arith, end_code, more_ones) in grind arith

-- after the codes that were read only the padding is left
pub read_filled : (t v : List ℕ) (at m : ℕ) → AreCut t at v → AreBytes v → length v ≤ m → IsFill (drop at (bits t))
    → IsRead (bits t) m v (drop at (bits t))
read_filled t v at m c b w f = grind (arith, fill_open, take-append-drop)

-- if fewer than eight bits are left, and the window has only one bits, these bits are padding
pub ones_left : (t : List ℕ) (at : ℕ) → at ≤ 8 * length t → 8 * length t - at < 8 → IsWindow t at 18446744073709551615
    → IsFill (drop at (bits t))
unfolding filled
ones_left t at h few w =
    let d : List Bool = drop at (bits t) in
    let long : length d ≡ 8 * length t - at = omega (arith, length-drop at (bits t), length-bits) in
    let a : take (length d) (ones 64) ≡ take (length d) (take 64 (drop at (bits t ++ ones 128))) =
    ap (take (length d)) (sym (bits_of-ones 64) ∙ w) in
    let b : take (length d) (take 64 (drop at (bits t ++ ones 128))) ≡ d =
    rw (
      take-take (length d) 64 _ (omega arith),
      drop-append-le at (bits t) (ones 128) (omega (arith, length-bits)),
      take_front,
    ) in
    (omega arith, sym b ∙ sym a ∙ take-replicate (length d) 64 true (omega arith))

-- for `using(..)` at the state that half a byte leads to
pub ruleset half_bytes = (common_steps, and_mask, half_high, half_low, front_is)
