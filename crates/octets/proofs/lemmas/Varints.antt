-- Widths of varints, and the least of a value.
use Rattle.std.proofs.Common.{◌≡◌, ℕ, zero, suc, ◌-◌, ◌*◌, ◌^◌, ◌%◌, ◌<◌, ◌⊎◌, inl, inr, refl, arith, ◌/◌, ◌≤◌, List}
use Rattle.std.proofs.Common.{[], ◌∷◌, ◌++◌, length, take, drop, take-append-drop, ap, sym, ◌∙◌}
use Rattle.octets.specs.Varints.{IsWidth, shortest, IsVarint, BeginsVarint, varint}
use Rattle.std.proofs.lemmas.Grind.{common_steps}
use Rattle.std.proofs.lemmas.List.Elements.{All-tail, All-take}
use Rattle.std.proofs.lemmas.List.{length-take-le, take-take}
use Rattle.std.proofs.lemmas.Nat.{mod-mul-add, div-mul-add, div-add-mod'}
use Rattle.std.proofs.Math.Nat.{div-div-eq-div-mul}
use Rattle.octets.specs.Bytes.{AreBytes, number}
use Rattle.octets.proofs.lemmas.Numbers.{number_below, number-network, network-number, length_network}
use Rattle.octets.proofs.lemmas.Numbers.{are_bytes_network}

-- the four marks, and their widths
pub width_cases : (m w : ℕ) → m < 4 → w ≡ 2 ^ m
    → ((m ≡ 0) × (w ≡ 1)) ⊎ (((m ≡ 1) × (w ≡ 2)) ⊎ (((m ≡ 2) × (w ≡ 4)) ⊎ ((m ≡ 3) × (w ≡ 8))))
width_cases zero w h e = inl (refl, e)
width_cases (suc zero) w h e = inr (inl (refl, e))
width_cases (suc (suc zero)) w h e = inr (inr (inl (refl, e)))
width_cases (suc (suc (suc zero))) w h e = inr (inr (inr (refl, e)))
width_cases (suc (suc (suc (suc m)))) w h e = absurd (omega arith)

pub one-shifted : (m : ℕ) → m < 4 → 1 * 2 ^ m % 18446744073709551616 ≡ 2 ^ m
one-shifted m h = omega (arith, width_cases m (2 ^ m) h refl)

pub shortest_width : (n : ℕ) → IsWidth (shortest n)
shortest_width n = grind arith

pub shortest_holds : (n : ℕ) → n < 2 ^ 62 → n < 2 ^ (8 * shortest n - 2)
shortest_holds n h = grind arith

-- What varints keep: each list begins one at the most, and each value that fits a width has one of it.

-- what a width holds, by the base 256
held-by : (m w : ℕ) → m < 4 → w ≡ 2 ^ m → 2 ^ (8 * w - 2) ≡ 256 ^ (w - 1) * 64
held-by m w h e = let k = width_cases m w h e in grind arith

-- the mark of bytes as many as a width is the top two bits of the first
top-mark : (b : List ℕ) (m w : ℕ) → m < 4 → w ≡ 2 ^ m → AreBytes b → length b ≡ w
    → number b / 2 ^ (8 * w - 2) ≡ number (take 1 b) / 64
top-mark [] m w h e bytes len = absurd (omega (arith, width_cases m w h e))
top-mark (f ∷ r) m w h e bytes len =
    let tail : w - 1 ≡ length r = omega arith in let first : number (take 1 (f ∷ r)) ≡ f = omega arith in
    rw (held-by m w h e, tail, sym (div-div-eq-div-mul (number (f ∷ r)) (256 ^ length r) 64), first)
    (ap (λ k. k / 64) (div-mul-add f _ (number r) (number_below r (All-tail (λ b. b < 256) f r bytes))))

-- a varint's mark and value, by division
mark-is : (b : List ℕ) (w n : ℕ) → (v : IsVarint b w n) → v.mark ≡ number (take 1 b) / 64
mark-is b w n v =
    rw (
      ← div-mul-add v.mark _ n v.is_held,
      ← v.spells,
      top-mark b v.mark w v.is_mark v.has_width v.are_bytes v.has_length,
    )

value-is : (b : List ℕ) (w n : ℕ) → (v : IsVarint b w n) → n ≡ number b % 2 ^ (8 * w - 2)
value-is b w n v = grind (arith, mod-mul-add)

-- bytes as many as the first one's mark says are a varint
pub marked-varint : (b : List ℕ) (m : ℕ) → m < 4 → AreBytes b → length b ≡ 2 ^ m → number (take 1 b) / 64 ≡ m
    → IsVarint b (2 ^ m) (number b % 2 ^ (8 * 2 ^ m - 2))
marked-varint b m h bytes len marked = grind (arith, top-mark, div-add-mod')

pub parsed-width : (b : List ℕ) (w n : ℕ) → IsVarint b w n → w ≡ 2 ^ (number (take 1 b) / 64)
parsed-width b w n v = rw (v.has_width, mark-is b w n v)

-- a varint has a first byte
pub begins_some : (l : List ℕ) (w n : ℕ) → BeginsVarint l w n → 1 ≤ w
unfolding BeginsVarint
begins_some l w n v = grind (arith, width_cases)

-- the width of the varint with which a list begins
pub begins_width : (l : List ℕ) (w n : ℕ) → BeginsVarint l w n → w ≡ 2 ^ (number (take 1 l) / 64)
unfolding BeginsVarint
begins_width l w n v = rw (parsed-width (take w l) w n v.1, take-take 1 w l (begins_some l w n v))

-- a list begins one varint at the most
pub begins_one : (l : List ℕ) (w n w' n' : ℕ) → BeginsVarint l w n → BeginsVarint l w' n' → (w ≡ w') × (n ≡ n')
unfolding BeginsVarint
begins_one l w n w' n' v u =
    let e : w ≡ w' = begins_width l w n v ∙ sym (begins_width l w' n' u) in
    (e, cc (value-is _ w n v.1, value-is _ w' n' u.1))

-- a varint has as many bytes as its width
pub length_varint : (w n : ℕ) → length (varint w n) ≡ w
unfolding varint
length_varint w n = length_network w _

pub are_bytes_varint : (w n : ℕ) → AreBytes (varint w n)
unfolding varint
are_bytes_varint w n = are_bytes_network w _

-- a value that a width holds has a varint of it
pub varint_of_width : (w n : ℕ) → IsWidth w → n < 2 ^ (8 * w - 2) → IsVarint (varint w n) w n
unfolding varint
varint_of_width w n h held = grind (arith, number-network, are_bytes_network, length_network)

-- and no second one
pub varint_only : (b : List ℕ) (w n : ℕ) → IsVarint b w n → b ≡ varint w n
unfolding varint
varint_only b w n v = let k = width_cases v.mark w v.is_mark v.has_width in grind (arith, network-number)

-- a list whose first byte and length allow it begins a varint
pub begins_marked : (m : ℕ) (l : List ℕ) → m < 4 → AreBytes l → 2 ^ m ≤ length l → number (take 1 l) / 64 ≡ m
    → BeginsVarint l (2 ^ m) (number (take (2 ^ m) l) % 2 ^ (8 * 2 ^ m - 2))
unfolding BeginsVarint
begins_marked m l h bytes fits marked =
    let w = 2 ^ m in let pos : 1 ≤ w = omega (arith, width_cases m w h refl) in (
      fits,
      marked-varint (take w l) m h (All-take (λ b. b < 256) w l bytes) (length-take-le w l fits)
          (ap (λ t. number t / 64) (take-take 1 w l pos) ∙ marked),
    )

-- where the width that the first byte names isn't there, no varint is
pub begins_none : (m : ℕ) (l : List ℕ) → number (take 1 l) / 64 ≡ m → (2 ^ m ≤ length l → ⊥) → (w n : ℕ)
    → BeginsVarint l w n → ⊥
unfolding BeginsVarint
begins_none m l marked short w n v = short (omega (arith, begins_width l w n v, ap (λ k. 2 ^ k) marked))

-- no varint of a value is less wide than what holds it
pub least_of : (b : List ℕ) (w n : ℕ) → IsVarint b w n → shortest n ≤ w
least_of b w n v = let k = width_cases v.mark w v.is_mark v.has_width in grind arith

-- a varint's value is below 2 to the power 62
pub begins_below : (l : List ℕ) (w n : ℕ) → BeginsVarint l w n → n < 2 ^ 62
unfolding BeginsVarint
begins_below l w n v = let k = width_cases v.1.mark w v.1.is_mark v.1.has_width in grind arith

-- nor in the list that it begins
pub begins_least : (l : List ℕ) (w n : ℕ) → BeginsVarint l w n → shortest n ≤ w
unfolding BeginsVarint
begins_least l w n v = least_of (take w l) w n v.1

-- it is no wider than the list
pub begins_within : (l : List ℕ) (w n : ℕ) → BeginsVarint l w n → w ≤ length l
unfolding BeginsVarint
begins_within l w n v = v.0

-- the list is the varint's bytes, and what follows them
pub begins_spelled : (l : List ℕ) (w n : ℕ) → BeginsVarint l w n → l ≡ varint w n ++ drop w l
unfolding BeginsVarint
begins_spelled l w n v = sym (take-append-drop w l) ∙ ap (λ t. t ++ drop w l) (varint_only (take w l) w n v.1)

-- a varint in its least width is the one that the list begins, and none is overlong
pub begins_shortest : (l : List ℕ) (w n k : ℕ) → BeginsVarint l w n → BeginsVarint l (shortest k) k
    → (k ≡ n) × (shortest n ≡ w)
begins_shortest l w n k v u = grind (arith, common_steps, begins_one)
