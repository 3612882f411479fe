-- The position of a bit or a half byte in an encoding, and what follows it.
use Rattle.std.proofs.Common.{◌≡◌, ℕ, ◌+◌, ◌-◌, ◌*◌, ◌/◌, ◌%◌, ◌≤◌, Bool, List, [], ◌++◌, length, take, drop, sym}
use Rattle.std.proofs.Common.{◌∙◌, ap, arith, append_assoc, take-append-drop, length-take, ◌≢◌, ◌⊎◌, ◌<◌, false}
use Rattle.std.proofs.lemmas.List.{drop-drop}
use Rattle.std.proofs.lemmas.Grind.{common_steps}
use Rattle.octets_code.specs.Bits.{bits_of}
use Rattle.octets_code.specs.Texts.{bits, codes, HasNoCode}
use Rattle.octets_code.proofs.ByteBits.{length-bits}
use Rattle.octets.proofs.lemmas.WindowBits.{bits-drop}
use Rattle.octets_code.specs.Codes.{code}
use Rattle.octets.specs.Encodes.{cased}
use Rattle.octets.specs.Reading.{IsReadBefore}
use Rattle.octets.specs.Stops.{IsStoppedBy}
use Rattle.octets.specs.declared.error.IntoError.TheVariants.{NotText, NoRoom}

-- the bits from one position on are those up to a later position, followed by the others
pub front_then : (t : List ℕ) (at n : ℕ) → at ≤ n → at ≤ 8 * length t
    → drop at (bits t) ≡ drop at (take n (bits t)) ++ drop n (bits t)
front_then t at n h inside =
    let long : at ≤ length (take n (bits t)) = omega (arith, length-take n (bits t), length-bits) in
    grind (arith, common_steps)

-- a half byte, and the bits that follow it
pub half_then : (t : List ℕ) (k n : ℕ) → bits_of 4 n ≡ take 4 (drop (4 * k) (bits t))
    → drop (4 * k) (bits t) ≡ bits_of 4 n ++ drop (4 * (k + 1)) (bits t)
half_then t k n e =
    let next : 4 * k + 4 ≡ 4 * (k + 1) = omega arith in
    rw (← take-append-drop 4 (drop (4 * k) (bits t)), ← e, drop-drop, next)

-- after the last bit there is none
pub all_read : (t : List ℕ) (i : ℕ) → 8 * length t ≤ i → drop i (bits t) ≡ []
all_read t i h = grind (arith, common_steps, length-bits)

-- the bits b, which were read after the path p, extend the path
pub went_on : (x p y z b : List Bool) → x ≡ p ++ y → y ≡ b ++ z → x ≡ (p ++ b) ++ z
went_on x p y z b e f = rw (e, f, ← append_assoc p b z)

-- the bits from a position on, by the byte at that position and the position in the byte
pub in_byte : (t : List ℕ) (at : ℕ) → at ≤ 8 * length t
    → drop at (bits t) ≡ drop (at % 8) (bits (take (length t - at / 8) (drop (at / 8) t)))
in_byte t at h =
    let place : 8 * (at / 8) + at % 8 ≡ at = omega arith in
    ap (λ j. drop j (bits t)) (sym place) ∙ sym (drop-drop (at % 8) _ (bits t))
    ∙ ap (drop (at % 8)) (bits-drop (at / 8) t (omega arith))
    ∙ ap (λ l. drop (at % 8) (bits l))
    (grind (arith, common_steps))

-- without the codes with which bits begin, what follows these codes remains
pub behind_codes : (x a y : List Bool) → x ≡ a ++ y → drop (length a) x ≡ y
behind_codes x a y e = rw e (grind (arith, common_steps))

-- Which fault stops a decode into a slice.

parts : (x a y : List Bool) → x ≡ a ++ y → x ≡ a ++ drop (length a) x
parts x a y e = grind (arith, behind_codes)

bits_before : (v : List ℕ) (n : ℕ) → n ≡ length (codes (cased false v)) → n ≡ length (codes v)
unfolding cased
bits_before v n e = e

-- what was read is no longer than the text
pub inside_text : (v t : List ℕ) (m n : ℕ) → IsReadBefore v t m → n ≡ length (codes (cased false v)) → n ≤ 8 * length t
inside_text v t m n h e =
    let parts : length (bits t) ≡ length (codes v) + length (drop (length (codes v)) (bits t))
    = grind (arith, common_steps) in
    omega (arith, bits_before v n e, length-bits)

-- the slice is full, and the code of a byte follows
pub no_room : (v t : List ℕ) (m n : ℕ) → IsReadBefore v t m → length v ≡ m → n ≡ length (codes (cased false v))
    → ((b : ℕ) × (r : List Bool) × (b < 256) × (drop n (bits t) ≡ code b ++ r)) → IsStoppedBy NoRoom v t m
unfolding IsStoppedBy
no_room v t m n h full e (b, r, lt, f) = grind (arith, common_steps, bits_before)

-- the slice is full, and no code of a byte follows
pub no_text_full : (v t : List ℕ) (m n : ℕ) → IsReadBefore v t m → n ≡ length (codes (cased false v))
    → ((r : List Bool) × (drop n (bits t) ≡ code 256 ++ r)) ⊎ HasNoCode (drop n (bits t))
    → IsStoppedBy (NotText (length v)) v t m
unfolding IsStoppedBy
no_text_full v t m n h e k = grind (arith, common_steps, bits_before)

-- the slice isn't full
pub no_text : (v t : List ℕ) (m : ℕ) → IsReadBefore v t m → length v ≢ m → IsStoppedBy (NotText (length v)) v t m
unfolding IsStoppedBy
no_text v t m h room = grind (arith, common_steps)
