-- The constant table of lowered bytes has the lower case of each.
use Rattle.std.proofs.Common.{◌≡◌, ℕ, ◌<◌, map, get_or, refl, arith, ap, ◌∙◌, zero, suc, ◌+◌, ◌*◌, ◌/◌, ◌≤◌, Bool}
use Rattle.std.proofs.Common.{true, false, List, [], ◌∷◌, ◌++◌, length, drop, bit_and, append-nil, length-append}
use Rattle.std.proofs.Common.{drop-cons, add-one}
use Rattle.std.specs.List.{range_with_len}
use Rattle.std.proofs.lemmas.List.FromFn.{get_or-map-range_with_len}
use Rattle.octets_code.specs.Texts.{lower_byte, codes, text, lower, AreBytes}
use Rattle.octets.specs.declared.huffman.case.TheConstants.{LOWERED}
use Rattle.std.proofs.lemmas.Grind.{common_steps}
use Rattle.std.proofs.lemmas.List.{get_or-drop}
use Rattle.std.specs.Simd.{first_chunks}
use Rattle.octets_code.specs.Codes.{code}
use Rattle.octets.specs.Encodes.{cased, cased_byte}
use Rattle.octets_code.proofs.BitLemmas.{length-bits_of}
use Rattle.octets_code.proofs.Lowering.{length-lower, lower_bytes}
use Rattle.octets_code.proofs.BytesOf.{length-bytes_of}

lowered : LOWERED ≡ map lower_byte (range_with_len 0 256)
unfolding lower_byte
lowered = refl

pub lowered_at : (b : ℕ) → b < 256 → get_or LOWERED b 0 ≡ lower_byte b
lowered_at b h = ap (λ l. get_or l b 0) lowered ∙ get_or-map-range_with_len lower_byte 0 256 b b 0 h (omega arith)

-- The codes of a value as it is encoded, byte by byte.

-- a value as it is encoded is bytes where the value is
pub cased_bytes : (to_lower : Bool) (v : List ℕ) → AreBytes v → AreBytes (cased to_lower v)
unfolding cased
cased_bytes true v h = lower_bytes v h
cased_bytes false v h = h

-- a value as it is encoded is as long
pub length-cased : (to_lower : Bool) (v : List ℕ) → length (cased to_lower v) ≡ length v
unfolding cased
length-cased true v = length-lower v
length-cased false v = refl

cased-at : (to_lower : Bool) (v : List ℕ) (i : ℕ) → i < length v
    → drop i (cased to_lower v) ≡ cased_byte to_lower (get_or v i 0) ∷ drop (i + 1) (cased to_lower v)
unfolding cased lower
cased-at true v i h =
    let l : i < length (map lower_byte v) = grind (arith, common_steps) in
    rw (drop-cons (map lower_byte v) i 0) (grind (arith, common_steps))
cased-at false v i h = rw (add-one, drop-cons v i 0)

pub codes-at : (to_lower : Bool) (v : List ℕ) (i : ℕ) → i < length v → codes (drop i (cased to_lower v))
    ≡ code (cased_byte to_lower (get_or v i 0)) ++ codes (drop (i + 1) (cased to_lower v))
unfolding codes
codes-at to_lower v i h = rw (cased-at to_lower v i h)

pub codes-end : (to_lower : Bool) (v : List ℕ) (i : ℕ) → length v ≤ i → codes (drop i (cased to_lower v)) ≡ []
unfolding cased lower codes
codes-end true v i h = grind (arith, common_steps)
codes-end false v i h = grind (arith, common_steps)

two-more : (i : ℕ) → 2 * suc i ≡ suc (suc (2 * i))
two-more i = omega arith

two-next : (i : ℕ) → 2 * (suc i + 1) ≡ suc (suc (2 * (i + 1)))
two-next i = omega arith

append-two : (x y z : List Bool) → length (x ++ (y ++ z)) ≡ length (x ++ (y ++ [])) + length z
append-two x y z = grind (arith, length-append)

-- the bits to come before a pair of bytes and after it
pub pairs-at : (to_lower : Bool) (v : List ℕ) (k i : ℕ) (d : List ℕ) → i < k → 2 * k ≤ length v
    → length (codes (drop (2 * i) (cased to_lower v))) ≡ length
    (codes (cased to_lower (get_or (first_chunks 2 k v) i d))) + length (codes (drop (2 * (i + 1)) (cased to_lower v)))
unfolding cased lower codes
pairs-at true (a ∷ b ∷ v) (suc k) zero d h l = grind (arith, common_steps)
pairs-at false (a ∷ b ∷ v) (suc k) zero d h l = append-two (code a) (code b) (codes v)
pairs-at true (a ∷ b ∷ v) (suc k) (suc i) d h l =
    rw (two-more, two-next) (pairs-at true v k i d (omega arith) (omega arith))
pairs-at false (a ∷ b ∷ v) (suc k) (suc i) d h l =
    rw (two-more, two-next) (pairs-at false v k i d (omega arith) (omega arith))
pairs-at to_lower v zero i d h l = absurd (omega arith)
pairs-at to_lower [] (suc k) i d h l = absurd (omega arith)
pairs-at to_lower (a ∷ []) (suc k) i d h l = absurd (omega arith)

cased-pair : (to_lower : Bool) (a b : ℕ)
    → cased to_lower (a ∷ b ∷ []) ≡ cased_byte to_lower a ∷ cased_byte to_lower b ∷ []
unfolding cased lower
cased-pair true a b = refl
cased-pair false a b = refl

-- the bits of a pair of bytes that were loaded as one number
pub pair_loaded : (to_lower : Bool) (p : List ℕ) (n : ℕ) → length p ≡ 2 → get_or p 0 0 < 256
    → n ≡ get_or p 0 0 + get_or p 1 0 * 256
    → length (code (cased_byte to_lower (bit_and n 255))) + length (code (cased_byte to_lower (n / 256)))
    ≡ length (codes (cased to_lower p))
unfolding codes
pair_loaded to_lower (a ∷ b ∷ []) n two h e = grind (arith, common_steps, cased-pair)
pair_loaded to_lower [] n two h e = absurd (omega (arith, two))
pair_loaded to_lower (a ∷ []) n two h e = absurd (omega (arith, two))
pair_loaded to_lower (a ∷ b ∷ c ∷ p) n two h e = absurd (omega (arith, two))

-- the bits to come where one byte is in no pair
pub odd-at : (to_lower : Bool) (v : List ℕ) (i : ℕ) → length v ≡ 2 * i + 1
    → length (codes (drop (2 * i) (cased to_lower v)))
    ≡ length (code (cased_byte to_lower (get_or (drop (length v / 2 * 2) v) 0 0)))
odd-at to_lower v i h = grind (arith, get_or-drop, codes-end, codes-at, append-nil)

-- how many bytes a text has
pub length-text : (v : List ℕ) → length (text v) ≡ (length (codes v) + 7) / 8
unfolding text
length-text v = length-bytes_of (codes v)

-- how many bits codes have, and how many bytes texts
pub ruleset code_lengths = (codes-at, codes-end, pairs-at, odd-at, length-append, length-text, length-bits_of)
