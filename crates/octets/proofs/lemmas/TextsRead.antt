-- How what was read grows, half a byte at a time.
use Rattle.std.proofs.Common.{◌≡◌, ℕ, ◌+◌, ◌/◌, ◌%◌, ◌<◌, ◌≤◌, Bool, List, [], ◌∷◌, ◌++◌, length, ap, arith}
use Rattle.std.proofs.Common.{length-append, append_assoc, Option, None, Some, MatchOption, ◌*◌, ◌^◌, take, drop}
use Rattle.std.proofs.Common.{get_or, refl, sym, subst, length-take, take-append-drop, inl, inr}
use Rattle.std.proofs.lemmas.Grind.{common_steps}
use Rattle.octets_code.specs.Answers.{IsRefusedSymbol, IsFaultBehind, IsFault, IsAnswer, IsRefusal, AreSteps}
use Rattle.octets_code.specs.Bits.{bits_of}
use Rattle.octets_code.specs.Codes.{code}
use Rattle.octets_code.specs.Steps.{IsOpen, IsFill}
use Rattle.octets_code.specs.Texts.{codes, AreBytes, bits, text, IsText}
use Rattle.octets.specs.Reading.{IsRead, IsStopped, CountsToStop, IsReadBefore}
use Rattle.octets.proofs.lemmas.CodeFacts.{length-bits_of, halves, codes-append, two_fronts, open_no_code}
use Rattle.octets.proofs.lemmas.CodeFacts.{length-bits, bits-append, bits-push, bits-at, lengths_are_bounded}
use Rattle.octets.proofs.lemmas.CodeFacts.{fault_from_read, clear_at_end, answered, refused_in_fault, refused_at_end}
use Rattle.octets.proofs.lemmas.CodeFacts.{text_is_text, texts_apart}
use Rattle.octets.specs.Decodes.{no_limit}

-- the bits y complete the code of b, which is within the limit
pub read_byte : (v : List ℕ) (p y s : List Bool) (b m : ℕ) → p ++ y ≡ code b ++ s → b < 256 → AreBytes v
    → length v < m → IsOpen s
    → IsRead ((codes v ++ p) ++ y) m (v ++ b ∷ []) s
unfolding codes
read_byte v p y s b m e l h w o = grind (arith, common_steps, codes-append)

-- a code that begins with an open prefix is longer than this prefix
longer : (p y r : List Bool) (s : ℕ) → IsOpen p → s ≤ 256 → p ++ y ≡ code s ++ r → length p < length (code s)
longer p y r s o h e = let w = two_fronts p (code s) y r e in grind (arith, common_steps, open_no_code p o s h)

-- the bits y complete the code of a symbol at which the decode fails
pub stops : (v : List ℕ) (p y r : List Bool) (s m : ℕ) → p ++ y ≡ code s ++ r → s ≤ 256 → IsRefusedSymbol m (length v) s
    → AreBytes v → length v ≤ m → IsOpen p → length y ≡ 4
    → IsStopped v (codes v ++ p) y m 1
stops v p y r s m e h f b w o four =
    let far = longer p y r s o h e in let sum = ap length e in
    let fault : IsFaultBehind v ((codes v ++ p) ++ y) m (length (codes v) + length (code s)) =
    grind (arith, append_assoc) in grind (arith, common_steps)

pub four_bits : (b : ℕ) → length (bits_of 4 b) ≡ 4
four_bits b = length-bits_of 4 b

-- a fault is also a fault if more bits follow
pub fault_stays : (v : List ℕ) (x y z : List Bool) (m e : ℕ) → IsFaultBehind v (x ++ y) m e
    → IsFaultBehind v (x ++ (y ++ z)) m e
fault_stays v x y z m e f = grind (arith, append_assoc)

-- a byte by its two halves, where z is what was read up to its middle
pub by_halves : (x z : List Bool) (b : ℕ) → x ++ bits_of 4 (b / 16) ≡ z → z ++ bits_of 4 (b % 16) ≡ x ++ bits_of 8 b
by_halves x z b e = grind (arith, append_assoc, halves)

-- the decode fails in the first half of a byte
pub stops_high : (v : List ℕ) (x : List Bool) (b m n : ℕ) → IsStopped v x (bits_of 4 (b / 16)) m n
    → IsStopped v x (bits_of 8 b) m n
stops_high v x b m n s = grind (arith, halves, fault_stays)

-- the decode fails in the second half of a byte
pub stops_low : (v : List ℕ) (x z : List Bool) (b m : ℕ) → x ++ bits_of 4 (b / 16) ≡ z
    → IsStopped v z (bits_of 4 (b % 16)) m 1 → IsStopped v x (bits_of 8 b) m 2
stops_low v x z b m e s = grind (arith, length-append, length-bits_of, by_halves)

-- what the second half leaves is what the byte leaves
pub second_half : (r : Option (List Bool)) (x : List Bool) (b m : ℕ) (v w : List ℕ) (old half new : ℕ) (p : List Bool)
    → IsRead (x ++ bits_of 4 (b / 16)) m v p → half ≡ old + 1 → new ≡ half + 1
    → MatchOption r (IsStopped w (codes v ++ p) (bits_of 4 (b % 16)) m 1)
    (IsRead ((codes v ++ p) ++ bits_of 4 (b % 16)) m w)
    → MatchOption r (CountsToStop w x (bits_of 8 b) m old new) (IsRead (x ++ bits_of 8 b) m w)
second_half None x b m v w old half new p f g h s = (2, stops_low w x _ b m f.parts s, omega arith)
second_half (Some q) x b m v w old half new p f g h s = grind (arith, by_halves)

-- How an encoding is read to its end, or to the byte in which the decode fails.

-- one more byte is read
pub read_more : (t : List ℕ) (i m : ℕ) (v w : List ℕ) (p q : List Bool) → i < length t → IsRead (bits (take i t)) m v p
    → IsRead ((codes v ++ p) ++ bits_of 8 (get_or t i 0)) m w q
    → IsRead (bits (take (i + 1) t)) m w q
read_more t i m v w p q h r s = grind (arith, common_steps, bits-push)

-- the byte at i between what was read and what remains
around : (t : List ℕ) (i : ℕ) (x : List Bool) → i < length t → x ≡ bits (take i t)
    → x ++ (bits_of 8 (get_or t i 0) ++ bits (drop (i + 1) t)) ≡ bits t
around t i x h is = rw (is, (sym (bits-at t i h)), ← bits-append, take-append-drop)

-- the fault of the byte at i is the fault of the text
fault_in : (w t : List ℕ) (i m : ℕ) (x : List Bool) (e : ℕ) → i < length t → x ≡ bits (take i t)
    → IsFaultBehind w (x ++ bits_of 8 (get_or t i 0)) m e → IsFaultBehind w (bits t) m e
fault_in w t i m x e h is f =
    subst (λ z. IsFaultBehind w z m e) (around t i x h is)
    (grind (arith, fault_stays))

ends_inside : (w : List ℕ) (x : List Bool) (m e : ℕ) → IsFaultBehind w x m e → e ≤ length x
ends_inside w x m e f = grind (arith, length-append)

-- the decode fails in the byte at i
pub refused_in : (t : List ℕ) (i m n : ℕ) (w : List ℕ) (x : List Bool) → i < length t → x ≡ bits (take i t)
    → IsStopped w x (bits_of 8 (get_or t i 0)) m n
    → IsRefusal t m (i + 1) × AreSteps t m (2 * i + n) × IsReadBefore w t m
refused_in t i m n w x h is s =
    let e : ℕ = s.0 in
    let read : IsFaultBehind w (bits t) m e = fault_in w t i m x e h is s.1 in
    let f : IsFault (bits t) m e = fault_from_read (bits t) m e (w, read) in
    let before : length x ≡ 8 * i = grind (arith, length-bits, length-take) in
    let sum : length (x ++ bits_of 8 (get_or t i 0)) ≡ length x + 8 =
    grind (arith, common_steps, length-bits_of) in
    let inside : e ≤ length (x ++ bits_of 8 (get_or t i 0)) = ends_inside w _ m e s.1 in
    let place : i + 1 ≡ (e + 7) / 8 = omega arith in
    let steps : 2 * i + n ≡ (e + 3) / 4 = omega arith in (
      subst (λ k. IsRefusal t m k) (sym place) (refused_in_fault t m e f),
      inl (e, f, steps),
      record { are_bytes = read.bytes; stopped = inl (e, read) },
    )

pub refused_at : (t : List ℕ) (i m n : ℕ) (v w : List ℕ) (p : List Bool) → i < length t → IsRead (bits (take i t)) m v p
    → IsStopped w (codes v ++ p) (bits_of 8 (get_or t i 0)) m n
    → IsRefusal t m (i + 1) × AreSteps t m (2 * i + n) × IsReadBefore w t m
refused_at t i m n v w p h r s = refused_in t i m n w _ h (sym r.parts) s

-- read to the end
pub read_all : (t : List ℕ) (i m : ℕ) (v : List ℕ) (p : List Bool) → length t ≤ i → IsRead (bits (take i t)) m v p
    → IsRead (bits t) m v p
read_all t i m v p h r = grind (arith, common_steps)

pub whole_steps : (t : List ℕ) (m : ℕ) (v : List ℕ) (p : List Bool) → IsRead (bits t) m v p
    → AreSteps t m (2 * length t)
whole_steps t m v p r = inr (clear_at_end (bits t) m v p r.bytes r.within r.parts (open_no_code p r.open_front), refl)

pub whole_answer : (t : List ℕ) (m : ℕ) (v : List ℕ) (p : List Bool) → AreBytes t → IsRead (bits t) m v p → IsFill p
    → IsAnswer t m v
whole_answer t m v p h r f = grind (arith, common_steps, answered)

pub whole_refusal : (t : List ℕ) (m : ℕ) (v : List ℕ) (p : List Bool) → IsRead (bits t) m v p → ¬ IsFill p
    → IsRefusal t m (length t)
whole_refusal t m v p r f = refused_at_end t m v p r.bytes r.within r.parts (open_no_code p r.open_front) f

-- no bytes are the text of no bytes
pub empty_answer : (t : List ℕ) (m : ℕ) → t ≡ [] → IsAnswer t m []
unfolding bits codes
empty_answer t m e = grind (arith, common_steps)

-- the greatest limit holds every value whose text has fewer than 2^63 bytes
pub held : (v t : List ℕ) → AreBytes v → IsText v t → length t < 2 ^ 63 → IsAnswer t no_limit v
held v t h x l = (h, omega (arith, (lengths_are_bounded v t h x).0), x)

-- at the end of the encoding no code begins
pub behind_end : (t : List ℕ) (m : ℕ) (v : List ℕ) (p : List Bool) → IsRead (bits t) m v p → IsReadBefore v t m
behind_end t m v p r = record { are_bytes = r.bytes; stopped = inr (p, open_no_code p r.open_front, r.parts) }

-- a decode of the text of v returns v, if v is within the limit
pub text_answers : (v t : List ℕ) (m : ℕ) → AreBytes v → t ≡ text v → length v ≤ m → IsAnswer t m v
text_answers v t m h e few = (h, few, rw e (text_is_text v))

-- and it returns no other value
pub text_answered : (v w t : List ℕ) (m : ℕ) → AreBytes v → t ≡ text v → IsAnswer t m w → (w ≡ v) × (length v ≤ m)
text_answered v w t m h e a = let same = texts_apart w v t a.0 h a.2 (rw e (text_is_text v)) in grind arith
