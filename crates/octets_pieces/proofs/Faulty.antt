-- Where a decode of a text fails, and why.
use Rattle.std.proofs.Common.{◌≡◌, ℕ, suc, ◌+◌, ◌*◌, ◌/◌, ◌<◌, ◌≤◌, Bool, List, [], ◌∷◌, ◌++◌, length, ap, arith, zero}
use Rattle.std.proofs.Common.{append_assoc, length-append, length-take, take, drop, get_or, inl, inr, refl, sym, subst}
use Rattle.std.proofs.Common.{take-append-drop, ◌∙◌}
use Rattle.std.proofs.lemmas.List.Elements.{All-append, All-take, All-head}
use Rattle.std.proofs.Math.Seq.{split_at}
use Rattle.octets_code.specs.Answers.{IsFaultBehind, IsAnswer, IsRefusal}
use Rattle.octets_code.specs.Bits.{bits_of}
use Rattle.octets_code.specs.Codes.{code}
use Rattle.octets_code.specs.Steps.{IsFill, IsOpen}
use Rattle.octets_code.specs.Texts.{bits, codes, AreBytes}
use Rattle.octets_code.proofs.BitLemmas.{length-bits_of}
use Rattle.octets_code.proofs.ByteBits.{length-bits, bits-append, bits-at}
use Rattle.octets_code.proofs.CodesLemmas.{codes-append, codes-around}
use Rattle.octets_code.proofs.TextLemmas.{open_no_code}
use Rattle.octets_code.proofs.Faults.{fault_from_read, refused_in_fault, refused_at_end, answered}
use Rattle.octets.specs.declared.error.IntoError.TheVariants.{NotText, NoRoom}
use Rattle.octets.specs.Stops.{IsStoppedBy}
use Rattle.octets_pieces.specs.Pieces.{AreRead, BeginsEnd, IsTooMuch}
use Rattle.octets_pieces.specs.Joined.{Fails}
use Rattle.octets_pieces.proofs.ByteReads.{longer}

-- the bits of the text by the byte at i
around : (t : List ℕ) (i : ℕ) (w : List ℕ) (q y : List Bool) → i < length t → AreRead (bits (take i t)) w q
    → q ++ bits_of 8 (get_or t i 0) ≡ y
    → bits t ≡ codes w ++ (y ++ bits (drop (i + 1) t))
around t i w q y h r e =
    let b = bits_of 8 (get_or t i 0) in
    ap bits (sym (take-append-drop i t)) ∙ bits-append (take i t) (drop i t)
    ∙ ap (λ z. bits (take i t) ++ z) (bits-at t i h)
    ∙ ap (λ z. z ++ (b ++ bits (drop (i + 1) t))) r.parts
    ∙ append_assoc (codes w) q (b ++ bits (drop (i + 1) t))
    ∙ ap (λ z. codes w ++ z) (sym (append_assoc q b (bits (drop (i + 1) t))) ∙ ap (λ z. z ++ bits (drop (i + 1) t)) e)

-- how many bits there are before the byte at i
before : (t : List ℕ) (i : ℕ) (w : List ℕ) (q : List Bool) → i < length t → AreRead (bits (take i t)) w q
    → 8 * i ≡ length (codes w) + length q
before t i w q h r =
    let e = ap length r.parts in grind (arith, length-bits, length-take, length-append)

-- a fault that ends in the byte at i
fault_at : (t v : List ℕ) (i m e : ℕ) → IsFaultBehind v (bits t) m e → 8 * i < e → e ≤ 8 * i + 8 → IsRefusal t m (i + 1)
fault_at t v i m e f low high =
    let place : (e + 7) / 8 ≡ i + 1 = omega arith in
    subst (λ k. IsRefusal t m k) place (refused_in_fault t m e (fault_from_read (bits t) m e (v, f)))

-- the end code ends in the byte at i
pub end_at : (t : List ℕ) (i m n k : ℕ) (w : List ℕ) (q : List Bool) → AreRead (bits (take i t)) w q → length w ≤ m
    → i < length t → BeginsEnd (q ++ bits_of 8 (get_or t i 0)) → n ≡ i + 1 → k ≡ length w
    → Fails record { passed = n; why = NotText k } w t m
unfolding IsStoppedBy
end_at t i m n k w q r l h end is same =
    let far = longer q _ end.0 256 r.open_left (omega arith) end.1 in
    let sum = ap length end.1 in
    let long = before t i w q h r in
    let parts : bits t ≡ codes w ++ (code 256 ++ (end.0 ++ bits (drop (i + 1) t))) =
    around t i w q _ h r end.1 ∙ ap (λ z. codes w ++ z) (append_assoc (code 256) end.0 (bits (drop (i + 1) t))) in
    let fault : IsFaultBehind w (bits t) m (length (codes w) + length (code 256)) = record {
      symbol = 256;
      rest = _;
      bytes = r.bytes;
      is_symbol = omega arith;
      within = l;
      refused = inr refl;
      parts = parts;
      ends = refl;
    } in record {
      refusal = rw is (fault_at t w i m _ fault (omega arith) (grind (arith, length-append, length-bits_of)));
      within = l;
      read = record { are_bytes = r.bytes; stopped = inl (_, fault) };
      why = (sym same, inl (_, parts));
    }

-- of some symbols, the code of the first is not longer than those up to another
first_in : (u : List ℕ) (n : ℕ) → n < length u
    → length (code (get_or u 0 0)) ≤ length (codes (take n u)) + length (code (get_or u n 0))
unfolding codes
first_in [] n h = absurd (omega arith)
first_in (f ∷ u) zero h = omega arith
first_in (f ∷ u) (suc n) h = omega (arith, length-append (code f) (codes (take n u)))

-- the first code that is completed is longer than the bits that remained
first_long : (u : List ℕ) (q b left : List Bool) → IsOpen q → AreBytes u → 0 < length u → q ++ b ≡ codes u ++ left
    → length q < length (code (get_or u 0 0))
unfolding codes
first_long [] q b left o h some e = absurd (omega arith)
first_long (f ∷ u) q b left o h some e =
    let byte = All-head (λ z. z < 256) f u h in
    longer q b (codes u ++ left) f o (omega arith) (e ∙ append_assoc (code f) (codes u) left)

regroup : (w a c r l z : List Bool) → w ++ (((a ++ (c ++ r)) ++ l) ++ z) ≡ (w ++ a) ++ (c ++ (r ++ (l ++ z)))
regroup w a c r l z = simp append_assoc refl

-- the byte at i completes more bytes than there is room for
pub full_at : (t : List ℕ) (i m n room : ℕ) (w : List ℕ) (q : List Bool) → AreRead (bits (take i t)) w q
    → length w + room ≡ m → i < length t → (much : IsTooMuch q (get_or t i 0) room) → n ≡ i + 1
    → Fails record { passed = n; why = NoRoom } (w ++ take room much.value) t m
unfolding IsStoppedBy
full_at t i m n room w q r l h much is =
    let u = much.value in
    let c = get_or u room 0 in
    let front = take room u in
    let after = drop (suc room) u in
    let v = w ++ front in
    let z = bits (drop (i + 1) t) in
    let len : length v ≡ m = omega (arith, length-append w front, length-take room u, much.more, l) in
    let byte : c < 256 = much.read.bytes room 0 much.more in
    let cut : codes u ≡ codes front ++ (code c ++ codes after) =
    ap codes (split_at u room 0 much.more) ∙ codes-around front c after in
    let parts : bits t ≡ codes v ++ (code c ++ (codes after ++ (much.left ++ z))) =
    around t i w q _ h r much.read.parts
    ∙ rw (cut, codes-append w front) (regroup (codes w) (codes front) (code c) (codes after) much.left z) in
    let fault : IsFaultBehind v (bits t) m (length (codes v) + length (code c)) = record {
      symbol = c;
      rest = _;
      bytes = All-append (λ b. b < 256) w front r.bytes (All-take (λ b. b < 256) room u much.read.bytes);
      is_symbol = omega (arith, byte);
      within = omega (arith, len);
      refused = inl len;
      parts = parts;
      ends = refl;
    } in
    let long = before t i w q h r in
    let some : 0 < length u = omega (arith, much.more) in
    let first = first_long u q _ much.left r.open_left much.read.bytes some much.read.parts in
    let within = first_in u room much.more in
    let both : length (codes v) ≡ length (codes w) + length (codes front) =
    ap length (codes-append w front) ∙ length-append (codes w) (codes front) in
    let sum : length q + 8 ≡ length (codes front) + (length (code c) + length (codes after)) + length much.left =
    grind (arith, length-append, length-bits_of, ap length much.read.parts, ap length cut) in record {
      refusal = rw is (fault_at t v i m _ fault (omega arith) (omega arith));
      within = fault.within;
      read = record { are_bytes = fault.bytes; stopped = inl (_, fault) };
      why = (len, (c, _, byte, parts));
    }

-- the encoding may end here
pub ends_text : (t : List ℕ) (m : ℕ) (v : List ℕ) (q : List Bool) → AreBytes t → AreRead (bits t) v q → length v ≤ m
    → IsFill q → IsAnswer t m v
ends_text t m v q h r l f = answered t m v q h r.bytes l r.parts f

-- the encoding may not end here
pub no_end : (t : List ℕ) (m n k : ℕ) (v : List ℕ) (q : List Bool) → AreRead (bits t) v q → length v ≤ m → ¬ IsFill q
    → n ≡ length t → k ≡ length v
    → Fails record { passed = n; why = NotText k } v t m
unfolding IsStoppedBy
no_end t m n k v q r l f is same =
    let none = open_no_code q r.open_left in record {
      refusal = rw is (refused_at_end t m v q r.bytes l r.parts none f);
      within = l;
      read = record { are_bytes = r.bytes; stopped = inr (q, none, r.parts) };
      why = (sym same, inr (q, none, r.parts));
    }
