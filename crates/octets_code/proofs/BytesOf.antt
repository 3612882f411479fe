-- Laws of bits as bytes: what `bytes_of` gives for bytes, words and fills.
use Rattle.std.proofs.Common.{◌≡◌, ℕ, zero, suc, ◌+◌, ◌-◌, ◌*◌, ◌/◌, ◌%◌, ◌^◌, ◌<◌, Bool, true, List, [], ◌∷◌, ◌++◌}
use Rattle.std.proofs.Common.{length, take, replicate, refl, sym, ◌∙◌, ap, arith, append_assoc, append-nil}
use Rattle.std.proofs.Math.ListN.{replicate-append-replicate}
use Rattle.std.proofs.Math.Seq.{take-append_seam}
use Rattle.std.proofs.lemmas.List.Elements.{All-cons, All-head, All-tail}
use Rattle.std.specs.Int.{bytes_high_first, byte_at, to_be_bytes, w64}
use Rattle.std.proofs.lemmas.Nat.{pow-add}
use Rattle.std.proofs.Math.Nat.{pow-suc}
use Rattle.octets_code.specs.Bits.{bits_of, value_of}
use Rattle.octets_code.specs.Texts.{bits, ones, AreBytes, bytes_of}
use Rattle.octets_code.proofs.BitLemmas.{bits_of-append, bits_of-mod, length-bits_of}
use Rattle.octets_code.proofs.ByteBits.{value_of-bits_of, value_of-lt, bits_of-value_of, filled_length}

-- eight bits make a byte
pub bytes_of-byte : (b : ℕ) (r : List Bool) → b < 256 → bytes_of (bits_of 8 b ++ r) ≡ b ∷ bytes_of r
unfolding bits_of bytes_of
bytes_of-byte b r h = ap (λ n. n ∷ bytes_of r) (value_of-bits_of 8 b ∙ omega arith)

-- eight bits of a number make its lowest byte
pub bytes_of-byte_low : (x : ℕ) (r : List Bool) → bytes_of (bits_of 8 x ++ r) ≡ (x % 256) ∷ bytes_of r
bytes_of-byte_low x r = ap (λ l. bytes_of (l ++ r)) (bits_of-mod 8 x) ∙ bytes_of-byte (x % 256) r (omega arith)

-- bytes come back from their bits
bytes_of-front : (t : List ℕ) (y : List Bool) → AreBytes t → bytes_of (bits t ++ y) ≡ t ++ bytes_of y
unfolding bits
bytes_of-front [] y h = refl
bytes_of-front (b ∷ t) y h = rw (
  append_assoc (bits_of 8 b) (bits t) y,
  bytes_of-byte b (bits t ++ y) (All-head (λ z. z < 256) b t h),
  bytes_of-front t y (All-tail (λ z. z < 256) b t h),
)

bytes_of-bits : (t : List ℕ) → AreBytes t → bytes_of (bits t) ≡ t
unfolding bytes_of
bytes_of-bits t h = ap bytes_of (sym (append-nil (bits t))) ∙ bytes_of-front t [] h ∙ append-nil t

-- bytes whose bits are the same are the same
pub bits-injective : (t u : List ℕ) → AreBytes t → AreBytes u → bits t ≡ bits u → t ≡ u
bits-injective t u ht hu e = rw (← bytes_of-bits t ht, e, bytes_of-bits u hu)

eight : (p : List Bool) → length p ≡ 8 → (value_of p < 256) × (bits_of 8 (value_of p) ≡ p)
eight p h = grind (arith, value_of-lt, bits_of-value_of)

-- fewer than eight bits are filled up to a byte
filled : (p : List Bool) (n : ℕ) → n < 8 → length (p ++ ones n) ≡ 8
    → AreBytes (value_of (p ++ ones n) ∷ []) × ((k : ℕ) × (k < 8) × (bits (value_of (p ++ ones n) ∷ []) ≡ p ++ ones k))
unfolding bits
filled p n l h =
    let w = eight (p ++ ones n) h in
    (All-cons (λ z. z < 256) _ [] w.0 (λ k d z. absurd (omega arith)), (n, l, append-nil _ ∙ w.1))

-- bits as bytes are bytes, whose bits are these and 0 to 7 ones
pub filled_up : (x : List Bool) → AreBytes (bytes_of x) × ((n : ℕ) × (n < 8) × (bits (bytes_of x) ≡ x ++ ones n))
unfolding bytes_of bits
filled_up [] = (λ k d l. absurd (omega arith), (0, omega arith, refl))
filled_up (a ∷ []) = filled (a ∷ []) 7 (omega arith) refl
filled_up (a ∷ b ∷ []) = filled (a ∷ b ∷ []) 6 (omega arith) refl
filled_up (a ∷ b ∷ c ∷ []) = filled (a ∷ b ∷ c ∷ []) 5 (omega arith) refl
filled_up (a ∷ b ∷ c ∷ d ∷ []) = filled (a ∷ b ∷ c ∷ d ∷ []) 4 (omega arith) refl
filled_up (a ∷ b ∷ c ∷ d ∷ e ∷ []) = filled (a ∷ b ∷ c ∷ d ∷ e ∷ []) 3 (omega arith) refl
filled_up (a ∷ b ∷ c ∷ d ∷ e ∷ f ∷ []) = filled (a ∷ b ∷ c ∷ d ∷ e ∷ f ∷ []) 2 (omega arith) refl
filled_up (a ∷ b ∷ c ∷ d ∷ e ∷ f ∷ g ∷ []) = filled (a ∷ b ∷ c ∷ d ∷ e ∷ f ∷ g ∷ []) 1 (omega arith) refl
filled_up (a ∷ b ∷ c ∷ d ∷ e ∷ f ∷ g ∷ h ∷ x) = grind (arith, eight, All-cons, (filled_up x))

-- eight bits for each byte, the last of which may be incomplete
pub length-bytes_of : (x : List Bool) → length (bytes_of x) ≡ (length x + 7) / 8
length-bytes_of x =
    let w = (filled_up x).1 in
    omega (arith, w.1, filled_length x (bytes_of x) w.0 w.2)

-- ones up to the end of a byte change nothing
pub bytes_of-fill : (x : List Bool) (k j : ℕ) → k < 8 → length x + k ≡ 8 * j
    → bytes_of (x ++ replicate k true) ≡ bytes_of x
bytes_of-fill x k j q u =
    let w = filled_up x in
    let same : w.1.0 ≡ k = omega (arith, w.1.1, filled_length x (bytes_of x) w.1.0 w.1.2) in
    rw (← same, ← w.1.2, bytes_of-bits (bytes_of x) w.0)

pow_bytes : (k : ℕ) → 2 ^ (8 * k) ≡ 256 ^ k
pow_bytes zero = refl
pow_bytes (suc k) =
    let e : 8 * suc k ≡ 8 + 8 * k = omega arith in
    ap (λ m. 2 ^ m) e ∙ omega (arith, pow-add 2 8 (8 * k), pow-suc 256 k, pow_bytes k)

pub byte_at-is : (k n : ℕ) → n / 2 ^ (8 * k) % 256 ≡ byte_at k n
byte_at-is zero n = omega arith
byte_at-is (suc k) n = rw (pow_bytes (suc k))

-- the bytes of a number in network order
pub bytes_of-number : (k n : ℕ) (r : List Bool) → bytes_of (bits_of (8 * k) n ++ r) ≡ bytes_high_first k n ++ bytes_of r
unfolding bits_of
bytes_of-number zero n r = refl
bytes_of-number (suc k) n r =
    let e : 8 * suc k ≡ 8 + 8 * k = omega arith in
    rw (
      e,
      bits_of-append 8 (8 * k) n,
      append_assoc (bits_of 8 (n / 2 ^ (8 * k))) (bits_of (8 * k) n) r,
      bytes_of-byte_low (n / 2 ^ (8 * k)) (bits_of (8 * k) n ++ r),
      byte_at-is k n,
      bytes_of-number k n r,
    )

-- the bytes of a word of 64 bits in network order
pub bytes_of-word : (n : ℕ) (r : List Bool) → bytes_of (bits_of 64 n ++ r) ≡ to_be_bytes w64 n ++ bytes_of r
bytes_of-word n r = bytes_of-number 8 n r

-- the first bytes of a word, of n bits and ones after them, are those of its n bits
pub last_bytes : (n a w : ℕ) → n < 64 → bits_of 64 w ≡ bits_of n a ++ replicate (64 - n) true
    → take ((n + 7) / 8) (to_be_bytes w64 w) ≡ bytes_of (bits_of n a)
unfolding bytes_of
last_bytes n a w few is =
    let t = bytes_of (bits_of n a) in
    let f = filled_up (bits_of n a) in
    let k = f.1.0 in
    let long : n + k ≡ 8 * length t = rw length-bits_of at (filled_length (bits_of n a) t k f.1.2) in
    let sum : k + (64 - n - k) ≡ 64 - n = omega (arith, f.1.1) in
    let fill : ones k ++ ones (64 - n - k) ≡ ones (64 - n) = rw (replicate-append-replicate, sum) in
    let word : bits_of 64 w ≡ bits t ++ ones (64 - n - k) = rw (is, ← fill, ← append_assoc, f.1.2) in
    let whole : to_be_bytes w64 w ≡ t ++ bytes_of (ones (64 - n - k)) =
    rw (
      ← append-nil (to_be_bytes w64 w),
      ← bytes_of-word w [],
      append-nil (bits_of 64 w),
      word,
      bytes_of-front t (ones (64 - n - k)) f.0,
    ) in
    let len : (n + 7) / 8 ≡ length t = omega (arith, f.1.1) in
    rw (whole, len, take-append_seam t (bytes_of (ones (64 - n - k))))
