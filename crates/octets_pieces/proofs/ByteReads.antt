-- How what was read grows, a byte at a time.
use Rattle.std.proofs.Common.{◌≡◌, ℕ, ◌+◌, ◌<◌, ◌≤◌, Bool, true, List, [], ◌∷◌, ◌++◌, length, ap, arith, append_assoc}
use Rattle.std.proofs.Common.{length-append, length-take, take, drop, get_or, ◌/◌, ◌%◌, ◌-◌, ◌∙◌, refl, sym}
use Rattle.std.proofs.Common.{append-nil, inl, inr}
use Rattle.std.proofs.lemmas.Grind.{common_steps}
use Rattle.std.proofs.lemmas.List.{length-replicate, drop-drop}
use Rattle.std.proofs.lemmas.List.Elements.{All-append}
use Rattle.octets_code.specs.Bits.{bits_of}
use Rattle.octets_code.specs.Codes.{code}
use Rattle.octets_code.specs.Steps.{IsOpen}
use Rattle.octets_code.specs.Texts.{bits, codes}
use Rattle.octets_code.proofs.BitLemmas.{length-bits_of}
use Rattle.octets_code.proofs.ByteBits.{halves, bits-push}
use Rattle.octets_code.proofs.CodesLemmas.{codes-append}
use Rattle.octets_code.proofs.TextLemmas.{two_fronts, open_no_code, end_code}
use Rattle.octets_code.specs.States.{path}
use Rattle.octets_code.proofs.Walks.{path_open}
use Rattle.octets_pieces.specs.Pieces.{AreRead, BeginsEnd, HasRead, IsHalf}

-- a code that begins with an open prefix is longer than this prefix
pub longer : (p y r : List Bool) (s : ℕ) → IsOpen p → s ≤ 256 → p ++ y ≡ code s ++ r → length p < length (code s)
longer p y r s o h e = let w = two_fronts p (code s) y r e in grind (arith, common_steps, open_no_code p o s h)

-- a byte by its two halves
pub by_halves : (p : List Bool) (b : ℕ) → p ++ bits_of 8 b ≡ (p ++ bits_of 4 (b / 16)) ++ bits_of 4 (b % 16)
by_halves p b = grind (arith, append_assoc, halves)

-- the first half of a byte completes no code, and neither does the second
pub on_on : (p h s : List Bool) (b : ℕ) → h ≡ p ++ bits_of 4 (b / 16) → s ≡ h ++ bits_of 4 (b % 16) → IsOpen s
    → AreRead (p ++ bits_of 8 b) [] s
unfolding codes
on_on p h s b e f o = record {
  bytes = (λ k d l. absurd (omega arith));
  open_left = o;
  parts = grind
      (arith, by_halves);
}

-- the second half completes one
pub on_one : (p h s : List Bool) (b a : ℕ) → h ≡ p ++ bits_of 4 (b / 16) → h ++ bits_of 4 (b % 16) ≡ code a ++ s
    → a < 256 → IsOpen s → AreRead (p ++ bits_of 8 b) (a ∷ []) s
unfolding codes
on_one p h s b a e f l o = grind (arith, common_steps, by_halves)

-- the first half completes one, and the second none
pub one_on : (p h s : List Bool) (b a : ℕ) → p ++ bits_of 4 (b / 16) ≡ code a ++ h → s ≡ h ++ bits_of 4 (b % 16)
    → a < 256 → IsOpen s → AreRead (p ++ bits_of 8 b) (a ∷ []) s
unfolding codes
one_on p h s b a e f l o = grind (arith, common_steps, by_halves, append_assoc)

-- each half completes one
pub one_one : (p h s : List Bool) (b a c : ℕ) → p ++ bits_of 4 (b / 16) ≡ code a ++ h
    → h ++ bits_of 4 (b % 16) ≡ code c ++ s → a < 256 → c < 256 → IsOpen s
    → AreRead (p ++ bits_of 8 b) (a ∷ c ∷ []) s
unfolding codes
one_one p h s b a c e f l m o = grind (arith, common_steps, by_halves, append_assoc)

-- the end code ends in the first half
pub end_high : (p : List Bool) (b : ℕ) → BeginsEnd (p ++ bits_of 4 (b / 16)) → BeginsEnd (p ++ bits_of 8 b)
end_high p b w = (w.0 ++ bits_of 4 (b % 16), rw (by_halves p b, w.1, append_assoc))

-- the end code ends in the second half
pub end_low : (p h : List Bool) (b : ℕ) → h ≡ p ++ bits_of 4 (b / 16) → BeginsEnd (h ++ bits_of 4 (b % 16))
    → BeginsEnd (p ++ bits_of 8 b)
end_low p h b e w = (w.0, rw (by_halves p b, ← e) w.1)

-- the end code is longer than what a code that ends in the first half leaves, with the second half
pub no_end : (p h : List Bool) (b a : ℕ) → IsOpen p → a ≤ 256 → p ++ bits_of 4 (b / 16) ≡ code a ++ h
    → BeginsEnd (h ++ bits_of 4 (b % 16)) → ⊥
no_end p h b a o l e w =
    let far = longer p _ h a o l e in
    let one = ap length e in
    let two = ap length w.1 in
    let end = ap length end_code in
    grind (arith, length-append, length-bits_of, length-replicate)

-- the case of a half byte that completes a code
got_one : (p x : List Bool) (j c n : ℕ) → IsHalf p x j c n → n ≡ 1 → (c < 256) × (p ++ x ≡ code c ++ path j)
got_one p x j c n h one = elim h.1 [
  | inl none ↦ absurd (omega (arith, one, none.0))
  | inr more ↦ elim more [
    | inl byte ↦ (byte.1, byte.2)
    | inr end ↦ absurd (omega (arith, one, end.0))
  ]
]

-- a half byte from the state number i
abbrev Half : ℕ → ℕ → ℕ → ℕ → ℕ → Type 0
Half i x index byte count = IsHalf (path i) (bits_of 4 x) index byte count

-- the first half completes a code
pub first_read : (i b j c n k d m : ℕ) → Half i (b / 16) j c n → Half j (b % 16) k d m → n ≡ 1 → n + m ≤ 2
    → AreRead (path i ++ bits_of 8 b) (take (n + m) (c ∷ d ∷ [])) (path k)
first_read i b j c n k d m high low one few =
    let h = got_one (path i) (bits_of 4 (b / 16)) j c n high one in
    elim low.1 [
      | inl none ↦
          let sum : n + m ≡ 1 = omega (arith, one, none.0) in
          rw sum (one_on _ _ _ b c h.1 none.1 h.0 (path_open k low.0))
      | inr more ↦ elim more [
        | inl byte ↦
            let sum : n + m ≡ 2 = omega (arith, one, byte.0) in
            rw sum (one_one _ _ _ b c d h.1 byte.2 h.0 byte.1 (path_open k low.0))
        | inr end ↦ absurd (omega (arith, one, end.0))
      ]
    ]

-- it completes none
pub first_not : (i b j c n k d m : ℕ) → Half i (b / 16) j c n → Half j (b % 16) k d m → ¬ (n ≡ 1) → n + m ≤ 2
    → AreRead (path i ++ bits_of 8 b) (take (n + m) (d ∷ d ∷ [])) (path k)
first_not i b j c n k d m high low other few =
    elim high.1 [
      | inl front ↦ elim low.1 [
        | inl none ↦
            let sum : n + m ≡ 0 = omega (arith, front.0, none.0) in
            rw sum (on_on _ _ _ b front.1 none.1 (path_open k low.0))
        | inr more ↦ elim more [
          | inl byte ↦
              let sum : n + m ≡ 1 = omega (arith, front.0, byte.0) in
              rw sum (on_one _ _ _ b d front.1 byte.2 byte.1 (path_open k low.0))
          | inr end ↦ absurd (omega (arith, end.0))
        ]
      ]
      | inr rest ↦ elim rest [
        | inl byte ↦ absurd (other byte.0)
        | inr end ↦ absurd (omega (arith, end.0))
      ]
    ]

-- one of them completes the end code
pub end_read : (i b j c n k d m : ℕ) → i < 256 → Half i (b / 16) j c n → Half j (b % 16) k d m → 2 < n + m
    → BeginsEnd (path i ++ bits_of 8 b)
end_read i b j c n k d m below high low many =
    elim high.1 [
      | inl front ↦ elim low.1 [
        | inl none ↦ absurd (omega (arith, front.0, none.0))
        | inr more ↦ elim more [
          | inl byte ↦ absurd (omega (arith, front.0, byte.0))
          | inr end ↦ end_low _ _ b front.1 end.1
        ]
      ]
      | inr rest ↦ elim rest [
        | inl byte ↦ elim low.1 [
          | inl none ↦ absurd (omega (arith, byte.0, none.0))
          | inr more ↦ elim more [
            | inl two ↦ absurd (omega (arith, byte.0, two.0))
            | inr end ↦ absurd (no_end _ _ b c (path_open i below) (omega (arith, byte.1)) byte.2 end.1)
          ]
        ]
        | inr end ↦ end_high _ b end.1
      ]
    ]

-- nothing was read
pub begun : (p q : List Bool) (t o : List ℕ) → p ≡ q → IsOpen q → HasRead p q t o o 0 0
unfolding bits codes
begun p q t o e h = record {
  inside = omega arith;
  fits = omega arith;
  read = record {
    bytes = (λ k d l. absurd (omega arith));
    open_left = h;
    parts = append-nil p ∙ e;
  };
  behind = refl;
}

-- one more byte is read, which completes the bytes v
pub grown : (p s q : List Bool) (t before o o' : List ℕ) (i k n : ℕ) (v : List ℕ) → i < length t
    → HasRead p s t before o i k
    → AreRead (s ++ bits_of 8 (get_or t i 0)) v q → n ≡ k + length v → n ≤ length before
    → take n o' ≡ take k o ++ v → drop n o' ≡ drop n o → HasRead p q t before o' (i + 1) n
grown p s q t before o o' i k n v h r e is f taken dropped =
    let more : bits (take (i + 1) t) ≡ bits (take i t) ++ bits_of 8 (get_or t i 0) = grind
    (arith, common_steps, bits-push) in
    let whole : p ++ bits (take (i + 1) t) ≡ codes (take k o ++ v) ++ q =
    rw (more, ← append_assoc, r.read.parts, append_assoc, e.parts, codes-append, append_assoc) in
    let sum : k + (n - k) ≡ n = omega arith in
    let same : drop n o ≡ drop n before =
    rw (← sum, ← drop-drop (n - k) k o, r.behind, drop-drop (n - k) k before) in record {
      inside = omega arith;
      fits = f;
      read = record {
        bytes = rw taken (All-append (λ b. b < 256) (take k o) v r.read.bytes e.bytes);
        open_left = e.open_left;
        parts = rw taken whole;
      };
      behind = dropped ∙ same;
    }

-- a byte that completes n of two bytes
pub grown_by : (p s q : List Bool) (t before o o' : List ℕ) (i k n a b : ℕ) → i < length t → HasRead p s t before o i k
    → AreRead (s ++ bits_of 8 (get_or t i 0)) (take n (a ∷ b ∷ [])) q → n ≤ 2 → length o ≡ length before
    → k + n ≤ length o → take (k + n) o' ≡ take k o ++ take n (a ∷ b ∷ []) → drop (k + n) o' ≡ drop (k + n) o
    → HasRead p q t before o' (i + 1) (k + n)
grown_by p s q t before o o' i k n a b h r e few l f taken dropped =
    grown p s q t before o o' i k (k + n) (take n (a ∷ b ∷ [])) h r e (omega (arith, length-take n (a ∷ b ∷ []), few))
    (omega (arith, l, f)) taken dropped

-- no bits are a prefix of the end code
open_none : IsOpen []
open_none = (
  256,
  code 256,
  omega arith,
  (λ e. omega (arith, ap length e, ap length end_code, length-replicate 30 true)),
  refl,
)

-- no bytes were read
pub nothing : (q : List Bool) → q ≡ [] → AreRead (bits []) [] q
unfolding bits codes
nothing q e = record { bytes = (λ k d l. absurd (omega arith)); open_left = rw e open_none; parts = sym e }
