-- The bits that wait, and what is left of an encoding.
use Rattle.std.proofs.Common.{◌≡◌, ◌↔◌, ℕ, zero, suc, ◌+◌, ◌-◌, ◌/◌, ◌%◌, ◌^◌, ◌<◌, ◌≤◌, ◌==◌, Bool, false, List, []}
use Rattle.std.proofs.Common.{◌∷◌, ◌++◌, length, take, drop, replicate, get_or, bit_and, bit_or, nat_eq, IsTrue}
use Rattle.std.proofs.Common.{if◌then◌else◌, length-take, length-drop, take-append-drop, inl, inr, refl, sym}
use Rattle.std.proofs.Common.{◌∙◌, ap, arith, append_assoc, append-nil, length-append}
use Rattle.std.proofs.lemmas.List.{drop-drop, nil_from_length}
use Rattle.std.proofs.lemmas.Bool.{cases_lt}
use Rattle.std.proofs.lemmas.Bool.Decides.{nat_tests}
use Rattle.std.proofs.lemmas.Nat.{and_mask}
use Rattle.std.proofs.lemmas.Nat.Bits.{ones_shr}
use Rattle.std.specs.Int.{to_be_bytes, w64}
use Rattle.octets_code.specs.Bits.{bits_of}
use Rattle.octets_code.specs.Codes.{code}
use Rattle.octets_code.specs.Texts.{codes, bytes_of, text}
use Rattle.octets_code.proofs.BitLemmas.{length-bits_of}
use Rattle.octets_code.proofs.BytesOf.{bytes_of-word, length-bytes_of, last_bytes}
use Rattle.octets.specs.Encodes.{cased, cased_byte, text_of}
use Rattle.octets.specs.Pieces.{pieces, pieces_of_bits}
use Rattle.octets.proofs.lemmas.CasedCodes.{codes-at, codes-end}
use Rattle.octets.proofs.lemmas.Giving.{pieces-word, pieces-last, tail_pieces-long, tail_pieces-short}
use Rattle.octets.proofs.lemmas.WindowBits.{inner, take_front}
use Rattle.octets.proofs.lemmas.WordOps.{filled, is_high}
use Rattle.octets_c.specs.Pieces.{waiting, bits_left, HoldsBits, CanBePlace, IsStart, text_left, pieces_left, next_of}
use Rattle.octets_c.specs.declared.pieces.Place.{Place}

-- the bits below the highest n
pub low_part : (n b : ℕ) → n < 64 → bit_and b (18446744073709551615 / 2 ^ n) ≡ b % 2 ^ (64 - n)
low_part n b h = rw (ones_shr 64 n (omega (arith, h))) (and_mask b (64 - n))

pub length-waiting : (p : Place) → length (waiting p) ≡ p.count
length-waiting p = length-bits_of p.count (p.bits / 2 ^ (64 - p.count))

-- one more code
pub code_on : (to_lower : Bool) (v : List ℕ) (i b : ℕ) (w : List Bool) → i < length v
    → b ≡ cased_byte to_lower (get_or v i 0)
    → w ++ codes (drop i (cased to_lower v)) ≡ (w ++ code b) ++ codes (drop (i + 1) (cased to_lower v))
code_on to_lower v i b w h e = rw (e, codes-at to_lower v i h) (simp append_assoc)

-- all codes wait
pub codes_over : (to_lower : Bool) (v : List ℕ) (i : ℕ) (w : List Bool) → length v ≤ i
    → w ++ codes (drop i (cased to_lower v)) ≡ w
codes_over to_lower v i w h = rw (codes-end to_lower v i h) (append-nil w)

-- the last bytes are those of the word that is filled up with ones
pub last_word : (p : Place) → HoldsBits p → p.bits < 2 ^ 64
    → bytes_of (waiting p)
    ≡ take ((p.count + 7) / 8) (to_be_bytes w64 (bit_or p.bits (18446744073709551615 / 2 ^ p.count)))
last_word p h below =
    sym (last_bytes p.count (p.bits / 2 ^ (64 - p.count)) _ h.0
    (filled p.count p.bits (is_high _ _ h.0 h.1 below)))

-- of the first m bytes, n from the place i on, and then the others
pub cut_at : (l : List ℕ) (m i n : ℕ) → i + n ≤ m → drop i (take m l) ≡ take n (drop i l) ++ drop (i + n) (take m l)
cut_at l m i n h = rw (← inner l n i m h, ← drop-drop n i (take m l)) (sym (take-append-drop n (drop i (take m l))))

-- a word is a piece
pub word_left : (to_lower : Bool) (v : List ℕ) (old new : Place) (w : ℕ) → old.given ≡ 0 → new.given ≡ old.given
    → bits_left to_lower v old ≡ bits_of 64 w ++ bits_left to_lower v new
    → (text_left to_lower v old ≡ to_be_bytes w64 w ++ text_left to_lower v new)
    × (pieces_left to_lower v old ≡ 8 ∷ pieces_left to_lower v new)
unfolding text_left pieces_left
word_left to_lower v old new w none same e =
    let n : new.given ≡ 0 = same ∙ none in
    rw (none, n, e, length-append (bits_of 64 w) (bits_left to_lower v new), length-bits_of 64 w)
    (bytes_of-word w (bits_left to_lower v new), pieces-word (length (bits_left to_lower v new)))

pub tested : (n b : ℕ) → n < 64 → IsTrue (nat_eq (bit_and b (18446744073709551615 / 2 ^ n)) 0)
    ↔ ((n < 64) × (b % 2 ^ (64 - n) ≡ 0))
tested n b h = rw (low_part n b h) (λ t. (h, grind (arith, nat_tests)), λ t. grind (arith, nat_tests))

-- a piece of the last bytes
pub piece_given : (p : Place) (all copied rest : List ℕ) (k len : ℕ) → HoldsBits p → p.bits < 2 ^ 64
    → all ≡ to_be_bytes w64 (bit_or p.bits (18446744073709551615 / 2 ^ p.count)) → copied ≡ take k (drop p.given all)
    → k ≡ len → p.given + len ≤ (p.count + 7) / 8
    → drop p.given (bytes_of (waiting p)) ≡ take len (copied ++ rest) ++ drop (p.given + len) (bytes_of (waiting p))
piece_given p all copied rest k len h below is from same within =
    let m : ℕ = (p.count + 7) / 8 in
    let e : bytes_of (waiting p) ≡ take m all = last_word p h below ∙ ap (take m) (sym is) in
    let long : m ≡ length (take m all) = sym (length-bytes_of (waiting p) ∙ ap (λ n. (n + 7) / 8) (length-waiting p))
    ∙ ap length e in
    let whole : length copied ≡ len = ap length from
    ∙ omega (arith, long, length-take m all, length-take k (drop p.given all), length-drop p.given all, same, within) in
    rw (e, take_front len copied rest (sym whole), from, same) (cut_at all m p.given len within)

-- what is left after a piece of the last bytes
pub last_left : (to_lower : Bool) (v piece : List ℕ) (old mid new : Place) (len : ℕ)
    → bits_left to_lower v old ≡ waiting mid → length v ≤ mid.at → mid.given ≡ old.given
    → (new.at ≡ mid.at) × (new.count ≡ mid.count) × (new.bits ≡ mid.bits)
    → drop mid.given (bytes_of (waiting mid)) ≡ take len piece ++ drop new.given (bytes_of (waiting mid))
    → text_left to_lower v old ≡ take len piece ++ text_left to_lower v new
unfolding text_left
last_left to_lower v piece old mid new len e over same (i, n, b) h =
    let left : bits_left to_lower v new ≡ waiting mid =
    rw (i, n, b) (codes_over to_lower v mid.at (waiting mid) over) in
    rw (e, left, ← same) h

length-left : (to_lower : Bool) (v : List ℕ) (p mid : Place) → bits_left to_lower v p ≡ waiting mid
    → length (text_left to_lower v p) ≡ (mid.count + 7) / 8 - p.given
unfolding text_left
length-left to_lower v p mid e =
    rw e (length-drop p.given (bytes_of (waiting mid))
    ∙ ap (λ n. n - p.given) (length-bytes_of (waiting mid) ∙ ap (λ n. (n + 7) / 8) (length-waiting mid)))

-- the pieces of the last n bits, of whose bytes g were given
abbrev last_pieces : ℕ → ℕ → List ℕ
last_pieces n g = if g == 0 then pieces_of_bits n else replicate ((n + 7) / 8 - g) 1

singles : (n m : ℕ) → n ≡ suc m → replicate {A = ℕ} n 1 ≡ 1 ∷ replicate {A = ℕ} m 1
singles n m e = ap (λ k. replicate {A = ℕ} k 1) e

last_behind : (n k : ℕ) → 0 < k → last_pieces n k ≡ replicate {A = ℕ} ((n + 7) / 8 - k) 1
last_behind n k h = let e : (k == 0) ≡ false = grind (arith, nat_tests) in
    ap (λ b. if b then pieces_of_bits n else replicate {A = ℕ} ((n + 7) / 8 - k) 1) e

pub next_piece : (n g len : ℕ) → n < 64 → len ≡ next_of n g → 0 < len → last_pieces n g ≡ len ∷ last_pieces n (g + len)
unfolding next_of
next_piece n (suc g) len few e some = elim (cases_lt (suc g) ((n + 7) / 8)) [
  | inl more ↦ let one : len ≡ 1 = grind (arith, nat_tests) in
      rw one (last_behind n (suc g) (omega arith) ∙ singles _ ((n + 7) / 8 - (suc g + 1)) (omega arith)
      ∙ ap (λ t. 1 ∷ t) (sym (last_behind n (suc g + 1) (omega arith))))
  | inr none ↦ let zero : len ≡ 0 = grind (arith, nat_tests) in absurd (omega (arith, zero, some))
]
next_piece n zero len few e some = elim (cases_lt ((n + 7) / 8) 4) [
  | inl short ↦ elim (cases_lt 0 ((n + 7) / 8)) [
    | inl more ↦
        let one : len ≡ 1 = grind (arith, nat_tests) in
        rw (one, pieces-last n few, tail_pieces-short ((n + 7) / 8) short) (singles _ ((n + 7) / 8 - 1) (omega arith))
    | inr none ↦ let zero : len ≡ 0 = grind (arith, nat_tests) in absurd (omega (arith, zero, some))
  ]
  | inr long ↦
      let four : len ≡ 4 = grind (arith, nat_tests) in
      rw (four, pieces-last n few, tail_pieces-long ((n + 7) / 8) long) refl
]

pub last_pieces_left : (to_lower : Bool) (v : List ℕ) (old mid new : Place) (len : ℕ) → HoldsBits mid
    → bits_left to_lower v old ≡ waiting mid → length v ≤ mid.at → mid.given ≡ old.given
    → (new.at ≡ mid.at) × (new.count ≡ mid.count) × (new.bits ≡ mid.bits) → new.given ≡ mid.given + len
    → len ≡ next_of mid.count mid.given → 0 < len
    → pieces_left to_lower v old ≡ len ∷ pieces_left to_lower v new
unfolding pieces_left
last_pieces_left to_lower v old mid new len h e over same (i, n, b) given is some =
    let left : bits_left to_lower v new ≡ waiting mid =
    rw (i, n, b) (codes_over to_lower v mid.at (waiting mid) over) in
    rw
    (length-left to_lower v old mid e, length-left to_lower v new mid left, e, left, length-waiting mid, given, ← same)
    (next_piece mid.count mid.given len h.0 is some)

-- at the start everything is left
pub all_left : (to_lower : Bool) (v : List ℕ) (p : Place) → IsStart p
    → (text_left to_lower v p ≡ text_of to_lower v) × (pieces_left to_lower v p ≡ pieces (cased to_lower v))
unfolding text_left pieces_left text bits_of
all_left to_lower v p (i, b, n, g) = rw (i, b, n, g) (refl, refl)

-- the last piece was given exactly if nothing of the encoding is left
pub none_left : (to_lower : Bool) (v : List ℕ) (old mid : Place) → bits_left to_lower v old ≡ waiting mid
    → mid.given ≡ old.given → (mid.count + 7) / 8 ≤ mid.given ↔ (text_left to_lower v old ≡ [])
none_left to_lower v old mid e same = let n = length-left to_lower v old mid e in (
  λ h. nil_from_length (text_left to_lower v old) (n ∙ omega (arith, h, same)),
  λ t. omega (arith, sym n ∙ ap length t, same),
)

-- a word of the bits that wait and of one code more
pub word_on : (to_lower : Bool) (v : List ℕ) (old mid new : Place) (i b w : ℕ)
    → bits_left to_lower v mid ≡ bits_left to_lower v old → mid.at ≡ i
    → waiting mid ++ codes (drop i (cased to_lower v))
    ≡ (waiting mid ++ code b) ++ codes (drop (i + 1) (cased to_lower v))
    → waiting mid ++ code b ≡ bits_of 64 w ++ waiting new → new.at ≡ i + 1
    → bits_left to_lower v old ≡ bits_of 64 w ++ bits_left to_lower v new
word_on to_lower v old mid new i b w left at on word past = rw (← left, at, on, word, past, append_assoc) refl

-- if a code follows, none of the last bytes was given
pub none_given : (v : List ℕ) (p : Place) → CanBePlace v p → p.at < length v → p.given ≡ 0
none_given v p h more = elim (cases_lt 0 p.given) [
  | inl some ↦ absurd (omega (arith, h.2 some, more))
  | inr none ↦ omega (arith, none)
]

-- the place at the start is one that an encode leaves
pub start_is : (v : List ℕ) (p : Place) → IsStart p → CanBePlace v p
start_is v p (i, b, n, g) =
    ((omega (arith, n), rw (b, n) refl), omega (arith, i), λ some. absurd (omega (arith, g, some)))
