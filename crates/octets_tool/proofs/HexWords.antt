-- Words of hexadecimal digits.
use Rattle.std.proofs.Common.{◌≡◌, ◌≢◌, ◌↔◌, ℕ, ◌+◌, ◌-◌, ◌*◌, ◌<◌, ◌≤◌, nat_lt, if◌then◌else◌, List, [], ◌∷◌}
use Rattle.std.proofs.Common.{◌++◌, length, codes, flat_map, Some, None, refl, ap, sym, subst, ◌∙◌, arith}
use Rattle.std.proofs.Common.{append-nil, append_assoc, take, drop, get_or, Bool, true, false, eqb, ◌==◌}
use Rattle.std.specs.Cmp.Lexicographic.{pointwise}
use Rattle.std.proofs.lemmas.Bool.{false≢true, agree_below_at}
use Rattle.std.proofs.lemmas.Bool.Decides.{Decides-eqb}
use Rattle.std.proofs.lemmas.Slice.Eq.{slice_eq-Decides}
use Rattle.std.proofs.lemmas.Grind.{flat_map-append}
use Rattle.std.proofs.lemmas.List.{take_all}
use Rattle.std.proofs.lemmas.List.Elements.{All-head, All-tail}
use Rattle.octets.specs.Bytes.{AreBytes}
use Rattle.octets_tool.specs.Lines.{hex, hex_digit, byte_digits}

-- ---- words read back

-- the value of a digit
abbrev digit_of : ℕ → ℕ
digit_of digit = if nat_lt digit 97 then digit - 48 else digit - 87

digit_of-hex_digit : (d : ℕ) → d < 16 → digit_of (hex_digit d) ≡ d
digit_of-hex_digit d small = (Decides-eqb (digit_of (hex_digit d)) d).0
    (agree_below_at (λ k. digit_of (hex_digit k) == k) (λ k. true) 16 d refl small)

hex_digit_injective : (d e : ℕ) → d < 16 → e < 16 → hex_digit d ≡ hex_digit e → d ≡ e
hex_digit_injective d e small fits same = rw (← digit_of-hex_digit d small, same, digit_of-hex_digit e fits)

-- the bytes of a word
abbrev pub bytes_of : List ℕ → List ℕ
bytes_of (x ∷ y ∷ word) = (16 * digit_of x + digit_of y) ∷ bytes_of word
bytes_of _ = []

-- digits give their bytes back
bytes_of-digits : (b : List ℕ) → AreBytes b → bytes_of (flat_map byte_digits b) ≡ b
bytes_of-digits [] are = refl
bytes_of-digits (x ∷ b) are =
    grind (
      arith,
      All-head,
      digit_of,
      digit_of-hex_digit,
      All-tail,
      (bytes_of-digits b (All-tail (λ b. b < 256) x b are)),
    )

-- and so does the word of any bytes, which is `-` for none
pub bytes_of-hex : (b : List ℕ) → AreBytes b → bytes_of (hex b) ≡ b
bytes_of-hex [] are = refl
bytes_of-hex (x ∷ b) are = bytes_of-digits (x ∷ b) are

-- two byte strings have two spellings
pub hex_injective : (v w : List ℕ) → AreBytes v → AreBytes w → hex v ≡ hex w → v ≡ w
hex_injective v w are fits e = rw (← bytes_of-hex v are, e, bytes_of-hex w fits)

-- ---- two digits are those of one byte

-- two digits are a byte exactly where they are the digits of it
pub two_digits : (high low h l : ℕ) → h < 16 → l < 16 → high ≡ hex_digit h → low ≡ hex_digit l
    → (b : ℕ) → (Some (16 * h + l) ≡ Some b) ↔ ((b < 256) × (high ∷ low ∷ [] ≡ byte_digits b))
two_digits high low h l small fits is_high is_low b = grind (arith, hex_digit_injective)

-- ---- reading a word that isn't `-`, of which v is what was read so far, and rest is what is left

-- a word that isn't equal to `-`
pub no_dash : (word : List ℕ) (r : Bool) → r ≡ pointwise eqb word (codes "-") → r ≡ false → word ≢ codes "-"
no_dash word r e other same = false≢true (sym other ∙ (slice_eq-Decides Decides-eqb word (codes "-") r e).1 same)

-- what follows the digits of some bytes are the digits of other bytes
digits_behind : (v b rest : List ℕ) → AreBytes b → flat_map byte_digits v ++ rest ≡ flat_map byte_digits b
    → (u : List ℕ) × AreBytes u × (rest ≡ flat_map byte_digits u)
digits_behind [] b rest are e = (b, are, e)
digits_behind (x ∷ v) [] rest are e = cc
digits_behind (x ∷ v) (y ∷ b) rest are e = digits_behind v b rest (All-tail (λ b. b < 256) y b are) (cc)

-- nothing is found where what is left are no digits of bytes
pub reads_nothing : (word v rest : List ℕ) → word ≢ codes "-" → flat_map byte_digits v ++ rest ≡ word
    → ((u : List ℕ) → AreBytes u → rest ≡ flat_map byte_digits u → ⊥)
    → (b : List ℕ) → (None ≡ Some b) ↔ (AreBytes b × (word ≡ hex b))
reads_nothing word v rest dash read never [] = ((λ e. cc), (λ is. absurd (dash is.1)))
reads_nothing word v rest dash read never (x ∷ b) =
    ((λ e. cc), (λ is. (let u = digits_behind v (x ∷ b) rest is.0 (read ∙ is.1) in absurd (never u.0 u.1 u.2))))

-- what one element more adds
pub flat_more : {X : Type 0} (f : X → List ℕ) (xs : List X) (x : X) → flat_map f (xs ++ x ∷ []) ≡ flat_map f xs ++ f x
flat_more f xs x = flat_map-append f xs (x ∷ []) ∙ ap (λ l. flat_map f xs ++ l) (append-nil (f x))

-- the next two are the digits of b
pub reads_more : (word v rest : List ℕ) (b : ℕ) → 2 ≤ length rest
    → get_or rest 0 0 ∷ get_or rest 1 0 ∷ [] ≡ byte_digits b → flat_map byte_digits v ++ rest ≡ word
    → flat_map byte_digits (v ++ b ∷ []) ++ take (length rest - 2) (drop 2 rest) ≡ word
reads_more word v (x ∷ y ∷ more) b long is read =
    let front = flat_map byte_digits v in
    let digits = flat_more byte_digits v b ∙ ap (λ l. front ++ l) (sym is) in
    rw (digits, take_all (length (x ∷ y ∷ more) - 2) more (omega arith)) (append_assoc front (x ∷ y ∷ []) more ∙ read)
reads_more word v (x ∷ []) b long is read = absurd (omega arith)
reads_more word v [] b long is read = absurd (omega arith)

-- the next two are no digits of a byte
pub no_byte : (rest u : List ℕ) → 2 ≤ length rest
    → ((b : ℕ) → (None ≡ Some b) ↔ ((b < 256) × (get_or rest 0 0 ∷ get_or rest 1 0 ∷ [] ≡ byte_digits b))) → AreBytes u
    → rest ≡ flat_map byte_digits u → ⊥
no_byte rest [] long none are e = omega (arith, ap length e)
no_byte rest (b ∷ u) long none are e = grind (arith, All-head)

-- one is left
pub no_half : (rest u : List ℕ) → length rest ≡ 1 → rest ≡ flat_map byte_digits u → ⊥
no_half rest [] one e = omega (arith, ap length e)
no_half rest (b ∷ u) one e = omega (arith, ap length e)

-- nothing is left
pub reads_all : (word v rest : List ℕ) → 0 < length word → AreBytes v → flat_map byte_digits v ++ rest ≡ word
    → length rest ≡ 0 → (b : List ℕ) → (Some v ≡ Some b) ↔ (AreBytes b × (word ≡ hex b))
reads_all word v (x ∷ rest) some small read all b = absurd (omega arith)
reads_all word [] [] some small read all b = absurd (omega (arith, ap length read))
reads_all word (x ∷ v) [] some small read all b =
    let whole : word ≡ hex (x ∷ v) = sym read ∙ append-nil (hex (x ∷ v)) in (
      (λ e. let same : x ∷ v ≡ b = cc in (subst AreBytes same small, whole ∙ ap hex same)),
      (λ is. ap (λ l. Some l) (hex_injective (x ∷ v) b small is.0 (sym whole ∙ is.1))),
    )
