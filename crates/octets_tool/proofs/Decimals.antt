-- Words that spell a number in decimal.
use Rattle.std.proofs.Common.{◌≡◌, ◌≢◌, ◌↔◌, ℕ, ◌^◌, ◌<◌, ◌≤◌, List, length, Option, get_or, Some, None, Result, Ok}
use Rattle.std.proofs.Common.{Err, ap, sym, ◌∙◌, arith, ◌/◌, ◌%◌, Bool, true, false, ◌&&◌, nat_lt, eqb, [], ◌∷◌}
use Rattle.std.proofs.Common.{flat_map, codes, refl}
use Rattle.std.specs.List.{slice_get, All, list_all}
use Rattle.std.specs.Result.{result_ok, MatchResult}
use Rattle.std.specs.Fmt.{decimal}
use Rattle.std.specs.Borrow.{Bor}
use Rattle.std.specs.Str.{IsUtf8, IsAscii}
use Rattle.std.proofs.lemmas.Grind.{common_steps}
use Rattle.std.proofs.lemmas.Str.{IsUtf8-from_ascii}
use Rattle.std.proofs.lemmas.Fmt.{IsAscii-decimal, decimal_digit, first_decimal, decimal_nonempty, digits_decimal}
use Rattle.std.proofs.lemmas.Fmt.{decimal-digits_value, parse-decimal}
use Rattle.std.specs.Str.Parse.{AllDigits, digits_value, ParsesUnsigned}
use Rattle.std.proofs.lemmas.Bool.{cases_eq, ltb-true, cases_lt, and_parts, agree_below_at}
use Rattle.std.proofs.lemmas.Option.{slice_get_within, get_or_from_slice_get, slice_get-get_or}
use Rattle.std.proofs.lemmas.Str.Parse.{IsNumeralModel, numerals_by_value, tells_digits, digit_at, parse_plain}
use Rattle.std.proofs.lemmas.List.Sums.{AllPass-from_list_all}
use Rattle.std.proofs.lemmas.List.{get_or_past}
use Rattle.std.proofs.lemmas.Bool.Decides.{nat_tests}
use Rattle.std.proofs.lemmas.List.Elements.{All-nil, All-cons, All-tail, All-head, All-from_get_or}
use Rattle.octets.specs.Bytes.{AreBytes}
use Rattle.octets_tool.specs.Lines.{hex, hex_digit, byte_digits}

-- decimal digits and their value, as std's lemmas of numerals take them
pub own : IsNumeralModel (AllDigits 10) (digits_value 10)
own = numerals_by_value (AllDigits 10) tells_digits

-- a decimal has a first byte
pub no_decimal_empty : (n : ℕ) (word : List ℕ) → n < 2 ^ 64 → word ≡ decimal n → slice_get word 0 ≡ None → ⊥
no_decimal_empty n word small e none =
    (let there = sym none ∙ slice_get-get_or word 0 0 (omega (arith, decimal_nonempty n small, ap length e)) in cc)

-- the first byte is a digit, and `0` only if it is the whole word
pub first_of_decimal : (n : ℕ) (word : List ℕ) (f : ℕ) → n < 2 ^ 64 → word ≡ decimal n → slice_get word 0 ≡ Some f
    → (48 ≤ f) × (f ≤ 57) × (f ≡ 48 → length word ≡ 1)
first_of_decimal n word f small e there =
    let first : get_or word 0 0 ≡ f = get_or_from_slice_get word 0 f 0 there in
    let range =
    digit_at word 0 (rw e (digits_decimal own n small)) (slice_get_within word 0 f there) in
    let alone : f ≡ 48 → length word ≡ 1 = grind (arith, common_steps, cases_eq, decimal_digit, first_decimal) in
    (omega (arith, range, first), omega (arith, range, first), alone)

-- what `parse` reads of a word with no sign and no leading zero
pub number_parsed : {E : Type 0} (word : List ℕ) (r : Result ℕ E) (f : ℕ) → ParsesUnsigned 64 10 word r
    → slice_get word 0 ≡ Some f → f ≢ 43 → (f ≡ 48 → length word ≤ 1)
    → (n : ℕ) → (result_ok r ≡ Some n) ↔ ((n < 2 ^ 64) × (word ≡ decimal n))
number_parsed {E} word (Ok m) f parses there unsigned unpadded n =
    let some : 0 < length word = slice_get_within word 0 f there in
    let first : get_or word 0 0 ≡ f = get_or_from_slice_get word 0 f 0 there in
    let plain : get_or word 0 0 ≢ 43 = λ e. unsigned (sym first ∙ e) in
    let reads : (AllDigits 10 word × (0 < length word) × (digits_value 10 word < 2 ^ 64)) × (m ≡ digits_value 10 word) =
    parse_plain own {E = E} 64 word (Ok m) parses plain in
    let alone : get_or word 0 0 ≡ 48 → length word ≡ 1 = grind (arith, common_steps) in
    let spelled : decimal (digits_value 10 word) ≡ word =
    decimal-digits_value own word reads.0.0 some alone reads.0.2 in (
      (λ e. let same : digits_value 10 word ≡ n = sym reads.1 ∙ (cc) in
          (rw same at reads.0.2, sym spelled ∙ ap decimal same)),
      (λ is. ap (result_ok {T = ℕ} {E = E}) (parse-decimal {E = E} 64 n word (Ok m) is.0 is.0 is.1 parses)),
    )
number_parsed {E} word (Err x) f parses there unsigned unpadded n =
    ((λ e. cc), (λ is. ap (result_ok {T = ℕ} {E = E}) (parse-decimal {E = E} 64 n word (Err x) is.0 is.0 is.1 parses)))

-- what `from_utf8` reads
pub as_text : {E : Type 0} (r : Result (Bor (List ℕ)) E) (s : Bor (List ℕ)) (word : List ℕ) (Q : E → Type 0)
    → MatchResult r (λ t. (t.now ≡ word) × IsUtf8 word) (λ e. (¬ IsUtf8 word) × Q e)
    → Some s ≡ result_ok r → s.now ≡ word
as_text {E} (Ok t) s word Q is e = let same : s ≡ t = cc in rw (same, is.0)
as_text {E} (Err x) s word Q is e = cc

-- where `from_utf8` reads nothing the word is no UTF-8
pub no_text : {E : Type 0} (r : Result (Bor (List ℕ)) E) (word : List ℕ) (Q : E → Type 0)
    → MatchResult r (λ t. (t.now ≡ word) × IsUtf8 word) (λ e. (¬ IsUtf8 word) × Q e)
    → ◌≡◌ {A = Option (Bor (List ℕ))} None (result_ok r) → IsUtf8 word → ⊥
no_text {E} (Ok t) word Q is e utf = cc
no_text {E} (Err x) word Q is e utf = is.0 utf

-- a decimal is UTF-8
pub IsUtf8-decimal : (n : ℕ) (word : List ℕ) → n < 2 ^ 64 → word ≡ decimal n → IsUtf8 word
IsUtf8-decimal n word small e = IsUtf8-from_ascii word (rw e (IsAscii-decimal n small))

-- at a reader of a decimal
pub ruleset decimals = (no_decimal_empty, first_of_decimal, as_text, number_parsed)

-- The words of numbers and bytes hold no space.

-- a byte of ASCII above the space
abbrev pub Plain : ℕ → Type 0
Plain b = (32 < b) × (b < 128)

-- the test of it
abbrev pub is_plain : ℕ → Bool
is_plain b = nat_lt 32 b && nat_lt b 128

-- a word that passes the test is plain
pub plain_from_test : (l : List ℕ) → list_all is_plain l ≡ true → All Plain l
plain_from_test l e = grind (arith, and_parts, AllPass-from_list_all, is_plain, ltb-true)

-- a decimal is plain
pub decimal-plain : (n : ℕ) → n < 2 ^ 64 → All Plain (decimal n)
decimal-plain n small = All-from_get_or Plain (decimal n) 0 (λ i h.
    (let range = digit_at (decimal n) i (digits_decimal own n small) h in (omega (arith, range), omega (arith, range))))

digit-plain : (d : ℕ) → d < 16 → Plain (hex_digit d)
digit-plain d small =
    let test = agree_below_at (λ k. is_plain (hex_digit k)) (λ k. true) 16 d refl small in
    grind (arith, nat_tests, test)

digits-plain : (b : List ℕ) → AreBytes b → All Plain (flat_map byte_digits b)
digits-plain [] are = All-nil Plain
digits-plain (x ∷ b) are =
    let small = All-head (λ b. b < 256) x b are in
    let more = digits-plain b (All-tail (λ b. b < 256) x b are) in
    let high = digit-plain (x / 16) (omega arith) in
    let low = digit-plain (x % 16) (omega arith) in
    grind (arith, All-cons, more, high, low)

-- and so is the word of bytes
pub hex-plain : (b : List ℕ) → AreBytes b → All Plain (hex b)
hex-plain [] are = plain_from_test (codes "-") refl
hex-plain (x ∷ b) are = digits-plain (x ∷ b) are

-- plain words hold no space, and no byte below it
pub free : (x : ℕ) → x ≤ 32 → (w : List ℕ) → All Plain w → All (λ b. eqb b x ≡ false) w
free x low w plain = λ k d h. (let p = plain k d h in grind (arith, nat_tests))

-- plain words are ASCII
pub ascii : (w : List ℕ) → All Plain w → IsAscii w
ascii w plain i = grind (arith, cases_lt, get_or_past)
