-- The definitions on values that were calculated manually, or that RFC 7541, Appendix C, has.
use Rattle.std.proofs.Common.{◌≡◌, ℕ, nat_lt, ◌&&◌, ◌+◌, ◌/◌, ◌<◌, ◌≤◌, Bool, true, false, List, [], ◌∷◌, ◌++◌}
use Rattle.std.proofs.Common.{length, refl, arith, inl, inr}
use Rattle.std.specs.Prelude.{codes as ascii}
use Rattle.std.proofs.lemmas.Bool.Decides.{Decides-by_and, Decides-ltb}
use Rattle.octets_code.specs.Bits.{bits_of, value_of}
use Rattle.octets_code.specs.Table.{groups}
use Rattle.octets_code.specs.Codes.{row_of, row_in, code}
use Rattle.octets_code.specs.Steps.{IsOpen, IsFill}
use Rattle.octets_code.specs.Texts.{bits, codes, ones, AreBytes, bytes_of, text, lower_byte, lower}
use Rattle.octets_code.specs.Answers.{IsFault, IsRefusedSymbol, IsAnswer, IsRefusal, AreSteps}
use Rattle.octets_code.proofs.TextLemmas.{open_no_code}
use Rattle.octets_code.proofs.TextOf.{text_is_text}
use Rattle.octets_code.proofs.Faults.{fault_from_read, refused_at_end, refused_in_fault}

texts : (text (ascii "www.example.com")
    ≡ 0xf1 ∷ 0xe3 ∷ 0xc2 ∷ 0xe5 ∷ 0xf2 ∷ 0x3a ∷ 0x6b ∷ 0xa0 ∷ 0xab ∷ 0x90 ∷ 0xf4 ∷ 0xff ∷ [])
    × (text (lower (ascii "WWW.EXAMPLE.COM")) ≡ text (ascii "www.example.com"))
    × (text (ascii "no-cache") ≡ 0xa8 ∷ 0xeb ∷ 0x10 ∷ 0x64 ∷ 0x9c ∷ 0xbf ∷ [])
    × (text (ascii "custom-key") ≡ 0x25 ∷ 0xa8 ∷ 0x49 ∷ 0xe9 ∷ 0x5b ∷ 0xa9 ∷ 0x7d ∷ 0x7f ∷ [])
    × (text (ascii "custom-value") ≡ 0x25 ∷ 0xa8 ∷ 0x49 ∷ 0xe9 ∷ 0x5b ∷ 0xb8 ∷ 0xe8 ∷ 0xb4 ∷ 0xbf ∷ [])
    × (text (0x00 ∷ []) ≡ 0xff ∷ 0xc7 ∷ [])
    × (text (0x0a ∷ []) ≡ 0xff ∷ 0xff ∷ 0xff ∷ 0xf3 ∷ [])
    × (text (ascii "aaaaaaaa    ") ≡ 0x18 ∷ 0xc6 ∷ 0x31 ∷ 0x8c ∷ 0x63 ∷ 0x51 ∷ 0x45 ∷ 0x14 ∷ [])
unfolding text codes code bits_of row_of row_in groups bytes_of value_of lower lower_byte
texts = (refl, refl, refl, refl, refl, refl, refl, refl)

-- a Bool test of bytes
unfoldable bytes_test : List ℕ → Bool
bytes_test [] = true
bytes_test (b ∷ bs) = nat_lt b 256 && bytes_test bs

bytes_from_test : (v : List ℕ) → bytes_test v ≡ true → AreBytes v
unfolding bytes_test
bytes_from_test v =
    (Decides-by_and (λ b. nat_lt b 256) (λ b. b < 256) bytes_test (λ b. Decides-ltb b 256) refl (λ b bs. refl) v).0

-- values of texts

answer : (v : List ℕ) (m : ℕ) → bytes_test v ≡ true → length v ≤ m → IsAnswer (text v) m v
answer v m b h = (bytes_from_test v b, h, text_is_text v)

-- three ones of fill, seven, or four
answer-a : (m : ℕ) → 1 ≤ m → IsAnswer (0x1f ∷ []) m (ascii "a")
unfolding bytes_test text codes code bits_of row_of row_in groups bytes_of value_of
answer-a m h = answer (ascii "a") m refl h

answer-aaaaa : (m : ℕ) → 5 ≤ m → IsAnswer (0x18 ∷ 0xc6 ∷ 0x31 ∷ 0xff ∷ []) m (ascii "aaaaa")
unfolding bytes_test text codes code bits_of row_of row_in groups bytes_of value_of
answer-aaaaa m h = answer (ascii "aaaaa") m refl h

answer-test : (m : ℕ) → 15 ≤ m → IsAnswer
    (0x00 ∷ 0x85 ∷ 0xf2 ∷ 0xb2 ∷ 0x4a ∷ 0x84 ∷ 0xff ∷ 0x83 ∷ 0x49 ∷ 0x50 ∷ 0x9f ∷ []) m (ascii "022*-test?atest")
unfolding bytes_test text codes code bits_of row_of row_in groups bytes_of value_of
answer-test m h = answer (ascii "022*-test?atest") m refl h

-- failures at the end, without a fault

refused : (v : List ℕ) (rest : List Bool) (m : ℕ) → bytes_test v ≡ true → length v ≤ m
    → bits (bytes_of (codes v ++ rest)) ≡ codes v ++ rest → IsOpen rest → ¬ IsFill rest
    → IsRefusal (bytes_of (codes v ++ rest)) m (length (bytes_of (codes v ++ rest)))
refused v rest m b h e open_path other =
    refused_at_end (bytes_of (codes v ++ rest)) m v rest (bytes_from_test v b) h e (open_no_code rest open_path) other

-- a fill of zeros
refused-zeros : (m : ℕ) → 15 ≤ m
    → IsRefusal (0x00 ∷ 0x85 ∷ 0xf2 ∷ 0xb2 ∷ 0x4a ∷ 0x84 ∷ 0xff ∷ 0x83 ∷ 0x49 ∷ 0x50 ∷ 0x90 ∷ []) m 11
unfolding bytes_test bits codes code bits_of row_of row_in groups bytes_of value_of
refused-zeros m h =
    let rest : List Bool = false ∷ false ∷ false ∷ false ∷ [] in
    refused (ascii "022*-test?atest") rest m refl h refl (48, false ∷ [], omega arith, (λ e. cc), refl)
    (λ f. let e : rest ≡ ones 4 = f.1 in cc)

-- twelve ones
refused-twelve_ones : (m : ℕ) → 15 ≤ m
    → IsRefusal (0x00 ∷ 0x85 ∷ 0xf2 ∷ 0xb2 ∷ 0x4a ∷ 0x84 ∷ 0xff ∷ 0x84 ∷ 0x49 ∷ 0x50 ∷ 0x9f ∷ 0xff ∷ []) m 12
unfolding bytes_test bits codes code bits_of row_of row_in groups bytes_of value_of
refused-twelve_ones m h =
    refused (ascii "022*-test?ctest") (ones 12) m refl h refl (256, ones 18, omega arith, (λ e. cc), refl)
    (λ f. omega (arith, f.0))

-- eight ones
refused-eight_ones : (m : ℕ) → IsRefusal (0xff ∷ []) m 1
unfolding bytes_test bits codes code bits_of row_of row_in groups bytes_of value_of
refused-eight_ones m =
    refused [] (ones 8) m refl (omega arith) refl (256, ones 22, omega arith, (λ e. cc), refl)
    (λ f. omega (arith, f.0))

-- faults

-- the fault ends after e bits, a decode that fails has passed so many bytes, and a decode takes so many steps
abbrev IsTold : List ℕ → ℕ → ℕ → ℕ → ℕ → Type 0
IsTold t m e passed steps = IsFault (bits t) m e × IsRefusal t m passed × AreSteps t m steps

fault : (v : List ℕ) (symbol : ℕ) (rest : List Bool) (m : ℕ) → bytes_test v ≡ true → symbol ≤ 256 → length v ≤ m
    → IsRefusedSymbol m (length v) symbol
    → bits (bytes_of (codes v ++ (code symbol ++ rest))) ≡ codes v ++ (code symbol ++ rest)
    → (e : ℕ) → e ≡ length (codes v) + length (code symbol)
    → IsTold (bytes_of (codes v ++ (code symbol ++ rest))) m e ((e + 7) / 8) ((e + 3) / 4)
fault v symbol rest m b s h refused parts e ends =
    let t = bytes_of (codes v ++ (code symbol ++ rest)) in
    let f = fault_from_read (bits t) m e (
      v,
      record {
        symbol = symbol;
        rest = rest;
        bytes = bytes_from_test v b;
        is_symbol = s;
        within = h;
        refused = refused;
        parts = parts;
        ends = ends;
      },
    ) in
    (f, refused_in_fault t m e f, inl (e, f, refl))

-- the end code ends at the bit 109, under each limit that holds the fourteen symbols before it
fault-end_code : (m : ℕ) → 14 ≤ m → IsTold
    (0x00 ∷ 0x85 ∷ 0xf2 ∷ 0xb2 ∷ 0x4a ∷ 0x84 ∷ 0xff ∷ 0x87 ∷ 0x49 ∷ 0x51 ∷ 0xff ∷ 0xff ∷ 0xff ∷ 0xfa ∷ 0x7f ∷ [])
    m 109 14 28
unfolding bytes_test bits codes code bits_of row_of row_in groups bytes_of value_of
fault-end_code m h = fault (ascii "022*-test?otes") 256 (false ∷ true ∷ false ∷ false ∷ true ∷ ones 6) m refl
    (omega arith) h (inr refl) refl 109 refl

-- the fifth symbol ends at the bit 29, under the limit 4
fault-fifth : IsTold
    (0x00 ∷ 0x85 ∷ 0xf2 ∷ 0xb2 ∷ 0x4a ∷ 0x84 ∷ 0xff ∷ 0x87 ∷ 0x49 ∷ 0x51 ∷ 0xff ∷ 0xff ∷ 0xff ∷ 0xfa ∷ 0x7f ∷ [])
    4 29 4 8
unfolding bytes_test bits codes code bits_of row_of row_in groups bytes_of value_of
fault-fifth =
    let rest : List ℕ = 0x4a ∷ 0x84 ∷ 0xff ∷ 0x87 ∷ 0x49 ∷ 0x51 ∷ 0xff ∷ 0xff ∷ 0xff ∷ 0xfa ∷ 0x7f ∷ [] in
    fault (ascii "022*") 45 (bits_of 3 2 ++ bits rest) 4 refl (omega arith) (omega arith) (inl refl) refl 29 refl

-- the end code first, which ends at the bit 30
fault-end_code_first : (m : ℕ) → IsTold (0xff ∷ 0xff ∷ 0xff ∷ 0xff ∷ 0x00 ∷ []) m 30 4 8
unfolding bytes_test bits codes code bits_of row_of row_in groups bytes_of value_of
fault-end_code_first m =
    fault [] 256 (true ∷ true ∷ bits (0x00 ∷ [])) m refl (omega arith) (omega arith) (inr refl) refl 30 refl

-- one symbol under the limit 0
fault-a : IsTold (0x1f ∷ []) 0 5 1 2
unfolding bytes_test bits codes code bits_of row_of row_in groups bytes_of value_of
fault-a = fault [] 97 (ones 3) 0 refl (omega arith) (omega arith) (inl refl) refl 5 refl
