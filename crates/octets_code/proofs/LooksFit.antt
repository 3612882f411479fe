-- The 4,096 entries of the lookup table, each checked against the codes.
use Rattle.std.proofs.Common.{◌≡◌, ℕ, ◌-◌, ◌*◌, ◌/◌, ◌%◌, ◌^◌, ◌==◌, nat_lt, nat_le, ◌<◌, Bool}
use Rattle.std.proofs.Common.{true, ◌&&◌, ◌||◌, List, [], ◌∷◌, ◌++◌, length, get_or, refl, subst}
use Rattle.std.proofs.Common.{arith, append_assoc, inl, inr}
use Rattle.std.specs.List.{zip}
use Rattle.std.proofs.lemmas.Grind.{common_steps}
use Rattle.std.proofs.lemmas.Bool.{and_parts, eqb-true, ltb-true, leb-true, or_cases}
use Rattle.std.proofs.lemmas.Slice.Zip.{get_or-zip}
use Rattle.octets_code.specs.declared.tables.looks.TheConstants.{CUTS, PAIRS}
use Rattle.octets_code.specs.Table.{groups}
use Rattle.octets_code.specs.Bits.{bits_of}
use Rattle.octets_code.specs.Codes.{row_of, row_in, code}
use Rattle.octets_code.specs.Texts.{codes}
use Rattle.octets_code.specs.Looks.{IsLook, bytes_of_look}
use Rattle.octets_code.specs.Steps.{IsOpen}
use Rattle.octets_code.proofs.Walks.{completes_none, completes_none-true, first, moved}
use Rattle.octets_code.proofs.BitLemmas.{length-bits_of}
use Rattle.octets_code.proofs.Fitting.{begins, begins-true, each_passes, passes_at}

-- the n bits of x begin with the codes of these bytes, of len bits in all: as numbers
unfoldable begin_codes : ℕ → ℕ → List ℕ → ℕ → Bool
begin_codes n x [] len = len == 0
begin_codes n x (b ∷ v) len =
    let l = (row_of b).len in
    (begins n x b && nat_le l len) && begin_codes (n - l) x v (len - l)

begin_codes-true : (n x : ℕ) (v : List ℕ) (len : ℕ) → begin_codes n x v len ≡ true
    → (length (codes v) ≡ len) × (bits_of n x ≡ codes v ++ bits_of (n - len) x)
unfolding begin_codes codes code
begin_codes-true n x [] len h = grind (arith, eqb-true)
begin_codes-true n x (b ∷ v) len h =
    let l = (row_of b).len in
    let p = and_parts (begins n x b && nat_le l len) (begin_codes (n - l) x v (len - l)) h in
    let q = and_parts (begins n x b) (nat_le l len) p.0 in
    let w = begin_codes-true (n - l) x v (len - l) p.1 in
    grind (arith, common_steps, q, leb-true, begins-true, append_assoc, length-bits_of)

-- a lookup at x finds at most two codes; if it finds fewer, the bits that are left complete no code
unfoldable fits_look : ℕ × (ℕ × ℕ) → Bool
fits_look l =
    let x = l.0 in
    let cut = l.1.0 in
    (nat_le (cut / 64) 2 && nat_lt l.1.1 (2 ^ (8 * (cut / 64))))
    && (begin_codes 12 x (bytes_of_look cut l.1.1) (cut % 64)
    && (nat_le 2 (cut / 64) || completes_none (bits_of (12 - cut % 64) x)))

looks_fit : each_passes fits_look (zip CUTS PAIRS) ≡ true
unfolding fits_look begin_codes begins row_of row_in groups completes_none first moved bits_of
looks_fit = refl

-- so they contain no complete code
left_open : (x cut : ℕ) → (nat_le 2 (cut / 64) || completes_none (bits_of (12 - cut % 64) x)) ≡ true
    → cut / 64 < 2 → IsOpen (bits_of (12 - cut % 64) x)
left_open x cut h fewer = elim (or_cases (nat_le 2 (cut / 64)) _ h) [
  | inl two ↦ absurd (omega (arith, leb-true 2 (cut / 64) two))
  | inr none ↦ completes_none-true _ none
]

fits_look-true : (x cut pair : ℕ) → x < 4096 → fits_look (x, (cut, pair)) ≡ true → IsLook (bits_of 12 x) cut pair
unfolding fits_look
fits_look-true x cut pair h ok =
    let p = and_parts _ _ ok in
    let q = and_parts _ _ p.0 in
    let r = and_parts _ _ p.1 in
    let w = begin_codes-true 12 x (bytes_of_look cut pair) (cut % 64) r.0 in
    record {
      few = leb-true _ _ q.0;
      small = ltb-true _ _ q.1;
      len = w.0;
      rest = bits_of (12 - cut % 64) x;
      parts = w.1;
      all = left_open x cut r.1;
      none = λ e. subst (λ n. IsOpen (bits_of n x)) (omega (arith, e)) (left_open x cut r.1 (omega (arith, e)));
    }

pub look_fits : (i : ℕ) → i < 4096 → IsLook (bits_of 12 i) (get_or CUTS i 0) (get_or PAIRS i 0)
look_fits i h = fits_look-true i _ _ h
    (rw (get_or-zip CUTS PAIRS i (0, 0) h h) at (passes_at fits_look (zip CUTS PAIRS) i (0, 0) looks_fit h))
