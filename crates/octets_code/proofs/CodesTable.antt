-- The constant tables of codes and of their lengths are the table of specs/.
use Rattle.std.proofs.Common.{◌≡◌, ℕ, ◌==◌, nat_le, nat_lt, ◌^◌, ◌<◌, ◌≤◌, Bool, true, ◌&&◌, length, get_or, refl, sym}
use Rattle.std.proofs.Common.{◌∙◌, arith}
use Rattle.std.proofs.lemmas.Bool.{and_parts, eqb-true, leb-true, ltb-true, agree_below, agree_below_at}
use Rattle.octets_code.specs.declared.entries.Code.{Code}
use Rattle.octets_code.specs.declared.tables.codes.TheConstants.{CODES}
use Rattle.octets_code.specs.declared.tables.lengths.TheConstants.{CODE_LENGTHS}
use Rattle.octets_code.specs.Table.{groups}
use Rattle.octets_code.specs.Codes.{row_of, row_in, code}
use Rattle.octets_code.proofs.BitLemmas.{length-bits_of}

-- the code of the symbol s in the constant table
abbrev pub entry : ℕ → Code
entry s = get_or CODES s (record { len = 0; bits = 0 })

-- it is that of its row in the table of specs/, 5 to 30 bits long
unfoldable is_row : ℕ → Bool
is_row s = let c = entry s in
    let r = row_of s in
    ((c.len == r.len) && (c.bits == r.number)) && (nat_le 5 c.len && (nat_le c.len 30 && nat_lt c.bits (2 ^ c.len)))

are_rows-codes : agree_below is_row (λ s. true) 257 ≡ true
unfolding is_row row_of row_in groups
are_rows-codes = refl

-- the constant table has the row of each symbol at its place, 5 to 30 bits long
pub codes_at : (s : ℕ) → s ≤ 256 → ((entry s).len ≡ (row_of s).len) × ((entry s).bits ≡ (row_of s).number)
    × ((5 ≤ (entry s).len) × ((entry s).len ≤ 30) × ((entry s).bits < 2 ^ (entry s).len))
unfolding is_row
codes_at s h =
    let ok : is_row s ≡ true = agree_below_at is_row (λ s. true) 257 s are_rows-codes (omega arith) in
    grind (arith, and_parts, eqb-true, leb-true, ltb-true)

unfoldable is_length : ℕ → Bool
is_length b = get_or CODE_LENGTHS b 0 == (row_of b).len

lengths_are : agree_below is_length (λ b. true) 256 ≡ true
unfolding is_length row_of row_in groups
lengths_are = refl

-- the constant table of lengths has the length of each byte's code at its place
pub length_at : (b : ℕ) → b < 256 → (get_or CODE_LENGTHS b 0 ≡ length (code b))
    × ((5 ≤ get_or CODE_LENGTHS b 0) × (get_or CODE_LENGTHS b 0 ≤ 30))
unfolding is_length code
length_at b h =
    let same : get_or CODE_LENGTHS b 0 ≡ (row_of b).len =
    eqb-true _ _ (agree_below_at is_length (λ b. true) 256 b lengths_are h) in
    let row = codes_at b (omega arith) in
    (same ∙ sym (length-bits_of (row_of b).len (row_of b).number), (omega (arith, same, row), omega (arith, same, row)))
