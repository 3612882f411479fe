-- The 992 symbols by their ones, each against its code.
use Rattle.std.proofs.Common.{◌≡◌, ℕ, ◌+◌, ◌-◌, ◌*◌, ◌/◌, ◌%◌, ◌^◌, ◌==◌, nat_lt, ◌<◌, ◌≤◌, Bool, true, ◌&&◌, ◌||◌}
use Rattle.std.proofs.Common.{length, get_or, nat_le, inl, inr, refl, sym, ◌∙◌, arith}
use Rattle.std.proofs.lemmas.Bool.{and_parts, eqb-true, ltb-true, leb-true, or_cases}
use Rattle.octets_code.specs.declared.tables.symbols.TheConstants.{SYMBOLS}
use Rattle.octets_code.specs.Table.{groups}
use Rattle.octets_code.specs.Bits.{bits_of}
use Rattle.octets_code.specs.Codes.{row_of, row_in, code}
use Rattle.octets_code.specs.Looks.{BeginsWithCode}
use Rattle.octets_code.proofs.BitLemmas.{length-bits_of}
use Rattle.octets_code.proofs.Fitting.{begins, begins-true, each_passes, passes_at}

-- the entry for n one bits and the five bits m is a byte and the length of its code, or the end code
abbrev pub IsEntry : ℕ → ℕ → ℕ → Type 0
IsEntry n m e =
    (e / 32 < 256 → (n < 30) × (e % 32 ≡ length (code (e / 32)))
    × BeginsWithCode (bits_of (n + 6) ((2 ^ n - 1) * 64 + m)) (e / 32))
    × (256 ≤ e / 32 → n ≡ 30)

-- the same as a test on numbers
unfoldable is_entry : ℕ → ℕ → ℕ → Bool
is_entry n m e = (nat_le 256 (e / 32) && (n == 30)) || ((nat_lt (e / 32) 256 && nat_lt n 30)
    && ((e % 32 == (row_of (e / 32)).len) && begins (n + 6) ((2 ^ n - 1) * 64 + m) (e / 32)))

is_entry-true : (n m e : ℕ) → is_entry n m e ≡ true → IsEntry n m e
unfolding is_entry code
is_entry-true n m e h = elim (or_cases _ _ h) [
  | inl end ↦
      let p = and_parts (nat_le 256 (e / 32)) (n == 30) end in
      ((λ byte. absurd (omega (arith, leb-true _ _ p.0))), (λ over. eqb-true _ _ p.1))
  | inr byte ↦
      let p = and_parts _ _ byte in
      let q = and_parts (nat_lt (e / 32) 256) (nat_lt n 30) p.0 in
      let r = and_parts _ _ p.1 in
      let len = eqb-true _ _ r.0 ∙ sym (length-bits_of (row_of (e / 32)).len (row_of (e / 32)).number) in (
        (λ below. (ltb-true _ _ q.1, len, (_, begins-true _ _ _ r.1))),
        (λ over. absurd (omega (arith, ltb-true _ _ q.0))),
      )
]

unfoldable fits_entry : ℕ × ℕ → Bool
fits_entry p = is_entry (p.0 / 32) (p.0 % 32) p.1

symbols_fit : each_passes fits_entry SYMBOLS ≡ true
unfolding fits_entry is_entry begins row_of row_in groups
symbols_fit = refl

pub symbol_fits : (n m : ℕ) → n ≤ 30 → m < 32 → IsEntry n m (get_or SYMBOLS (n * 32 + m) 0)
unfolding fits_entry
symbol_fits n m hn hm =
    let i : ℕ = n * 32 + m in
    let row : i / 32 ≡ n = omega arith in
    let column : i % 32 ≡ m = omega arith in
    is_entry-true n m _ (rw (row, column) at (passes_at fits_entry SYMBOLS i 0 symbols_fit (omega arith)))
