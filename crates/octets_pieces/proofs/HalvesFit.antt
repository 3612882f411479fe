-- The 4,096 entries of the table: each leads along the paths.
use Rattle.std.proofs.Common.{◌≡◌, ℕ, ◌+◌, ◌-◌, ◌*◌, ◌/◌, ◌%◌, ◌^◌, ◌==◌, ◌<◌, Bool, true, ◌&&◌, ◌||◌, ◌++◌}
use Rattle.std.proofs.Common.{get_or, refl, sym, ◌∙◌, ap, inl, inr, arith}
use Rattle.std.proofs.lemmas.Bool.{and_parts, or_cases, eqb-true}
use Rattle.octets_pieces.specs.declared.tables.halves.TheConstants.{HALVES}
use Rattle.octets_code.specs.Bits.{bits_of}
use Rattle.octets_code.specs.Table.{groups}
use Rattle.octets_code.specs.Codes.{row_of, row_in, code}
use Rattle.octets_code.specs.States.{row, row_of_state, state_rows, path}
use Rattle.octets_code.proofs.BitLemmas.{bits_of-cat, bits_of-mod}
use Rattle.octets_code.proofs.Fitting.{begins, begins-true, each_passes, passes_at}
use Rattle.octets_pieces.specs.Pieces.{IsHalf, BeginsEnd}

-- the entry e leads from the state number i over the four bits of x: as numbers
unfoldable fits : ℕ → ℕ → ℕ → Bool
fits i x e =
    let r = row_of_state i in
    let n = r.len + 4 in
    let y = r.number * 2 ^ 4 + x in
    let t = row_of_state (e % 256) in
    let b = e / 256 % 256 in
    ((e / 65536 == 0) && ((t.len == n) && (t.number == y)))
    || (((e / 65536 == 1) && (begins n y b && ((n == (row_of b).len + t.len) && (y % 2 ^ t.len == t.number))))
    || ((e / 65536 == 3) && begins n y 256))

-- no code is completed
fits_on : (i x e : ℕ) → x < 2 ^ 4 → (row_of_state (e % 256)).len ≡ (row_of_state i).len + 4
    → (row_of_state (e % 256)).number ≡ (row_of_state i).number * 2 ^ 4 + x → path (e % 256) ≡ path i ++ bits_of 4 x
unfolding path
fits_on i x e l h k =
    let r = row_of_state i in
    rw (h, k) (bits_of-cat r.len 4 r.number x l)

-- the code of a byte is
fits_byte : (i x e b : ℕ) → x < 2 ^ 4
    → begins ((row_of_state i).len + 4) ((row_of_state i).number * 2 ^ 4 + x) b ≡ true
    → (row_of_state i).len + 4 ≡ (row_of b).len + (row_of_state (e % 256)).len
    → ((row_of_state i).number * 2 ^ 4 + x) % 2 ^ (row_of_state (e % 256)).len ≡ (row_of_state (e % 256)).number
    → path i ++ bits_of 4 x ≡ code b ++ path (e % 256)
unfolding path
fits_byte i x e b l h k m =
    let r = row_of_state i in
    let t = row_of_state (e % 256) in
    let y = r.number * 2 ^ 4 + x in
    let rest : r.len + 4 - (row_of b).len ≡ t.len = omega (arith, k) in
    let last : bits_of (r.len + 4 - (row_of b).len) y ≡ bits_of t.len t.number =
    ap (λ n. bits_of n y) rest ∙ bits_of-mod t.len y ∙ ap (bits_of t.len) m in
    sym (bits_of-cat r.len 4 r.number x l) ∙ begins-true (r.len + 4) y b h ∙ ap (λ z. code b ++ z) last

-- the end code is
fits_end : (i x : ℕ) → x < 2 ^ 4 → begins ((row_of_state i).len + 4) ((row_of_state i).number * 2 ^ 4 + x) 256 ≡ true
    → BeginsEnd (path i ++ bits_of 4 x)
unfolding path
fits_end i x l h =
    let r = row_of_state i in
    (_, sym (bits_of-cat r.len 4 r.number x l) ∙ begins-true (r.len + 4) (r.number * 2 ^ 4 + x) 256 h)

fits-true : (i x e : ℕ) → x < 2 ^ 4 → fits i x e ≡ true
    → IsHalf (path i) (bits_of 4 x) (e % 256) (e / 256 % 256) (e / 65536)
unfolding fits
fits-true i x e l h =
    let below : e % 256 < 256 = omega arith in
    elim (or_cases _ _ h) [
      | inl on ↦
          let p = and_parts (e / 65536 == 0) _ on in
          let q = and_parts _ _ p.1 in
          (below, inl (eqb-true _ _ p.0, fits_on i x e l (eqb-true _ _ q.0) (eqb-true _ _ q.1)))
      | inr more ↦ elim (or_cases _ _ more) [
        | inl byte ↦
            let p = and_parts (e / 65536 == 1) _ byte in
            let q = and_parts _ _ p.1 in
            let r = and_parts _ _ q.1 in (
              below,
              inr (inl (
                eqb-true _ _ p.0,
                omega arith,
                fits_byte i x e (e / 256 % 256) l q.0 (eqb-true _ _ r.0) (eqb-true _ _ r.1),
              )),
            )
        | inr end ↦
            let p = and_parts (e / 65536 == 3) _ end in
            (below, inr (inr (eqb-true _ _ p.0, fits_end i x l p.1)))
      ]
    ]

unfoldable fits_entry : ℕ × ℕ → Bool
fits_entry p = fits (p.0 / 16) (p.0 % 16) p.1

halves_fit : each_passes fits_entry HALVES ≡ true
unfolding fits_entry fits begins row_of row_in groups row row_of_state state_rows
halves_fit = refl

-- each entry leads from its state's path over its four bits
pub half_fits : (i x d : ℕ) → i < 256 → x < 16
    → IsHalf (path i) (bits_of 4 x) (get_or HALVES (i * 16 + x) d % 256) (get_or HALVES (i * 16 + x) d / 256 % 256)
    (get_or HALVES (i * 16 + x) d / 65536)
unfolding fits_entry
half_fits i x d hi hx =
    let place : ℕ = i * 16 + x in
    let state : place / 16 ≡ i = omega arith in
    let half : place % 16 ≡ x = omega arith in
    fits-true i x _ (omega arith) (rw (state, half) at (passes_at fits_entry HALVES place d halves_fit (omega arith)))
