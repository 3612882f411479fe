-- The 512 moves over one bit and the 4,096 over half a byte: each leads along the paths.
use Rattle.std.proofs.Common.{◌≡◌, ℕ, ◌+◌, ◌-◌, ◌*◌, ◌%◌, ◌^◌, ◌==◌, nat_lt, ◌<◌, Bool, true, false, ◌&&◌, List, []}
use Rattle.std.proofs.Common.{◌∷◌, ◌++◌, length, get_or, refl, sym, ◌∙◌, ap, arith}
use Rattle.std.proofs.lemmas.Bool.{and_parts, eqb-true, ltb-true}
use mir.Val.{bool_byte}
use Rattle.octets_code.specs.declared.entries.Move.{Move}
use Rattle.octets_code.specs.declared.entries.Move.TheVariants.{On, Byte, End}
use Rattle.octets_code.specs.declared.tables.bit_moves.TheConstants.{BIT_MOVES}
use Rattle.octets_code.specs.declared.tables.nibble_moves.TheConstants.{NIBBLE_MOVES}
use Rattle.octets_code.specs.Bits.{bits_of}
use Rattle.octets_code.specs.Table.{groups}
use Rattle.octets_code.specs.Codes.{Row, row_of, row_in, code}
use Rattle.octets_code.specs.Moves.{IsMove}
use Rattle.octets_code.specs.States.{row, row_of_state, state_rows, path}
use Rattle.octets_code.proofs.BitLemmas.{bits_of-cat, bits_of-mod}
use Rattle.octets_code.proofs.Fitting.{begins, begins-true, each_passes, passes_at}

-- the move leads from the row r over the n bits of x: as numbers
unfoldable fits_move : ℕ → ℕ → Row → Move → Bool
fits_move n x r (On j) =
    let t = row_of_state j in
    nat_lt j 256 && ((t.len == r.len + n) && (t.number == r.number * 2 ^ n + x))
fits_move n x r (Byte j b) =
    let t = row_of_state j in
    let y = r.number * 2 ^ n + x in
    (nat_lt j 256 && nat_lt b 256)
    && (begins (r.len + n) y b && ((r.len + n == (row_of b).len + t.len) && (y % 2 ^ t.len == t.number)))
fits_move n x r End = begins (r.len + n) (r.number * 2 ^ n + x) 256

fits_move-true : (n x i : ℕ) (m : Move) → x < 2 ^ n → fits_move n x (row_of_state i) m ≡ true
    → IsMove (path i) (bits_of n x) m
unfolding fits_move path
fits_move-true n x i (On j) l h = grind (arith, and_parts, ltb-true, eqb-true, bits_of-cat)
fits_move-true n x i (Byte j b) l h =
    let r = row_of_state i in
    let y = r.number * 2 ^ n + x in
    let first : bits_of (r.len + n) y ≡ code b ++ bits_of (r.len + n - (row_of b).len) y =
    grind (arith, and_parts, begins-true) in
    let last : bits_of (r.len + n - (row_of b).len) y ≡ path j = grind (arith, and_parts, eqb-true, bits_of-mod) in
    let both : (j < 256) × (b < 256) = grind (arith, and_parts, ltb-true) in
    (both.0, both.1, sym (bits_of-cat r.len n r.number x l) ∙ first ∙ ap (λ z. code b ++ z) last)
fits_move-true n x i End l h =
    let r = row_of_state i in
    let y = r.number * 2 ^ n + x in
    (_, sym (bits_of-cat r.len n r.number x l) ∙ begins-true (r.len + n) y 256 h)

-- each state's row has a move over each n bits, which fits
unfoldable fit_row : ℕ → ℕ × List Move → Bool
fit_row n r = (length r.1 == 2 ^ n) && each_passes (λ m. fits_move n m.0 (row_of_state r.0) m.1) r.1

moves_from_fit : (n : ℕ) (rows : List (List Move)) → each_passes (fit_row n) rows ≡ true → length rows ≡ 256
    → (i x : ℕ) (e : List Move) (d : Move) → i < 256 → x < 2 ^ n
    → IsMove (path i) (bits_of n x) (get_or (get_or rows i e) x d)
unfolding fit_row
moves_from_fit n rows h all i x e d il xl =
    let ms = get_or rows i e in
    let fits = λ (m : ℕ × Move). fits_move n m.0 (row_of_state i) m.1 in
    let p = and_parts (length ms == 2 ^ n) (each_passes fits ms) (passes_at (fit_row n) rows i e h (omega arith)) in
    fits_move-true n x i _ xl (passes_at fits ms x d p.1 (omega (arith, eqb-true (length ms) (2 ^ n) p.0)))

bit_moves_fit : each_passes (fit_row 1) BIT_MOVES ≡ true
unfolding fit_row fits_move begins row_of row_in groups row row_of_state state_rows
bit_moves_fit = refl

-- each move over a bit leads from its state's path over that
pub bit_moves_at : (i : ℕ) (b : Bool) (e : List Move) (d : Move) → i < 256
    → IsMove (path i) (b ∷ []) (get_or (get_or BIT_MOVES i e) (bool_byte b) d)
unfolding bits_of
bit_moves_at i true e d h = moves_from_fit 1 BIT_MOVES bit_moves_fit refl i 1 e d h (omega arith)
bit_moves_at i false e d h = moves_from_fit 1 BIT_MOVES bit_moves_fit refl i 0 e d h (omega arith)

nibble_moves_fit : each_passes (fit_row 4) NIBBLE_MOVES ≡ true
unfolding fit_row fits_move begins row_of row_in groups row row_of_state state_rows
nibble_moves_fit = refl

-- each move over half a byte leads from its state's path over its four bits
pub nibble_moves_at : (i x : ℕ) (e : List Move) (d : Move) → i < 256 → x < 16
    → IsMove (path i) (bits_of 4 x) (get_or (get_or NIBBLE_MOVES i e) x d)
nibble_moves_at i x e d h l = moves_from_fit 4 NIBBLE_MOVES nibble_moves_fit refl i x e d h l
