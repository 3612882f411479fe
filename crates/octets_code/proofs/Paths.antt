-- The paths of the states: one for each, the first eight 0 to 7 ones, and those of at most three bits.
use Rattle.std.proofs.Common.{◌≡◌, ◌↔◌, List, ℕ, ◌*◌, ◌^◌, ◌%◌, ◌<◌, ◌≤◌, nat_eq, nat_lt, ◌&&◌, Bool, true}
use Rattle.std.proofs.Common.{bit_or, slice_index_or, length, refl, sym, ap, arith}
use Rattle.std.proofs.lemmas.Bool.{and_parts, ltb-true, agree_below, agree_below_at}
use Rattle.std.proofs.lemmas.Bool.Decides.{same_from_decides, Decides-at, Decides-like, Decides-and, Decides-eqb}
use Rattle.std.proofs.lemmas.Bool.Decides.{Decides-ltb}
use Rattle.std.specs.Cmp.{booleans_Decides}
use mathlib.Core.Bool.{beq}
use lib.Pointwise.{pointwise, pointwise_decides}
use Rattle.octets_code.specs.declared.tables.fronts.TheConstants.{FRONTS}
use Rattle.octets_code.specs.Bits.{bits_of}
use Rattle.octets_code.specs.Inverse.{index_of-path}
use Rattle.octets_code.specs.States.{row, row_of_state, state_rows, path}
use Rattle.octets_code.specs.Steps.{IsFill}
use Rattle.octets_code.specs.Texts.{ones}

-- the test of two paths holds exactly where they are one
pub same_path : (p q : List Bool) → (pointwise beq p q ≡ true) ↔ (p ≡ q)
same_path p q = pointwise_decides booleans_Decides p q

-- two states whose paths are the same are one
pub path_injective : (i j : ℕ) → i < 256 → j < 256 → path i ≡ path j → i ≡ j
path_injective i j hi hj e = rw (← index_of-path i hi, e, index_of-path j hj)

-- the numbers of two states are equal exactly if their paths are
pub same_paths : (i j : ℕ) → i < 256 → j < 256 → nat_eq i j ≡ pointwise beq (path i) (path j)
same_paths i j hi hj = same_from_decides _ _ (Decides-eqb i j)
    (Decides-like _ (path_injective i j hi hj) (λ e. ap path e) (same_path (path i) (path j)))

-- whether bits are 0 to 7 ones
unfoldable pub fill_test : List Bool → Bool
fill_test p = nat_lt (length p) 8 && pointwise beq p (ones (length p))

pub fill_decides : (p : List Bool) → (fill_test p ≡ true) ↔ IsFill p
unfolding fill_test
fill_decides p = Decides-and _ _ (Decides-ltb (length p) 8) (same_path p (ones (length p)))

fills_are : agree_below (λ i. fill_test (path i)) (λ i. nat_lt i 8) 256 ≡ true
unfolding fill_test path row_of_state state_rows row bits_of
fills_are = refl

-- the paths of the first eight states are 0 to 7 ones, and no other is
pub fill_at : (i : ℕ) → i < 256 → (nat_lt i 8 ≡ true) ↔ IsFill (path i)
fill_at i h = Decides-at _ _ (sym (agree_below_at (λ i. fill_test (path i)) (λ i. nat_lt i 8) 256 i fills_are h))
    (fill_decides (path i))

-- where the table has the state of the n bits of b
abbrev place : ℕ → ℕ → ℕ
place n b = bit_or (1 * 2 ^ n % 256) b

unfoldable is_front : ℕ → ℕ → Bool
is_front n b = let i = slice_index_or FRONTS (place n b) 0 in
    nat_lt (place n b) 16 && (nat_lt i 256 && pointwise beq (path i) (bits_of n b))

unfoldable fronts_of : ℕ → Bool
fronts_of n = agree_below (is_front n) (λ b. true) (2 ^ n)

fronts_are : agree_below fronts_of (λ n. true) 4 ≡ true
unfolding fronts_of is_front path row_of_state state_rows row bits_of
fronts_are = refl

-- the table has the state of each list of at most three bits
pub front_at : (n b : ℕ) → n ≤ 3 → b < 2 ^ n → (place n b < 16) × (slice_index_or FRONTS (place n b) 0 < 256)
    × (path (slice_index_or FRONTS (place n b) 0) ≡ bits_of n b)
unfolding fronts_of is_front
front_at n b h l =
    let each : fronts_of n ≡ true = agree_below_at fronts_of (λ n. true) 4 n fronts_are (omega arith) in
    let one : is_front n b ≡ true = agree_below_at (is_front n) (λ b. true) (2 ^ n) b each l in
    grind (arith, and_parts, ltb-true, same_path)
