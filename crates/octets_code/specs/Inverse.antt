-- The number of a state, computed from its path.
use Rattle.std.proofs.Common.{◌≡◌, ℕ, zero, suc, ◌+◌, ◌==◌, ◌<◌, Bool, true, false, ◌&&◌}
use Rattle.std.proofs.Common.{List, [], ◌∷◌, length, get_or, if◌then◌else◌, refl, arith}
use Rattle.std.proofs.lemmas.Bool.{and_parts, eqb-true}
use Rattle.octets_code.specs.Bits.{bits_of}
use Rattle.octets_code.specs.Codes.{Row}
use Rattle.octets_code.specs.States.{row, row_of_state, state_rows, path}

-- whether two lists of bits are the same
unfoldable pub same_bits : List Bool → List Bool → Bool
same_bits [] [] = true
same_bits (true ∷ x) (true ∷ y) = same_bits x y
same_bits (false ∷ x) (false ∷ y) = same_bits x y
same_bits _ _ = false

-- the first state from k on with path p
unfoldable pub index_from : List Row → ℕ → List Bool → ℕ
index_from [] k p = k
index_from (r ∷ rs) k p = if same_bits p (bits_of r.len r.number) then k else index_from rs (suc k) p

-- the number of the state with path p
unfoldable pub index_of : List Bool → ℕ
index_of p = index_from state_rows 0 p

-- each entry from number k on is the first one with its bits
unfoldable are_told : List Row → ℕ → Bool
are_told [] k = true
are_told (r ∷ rs) k = (index_of (bits_of r.len r.number) == k) && are_told rs (suc k)

-- the bits of each state determine its number
are_told-rows : are_told state_rows 0 ≡ true
unfolding are_told index_of index_from same_bits bits_of state_rows row
are_told-rows = refl

-- if are_told holds of entries from number k on, the bits of the one at i determine the number i + k
are_told_at : (rs : List Row) (k i : ℕ) (d : Row) → are_told rs k ≡ true → i < length rs
    → index_of (bits_of (get_or rs i d).len (get_or rs i d).number) ≡ i + k
unfolding are_told
are_told_at [] k i d h l = absurd (omega arith)
are_told_at (r ∷ rs) k zero d h l =
    let p = and_parts (index_of (bits_of r.len r.number) == k) (are_told rs (suc k)) h in
    let e : 0 + k ≡ k = omega arith in
    rw e (eqb-true _ _ p.0)
are_told_at (r ∷ rs) k (suc i) d h l =
    let p = and_parts (index_of (bits_of r.len r.number) == k) (are_told rs (suc k)) h in
    let e : suc i + k ≡ i + suc k = omega arith in
    let below : i < length rs = omega arith in
    rw e (are_told_at rs (suc k) i d p.1 below)

-- there are 256 states
pub length-rows : length state_rows ≡ 256
unfolding state_rows
length-rows = refl

-- the path of a state determines its number
pub index_of-path : (i : ℕ) → i < 256 → index_of (path i) ≡ i
unfolding path row_of_state
index_of-path i h =
    let below : i < length state_rows = omega (arith, length-rows) in
    let e : i + 0 ≡ i = omega arith in
    rw e at (are_told_at state_rows 0 i (record { len = 0; number = 0 }) are_told-rows below)
