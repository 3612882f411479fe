-- Laws of codes that are joined, and how long they are.
use Rattle.std.proofs.Common.{◌≡◌, ℕ, ◌*◌, ◌≤◌, List, [], ◌∷◌, ◌++◌, length, refl, arith, length-append, append_assoc}
use Rattle.std.proofs.Common.{append-nil}
use Rattle.std.proofs.lemmas.List.Elements.{All-head, All-tail}
use Rattle.octets_code.specs.Codes.{row_of, code}
use Rattle.octets_code.specs.Texts.{codes, AreSymbols}
use Rattle.octets_code.proofs.BitLemmas.{length-bits_of}
use Rattle.octets_code.proofs.CodesTable.{codes_at}

-- the codes of joined lists are their codes, joined
pub codes-append : (v w : List ℕ) → codes (v ++ w) ≡ codes v ++ codes w
unfolding codes
codes-append [] w = refl
codes-append (c ∷ v) w = grind (arith, append_assoc, (codes-append v w))

-- the same with one symbol more at the end
pub codes-push : (v : List ℕ) (b : ℕ) → codes (v ++ b ∷ []) ≡ codes v ++ code b
unfolding codes
codes-push v b = rw (codes-append v (b ∷ []), append-nil (code b))

-- the codes of a list with the symbol s inside
pub codes-around : (before : List ℕ) (s : ℕ) (after : List ℕ)
    → codes (before ++ s ∷ after) ≡ codes before ++ (code s ++ codes after)
unfolding codes
codes-around before s after = codes-append before (s ∷ after)

-- a code has 5 to 30 bits
pub length-code : (s : ℕ) → s ≤ 256 → (5 ≤ length (code s)) × (length (code s) ≤ 30)
unfolding code
length-code s h =
    let r = codes_at s h in
    let l = length-bits_of (row_of s).len (row_of s).number in
    (omega (arith, r, l), omega (arith, r, l))

-- the codes of a list have 5 to 30 bits for each symbol
pub length-codes : (s : List ℕ) → AreSymbols s → (5 * length s ≤ length (codes s)) × (length (codes s) ≤ 30 * length s)
unfolding codes
length-codes [] h = (omega arith, omega arith)
length-codes (c ∷ s) h =
    grind (arith, length-code, All-head, All-tail, length-append, (length-codes s (All-tail (λ z. z ≤ 256) c s h)))
