-- Pieces of one byte.
use Rattle.std.proofs.Common.{◌≡◌, ℕ, zero, suc, ◌+◌, ◌-◌, List, length, take, replicate, min, ◌∙◌, ap, arith}
use Rattle.std.proofs.lemmas.Grind.{common_steps}
use Rattle.octets.specs.Pieces.{kept_of}
use Rattle.octets.proofs.lemmas.Giving.{kept_of-more, kept_of-none}

-- the pieces of t, if each has one byte
abbrev pub singles : List ℕ → List ℕ
singles t = replicate (length t) 1

-- of pieces of one byte, as many are written as fit
kept_of-singles : (c n : ℕ) → kept_of c (replicate n 1) ≡ min c n
unfolding kept_of
kept_of-singles c zero = omega arith
kept_of-singles zero (suc n) = kept_of-none 0 1 (replicate n 1) (λ h. omega arith) ∙ omega arith
kept_of-singles (suc c) (suc n) =
    let e : suc c - 1 ≡ c = omega arith in
    kept_of-more (suc c) 1 (replicate n 1) (omega arith) ∙ ap (λ d. 1 + kept_of d (replicate n 1)) e
    ∙ omega (arith, kept_of-singles c n)

-- of a text in pieces of one byte, as many bytes are written as fit
pub take-singles : (c : ℕ) (t : List ℕ) → take (kept_of c (singles t)) t ≡ take c t
take-singles c t = ap (λ k. take k t) (kept_of-singles c (length t)) ∙ grind (arith, common_steps)
