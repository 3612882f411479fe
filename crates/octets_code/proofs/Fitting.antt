-- What tests of tables mean: for bits that begin with a code, and for the entry at a position of a list.
use Rattle.std.proofs.Common.{◌≡◌, ℕ, ◌+◌, ◌-◌, ◌/◌, ◌%◌, ◌^◌, ◌==◌, nat_le, ◌<◌, ◌≤◌, Bool, true, ◌&&◌, List, ◌++◌}
use Rattle.std.proofs.Common.{length, get_or, ◌∙◌, ap, arith}
use Rattle.std.specs.List.{list_all, enumerate_from}
use Rattle.std.proofs.lemmas.Bool.{and_parts, eqb-true, leb-true}
use Rattle.std.proofs.lemmas.List.FromFn.{length-enumerate_from, get_or-enumerate_from}
use Rattle.std.proofs.lemmas.List.Sums.{AllPass-from_list_all}
use Rattle.octets_code.specs.Bits.{bits_of}
use Rattle.octets_code.specs.Codes.{row_of, code}
use Rattle.octets_code.proofs.BitLemmas.{bits_of-append, bits_of-mod}

-- the n bits of x begin with the code of s: as numbers
unfoldable pub begins : ℕ → ℕ → ℕ → Bool
begins n x s = let r = row_of s in nat_le r.len n && (x / 2 ^ (n - r.len) % 2 ^ r.len == r.number)

pub begins-true : (n x s : ℕ) → begins n x s ≡ true → bits_of n x ≡ code s ++ bits_of (n - (row_of s).len) x
unfolding begins code
begins-true n x s h =
    let r = row_of s in
    let m = n - r.len in
    let p = and_parts (nat_le r.len n) (x / 2 ^ m % 2 ^ r.len == r.number) h in
    let le : r.len ≤ n = leb-true r.len n p.0 in
    let sum : n ≡ r.len + m = omega arith in
    ap (λ k. bits_of k x) sum ∙ bits_of-append r.len m x
    ∙ ap (λ z. z ++ bits_of m x) (bits_of-mod r.len (x / 2 ^ m) ∙ ap (bits_of r.len) (eqb-true _ r.number p.1))

-- each element passes a test of it and its place
abbrev pub each_passes : {A : Type 0} → (ℕ × A → Bool) → List A → Bool
each_passes test xs = list_all test (enumerate_from 0 xs)

pub passes_at : {A : Type 0} (test : ℕ × A → Bool) (xs : List A) (i : ℕ) (d : A) → each_passes test xs ≡ true
    → i < length xs → test (i, get_or xs i d) ≡ true
passes_at test xs i d h l =
    let z : 0 + i ≡ i = omega arith in
    let pass = AllPass-from_list_all test (enumerate_from 0 xs) h i (0, d) (rw length-enumerate_from l) in
    rw (get_or-enumerate_from, z) at pass
