-- What follows pad options isn't one.
use Rattle.std.proofs.Common.{◌≡◌, ◌≢◌, ℕ, zero, suc, ◌≤◌, List, [], ◌∷◌, length, take, drop, slice_index_or, arith}
use Rattle.octets.specs.Bytes.{number}
use Rattle.octets_lists.specs.DhcpOptions.{BeginsPads}

byte_after : (l : List ℕ) (n : ℕ) → slice_index_or l n 1 ≢ 0 → 1 ≤ length (drop n l) → number (take 1 (drop n l)) ≢ 0
byte_after [] zero h s e = omega (arith, s)
byte_after [] (suc n) h s e = omega (arith, s)
byte_after (b ∷ l) zero h s e = h (omega (arith, e))
byte_after (b ∷ l) (suc n) h s e = byte_after l n h s e

pub not_pad : (l : List ℕ) (n : ℕ) → BeginsPads l n → 1 ≤ length (drop n l) → number (take 1 (drop n l)) ≢ 0
unfolding BeginsPads
not_pad l n b s = byte_after l n b.1 s
