use Rattle.std.proofs.Common.{◌≡◌, ℕ, List, drop, refl, subst, arith}
use Rattle.octets_lists.specs.Marked.{BeginsTlv, LacksTlv, EndsAt, here, later}

-- a record has one length
one_length : (l : List ℕ) (n k : ℕ) → BeginsTlv l n → BeginsTlv l k → n ≡ k
unfolding BeginsTlv
one_length l n k b c = grind arith

-- the records of a list end at one place
pub one_end : (l m k : List ℕ) → EndsAt l m → EndsAt l k → m ≡ k
unfolding LacksTlv
one_end _ _ _ (here none) (here _) = refl
one_end _ _ _ (here none) (later n begins _) = absurd (none n begins)
one_end _ _ _ (later n begins _) (here none) = absurd (none n begins)
one_end l m k (later n begins ends) (later i also other) =
    one_end (drop n l) m k ends (subst (λ j. EndsAt (drop j l) k) (one_length l i n also begins) other)
