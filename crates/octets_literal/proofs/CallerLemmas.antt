-- Lemmas for the proofs of callers, which write literals and read them back.
use Rattle.std.proofs.Common.{◌≡◌, ℕ, ◌≤◌, List, ◌++◌, length, drop, refl, append_assoc, length-append}
use Rattle.std.proofs.lemmas.List.{drop_at, take_all}
use Rattle.octets_code.specs.Texts.{AreBytes}
use Rattle.octets_literal.specs.Laws.{CanonAlone}
use Rattle.octets_literal.specs.Literals.{BeginsLiteral, canon}
use Rattle.octets_literal.proofs.Written.{canon_literal, canon_alone}
pub use Rattle.octets_literal.proofs.OneLiteral.{one_literal, literal_some, literal_within}

-- A literal that was written, with other bytes after it: the bytes begin with it, and what follows it. As in the
-- lemmas of octets, the first equation only shows a tactic where to use the lemma.
pub literal_front : (v y : List ℕ) → AreBytes v → length v ≤ 4294967295
    → (canon v ++ y ≡ canon v ++ y) × BeginsLiteral (canon v ++ y) (length (canon v)) v
    × (drop (length (canon v)) (canon v ++ y) ≡ y)
literal_front v y b w = (refl, canon_literal v y b w, drop_at (canon v) y (length (canon v)) refl)

-- the same if no bytes follow the literal
pub literal_last : (v : List ℕ) → AreBytes v → length v ≤ 4294967295
    → (canon v ≡ canon v) × BeginsLiteral (canon v) (length (canon v)) v
unfolding CanonAlone
literal_last v b w = (refl, canon_alone (canon v) v b w refl)

-- for `using(..)`, at a function that reads literals that were written
pub ruleset literals = (append_assoc, length-append, take_all, literal_front, literal_last)
