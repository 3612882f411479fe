-- A field that is read part by part.
use Rattle.std.proofs.Common.{◌≡◌, ℕ, ◌+◌, drop, List, arith, ap, ◌∙◌}
use Rattle.octets.proofs.CallerLemmas.{passes_more}
use Rattle.octets.specs.Cursor.{rest, Passes, IsUnchanged}
use Rattle.octets.specs.Octets.{Octets}
use Rattle.octets_literal.specs.Literals.{BeginsLiteral}
use Rattle.octets_lists.specs.HeaderFields.{mark, IsMarked, no_mark, no_new_name}
use Rattle.octets_lists.specs.declared.header_field.Indexing.{Indexing}
use Rattle.octets_lists.proofs.Passing.{still}

pub one_mark : (i j : Indexing) → mark i ≡ mark j → i ≡ j
unfolding mark
one_mark i j e = grind arith

-- the cursor peeks at the mark, and passes it
pub past_mark : (start peeked past : Octets) → IsUnchanged start peeked → Passes peeked past 1 → Passes start past 1
past_mark start peeked past h k = passes_more start peeked past 0 1 (still start peeked h) k

-- and is then after a name of k bytes
pub record PastName (start past : Octets) (i : Indexing) (k : ℕ) (name : List ℕ) : Type 0 where
  pub is_marked : IsMarked (rest start) i
  pub is_name : BeginsLiteral (drop 1 (rest start)) k name
  pub behind : rest past ≡ drop k (drop 1 (rest start))
  pub passes : Passes start past (1 + k)

pub past_name : (start marked past : Octets) (i : Indexing) (k : ℕ) (name : List ℕ) → IsMarked (rest start) i
    → Passes start marked 1 → BeginsLiteral (rest marked) k name → Passes marked past k → PastName start past i k name
past_name start marked past i k name m one begins h = record {
  is_marked = m;
  is_name = rw one.2 at begins;
  behind = h.2 ∙ ap (drop k) one.2;
  passes = passes_more start marked past 1 k one h;
}

-- at a reader of a field
pub ruleset refusals = (no_mark, no_new_name, still)
