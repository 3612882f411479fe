use Rattle.std.proofs.Common.{List, ℕ, length}
use Rattle.octets.specs.Cursor.{rest, Advances}
use Rattle.octets_lists.specs.Marked.{EndsAt}
use Rattle.octets_lists.proofs.marked.pass_tlvs.Given as goal

abbrev pub invariant-records : goal.invariant-records
invariant-records l = ((m : List ℕ) → EndsAt (rest l.cursor) m → EndsAt (rest l.fn.cursor) m)
    × Advances l.fn.cursor l.cursor

abbrev pub decreases-records : goal.decreases-records
decreases-records l = length (rest l.cursor)
