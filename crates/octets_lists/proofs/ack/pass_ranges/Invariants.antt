use Rattle.std.proofs.Common.{ℕ, List}
use Rattle.octets.specs.Cursor.{rest, Advances}
use Rattle.octets_lists.specs.Acks.{EndsAt}
use Rattle.octets_lists.proofs.ack.pass_ranges.Given as goal

abbrev pub invariant-each : goal.invariant-each
invariant-each l = ((i s : ℕ) (m : List ℕ) → EndsAt l.left l.smallest (rest l.cursor) i s m
    → EndsAt l.fn.count l.fn.start (rest l.fn.cursor) i s m)
    × Advances l.fn.cursor l.cursor

abbrev pub decreases-each : goal.decreases-each
decreases-each l = l.left
