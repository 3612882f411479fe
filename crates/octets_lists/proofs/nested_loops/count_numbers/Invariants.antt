use Rattle.std.proofs.Common.{◌+◌, ◌≤◌, length}
use Rattle.octets.specs.Cursor.{rest}
use Rattle.octets_lists.proofs.nested_loops.count_numbers.Given as goal

abbrev pub invariant-groups : goal.invariant-groups
invariant-groups l = l.count + length (rest l.cursor) ≤ length (rest l.fn.cursor)

abbrev pub decreases-groups : goal.decreases-groups
decreases-groups l = length (rest l.cursor)

abbrev pub invariant-loop-i : goal.invariant-loop-i
invariant-loop-i l = (l.count + length (rest l.cursor) ≤ length (rest l.fn.cursor))
    × (length (rest l.cursor) ≤ length (rest l.initial.cursor))
