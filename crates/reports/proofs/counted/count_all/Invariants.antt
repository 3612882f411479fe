use Rattle.std.proofs.Common.{◌+◌, ◌≤◌, ◌<◌, ◌^◌, length}
use Rattle.octets.specs.Cursor.{rest}
use Rattle.reports.specs.Counted.{AreRecords}
use Rattle.reports.proofs.counted.count_all.Given as goal

abbrev pub invariant-loop-one : goal.invariant-loop-one
invariant-loop-one l = AreRecords (rest l.fn.cursor) l.count (rest l.one-iterator.cursor)
    × (l.count + length (rest l.one-iterator.cursor) ≤ length (rest l.fn.cursor))
    × (length (rest l.fn.cursor) < 2 ^ 63)
