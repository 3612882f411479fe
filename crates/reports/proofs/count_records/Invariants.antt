use Rattle.std.proofs.Common.{◌≡◌, ◌≤◌, ◌<◌, ◌+◌, ◌^◌, length}
use Rattle.octets.specs.Cursor.{rest}
use Rattle.reports.proofs.count_records.Given as goal

abbrev pub invariant-records : goal.invariant-records
invariant-records l = (l.count + length (rest l.cursor) ≤ length (rest l.fn.cursor))
    × (length (rest l.fn.cursor) < 2 ^ 63)
    × (l.count ≡ 0 → rest l.cursor ≡ rest l.fn.cursor)

abbrev pub decreases-records : goal.decreases-records
decreases-records l = length (rest l.cursor)
