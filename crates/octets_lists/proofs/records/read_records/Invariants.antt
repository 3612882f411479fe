use Rattle.std.proofs.Common.{◌≡◌, ◌++◌, length, map}
use Rattle.std.specs.List.{All}
use Rattle.octets.specs.Cursor.{rest}
use Rattle.octets_lists.specs.Records.{IsUnread, fields_of, records_bytes}
use Rattle.octets_lists.proofs.records.read_records.Given as goal

abbrev pub invariant-records : goal.invariant-records
invariant-records l =
    (l.fn.buffer ≡ records_bytes (map fields_of l.records.items) ++ rest l.cursor) × All IsUnread l.records.items

abbrev pub decreases-records : goal.decreases-records
decreases-records l = length (rest l.cursor)
