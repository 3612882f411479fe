use Rattle.std.proofs.Common.{length}
use Rattle.octets.specs.Cursor.{rest}
use Rattle.octets_lists.specs.Records.{BeginsOthers}
use Rattle.octets_lists.proofs.records.find_record.Given as goal

abbrev pub invariant-records : goal.invariant-records
invariant-records l = BeginsOthers l.kind l.fn.buffer (rest l.cursor)

abbrev pub decreases-records : goal.decreases-records
decreases-records l = length (rest l.cursor)
