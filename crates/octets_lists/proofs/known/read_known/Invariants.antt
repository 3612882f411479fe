use Rattle.std.proofs.Common.{length}
use Rattle.octets.specs.Cursor.{rest}
use Rattle.octets_lists.specs.Known.{HasKnown}
use Rattle.octets_lists.proofs.known.read_known.Given as goal

abbrev pub invariant-records : goal.invariant-records
invariant-records l = HasKnown (rest l.fn.cursor) l.port l.size (rest l.cursor)

abbrev pub decreases-records : goal.decreases-records
decreases-records l = length (rest l.cursor)
