use Rattle.std.proofs.Common.{length}
use Rattle.octets.specs.Cursor.{rest}
use Rattle.octets_lists.specs.NameLists.{AreNames}
use Rattle.octets_lists.proofs.name_lists.pass_names.Given as goal

abbrev pub invariant-names : goal.invariant-names
invariant-names l = AreNames (rest l.fn.cursor) → AreNames (rest l.cursor)

abbrev pub decreases-names : goal.decreases-names
decreases-names l = length (rest l.cursor)
