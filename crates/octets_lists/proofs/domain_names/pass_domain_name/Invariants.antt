use Rattle.std.proofs.Common.{length}
use Rattle.octets.specs.Cursor.{rest}
use Rattle.octets_lists.specs.DomainNames.{HasLabels}
use Rattle.octets_lists.proofs.domain_names.pass_domain_name.Given as goal

abbrev pub invariant-labels : goal.invariant-labels
invariant-labels l = HasLabels (rest l.fn.cursor) (rest l.cursor)

abbrev pub decreases-labels : goal.decreases-labels
decreases-labels l = length (rest l.cursor)
