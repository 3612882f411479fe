use Rattle.std.proofs.Common.{◌≤◌, ◌-◌, length, flat_map}
use Rattle.octets.specs.Bytes.{prefixed}
use Rattle.octets.specs.Cursor.{Reads}
use Rattle.octets_lists.proofs.copies.read_names.Given as goal

abbrev pub invariant-names : goal.invariant-names
invariant-names l = (length l.names.items ≤ l.n)
    × Reads l.fn.cursor l.cursor (flat_map (λ name. prefixed 1 name.items) l.names.items)

abbrev pub decreases-names : goal.decreases-names
decreases-names l = l.n - length l.names.items
