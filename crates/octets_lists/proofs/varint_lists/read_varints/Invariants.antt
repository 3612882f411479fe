use Rattle.std.proofs.Common.{◌≤◌, ◌-◌, length}
use Rattle.octets.specs.Cursor.{rest, Advances}
use Rattle.octets_lists.specs.VarintLists.{AreVarints}
use Rattle.octets_lists.proofs.varint_lists.read_varints.Given as goal

abbrev pub invariant-values : goal.invariant-values
invariant-values l = AreVarints (rest l.fn.cursor) l.values.items (rest l.cursor)
    × (length l.values.items ≤ l.n)
    × Advances l.fn.cursor l.cursor

abbrev pub decreases-values : goal.decreases-values
decreases-values l = l.n - length l.values.items
