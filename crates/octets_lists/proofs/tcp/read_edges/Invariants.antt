use Rattle.std.proofs.Common.{◌+◌, ◌*◌, ◌-◌, ◌≤◌, length, flat_map, vec_capacity}
use Rattle.octets.specs.Bytes.{network}
use Rattle.octets.specs.Cursor.{rest, Reads}
use Rattle.octets_lists.proofs.tcp.read_edges.Given as goal

abbrev pub invariant-edges : goal.invariant-edges
invariant-edges l =
    Reads l.fn.cursor l.cursor (flat_map (λ edge. network 4 edge) l.edges.items)
    × (length l.edges.items ≤ l.n) × (l.n ≤ vec_capacity l.edges)
    × (4 * l.n ≤ length (rest l.cursor) + 4 * length l.edges.items)

abbrev pub decreases-edges : goal.decreases-edges
decreases-edges l = l.n - length l.edges.items
