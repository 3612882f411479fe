use Rattle.std.proofs.Common.{◌≡◌, ◌≤◌, ◌+◌, ◌*◌, ◌-◌, length, flat_map}
use Rattle.octets.specs.Bytes.{network}
use Rattle.octets.specs.Cursor.{rest, Reads}
use Rattle.octets_lists.proofs.ids.read_ids.Given as goal

abbrev pub invariant-ids : goal.invariant-ids
invariant-ids l = (length l.ids.items ≤ l.n)
    × (length (rest l.fn.cursor) ≡ length (rest l.cursor) + 4 * length l.ids.items)
    × Reads l.fn.cursor l.cursor (flat_map (λ id. network 4 id) l.ids.items)

abbrev pub decreases-ids : goal.decreases-ids
decreases-ids l = l.n - length l.ids.items
