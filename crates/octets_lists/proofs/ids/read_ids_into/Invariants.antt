use Rattle.std.proofs.Common.{◌≡◌, ◌*◌, ◌<◌, ℕ, flat_map, take, drop, slice_index}
use Rattle.octets.specs.Bytes.{network, number, part}
use Rattle.octets.specs.Cursor.{rest, Passes, Reads}
use Rattle.octets_lists.proofs.ids.read_ids_into.Given as goal

abbrev pub invariant-loop-i : goal.invariant-loop-i
invariant-loop-i l = ((k : ℕ) → k < l.i → slice_index l.out k ≡ number (part (rest l.fn.cursor) (4 * k) 4))
    × (drop l.n l.out ≡ drop l.n l.fn.out)
    × Passes l.fn.cursor l.cursor (4 * l.i)
    × Reads l.fn.cursor l.cursor (flat_map (λ id. network 4 id) (take l.i l.out))
