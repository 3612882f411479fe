use Rattle.std.proofs.Common.{◌≡◌, ◌+◌, length, flat_map, take, drop}
use Rattle.octets.specs.Varints.{shortest, varint}
use Rattle.octets.specs.Cursor.{rest, Writes}
use Rattle.octets_lists.proofs.ids.write_ids.Given as goal

abbrev pub invariant-loop-id : goal.invariant-loop-id
invariant-loop-id l =
    Writes l.fn.cursor l.cursor (flat_map (λ id. varint (shortest id) id) (take l.id-index l.ids))
    × (length (flat_map (λ id. varint (shortest id) id) l.ids) + length (rest l.cursor)
    ≡ length (flat_map (λ id. varint (shortest id) id) (drop l.id-index l.ids)) + length (rest l.fn.cursor))
