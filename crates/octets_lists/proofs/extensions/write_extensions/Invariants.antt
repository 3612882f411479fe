use Rattle.std.proofs.Common.{◌≡◌, ◌+◌, length, flat_map, take, drop}
use Rattle.octets.specs.Cursor.{rest, Writes}
use Rattle.octets_lists.specs.Extensions.{extension}
use Rattle.octets_lists.proofs.extensions.write_extensions.Given as goal

abbrev pub invariant-loop-one : goal.invariant-loop-one
invariant-loop-one l = Writes l.fn.cursor l.cursor (flat_map extension (take l.one-index l.all))
    × (length (flat_map extension l.all) + length (rest l.cursor)
    ≡ length (flat_map extension (drop l.one-index l.all)) + length (rest l.fn.cursor))
