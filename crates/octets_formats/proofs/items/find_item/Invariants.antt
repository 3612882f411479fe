use Rattle.std.proofs.Common.{length, List, ℕ}
use Rattle.octets.specs.Cursor.{rest, Reads}
use Rattle.octets_formats.specs.Others.{AreOthers}
use Rattle.octets_formats.proofs.items.find_item.Given as goal

abbrev pub invariant-loop-cursor : goal.invariant-loop-cursor
invariant-loop-cursor l = (before : List ℕ) × AreOthers l.wanted before × Reads l.fn.cursor l.cursor before

abbrev pub decreases-loop-cursor : goal.decreases-loop-cursor
decreases-loop-cursor l = length (rest l.cursor)
