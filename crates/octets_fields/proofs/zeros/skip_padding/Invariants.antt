use Rattle.std.proofs.Common.{◌≡◌, ◌++◌, length, List, ℕ}
use Rattle.octets.specs.Cursor.{rest}
use Rattle.octets_fields.specs.Padding.{IsPadding}
use Rattle.octets_fields.proofs.zeros.skip_padding.Given as goal

abbrev pub invariant-padding : goal.invariant-padding
invariant-padding l = (padding : List ℕ) × IsPadding padding × (rest l.fn.cursor ≡ padding ++ rest l.cursor)

abbrev pub decreases-padding : goal.decreases-padding
decreases-padding l = length (rest l.cursor)
