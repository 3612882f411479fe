-- what was read are literals of values within the limit, and the cursor is after them
use Rattle.std.proofs.Common.{◌≡◌, ◌≤◌, map, length}
use Rattle.std.specs.List.{All}
use Rattle.octets.specs.Cursor.{bytes, rest}
use Rattle.octets_literal.specs.Literals.{AreLiterals}
use Rattle.octets_literal.proofs.list.get_strings.Given as goal

abbrev pub invariant-literals : goal.invariant-literals
invariant-literals l = record {
  read : AreLiterals (rest l.fn.cursor) (map (λ v. v.items) l.values.items) (rest l.cursor);
  within : All (λ v. length v.items ≤ l.max_len) l.values.items;
  same : bytes l.cursor ≡ bytes l.fn.cursor;
}

abbrev pub decreases-literals : goal.decreases-literals
decreases-literals l = length (rest l.cursor)
