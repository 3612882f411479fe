use Rattle.std.proofs.Common.{arith}
use Rattle.octets_literal.proofs.Refusals.{begun_read}
use Rattle.octets_literal.proofs.get.read_string.Goals as goal

pub returns-clause-value : goal.returns-clause-value
returns-clause-value c =
    let begun = rw c.as_ref.ensures at c.in_ok-data.ensures.finds in
    let value = c.in_ok-value.ensures.value in
    (_, begun_read _ _ _ _ _ _ begun value, grind arith, c.in_ok-skip.ensures.passes)
