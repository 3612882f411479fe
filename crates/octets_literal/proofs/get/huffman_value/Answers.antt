use Rattle.std.proofs.Common.{arith}
use Rattle.octets_literal.proofs.Values.{is_decoded, whole_view}
use Rattle.octets_literal.proofs.get.huffman_value.Goals as goal

pub returns-in-Ok-clause-value : goal.returns-in-Ok-clause-value
returns-in-Ok-clause-value c = is_decoded _ _ _ _ (grind (arith, whole_view)) c.in-Ok.ensures.value
