use Rattle.std.proofs.Common.{arith}
use Rattle.octets_code.proofs.TextLemmas.{each_byte}
use Rattle.octets_literal.proofs.Values.{is_plain, whole_view}
use Rattle.octets_literal.proofs.get.plain_value.Goals as goal

pub returns-clause-value : goal.returns-clause-value
returns-clause-value c =
    let bytes = each_byte _ (λ i. (c.type_inv.content i).fits) in
    is_plain _ _ _ bytes (omega arith) (grind (arith, whole_view))
