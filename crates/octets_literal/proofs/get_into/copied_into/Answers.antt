use Rattle.std.proofs.Common.{arith, refl}
use Rattle.octets_code.proofs.TextLemmas.{each_byte}
use Rattle.octets_literal.proofs.Values.{is_plain}
use Rattle.octets_literal.proofs.get_into.copied_into.Goals as goal

pub returns-clause-value : goal.returns-clause-value
returns-clause-value c =
    let bytes = each_byte _ (λ i. (c.type_inv.content i).fits) in
    (c.args.content.now, is_plain _ _ _ bytes (omega arith) refl, refl, grind arith)
