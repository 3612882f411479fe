use Rattle.std.proofs.Common.{arith}
use Rattle.octets_literal.proofs.Values.{is_decoded, is_undecoded, text_read, text_fault, whole_view}
use Rattle.octets_literal.proofs.get_into.decoded_into.Goals as goal

pub returns-in-Ok-clause-value : goal.returns-in-Ok-clause-value
returns-in-Ok-clause-value c =
    let h = c.in-Ok.ensures.value in (h.0, is_decoded _ _ _ _ (grind (arith, whole_view)) h.1, h.2, h.3)

pub returns-in-Err-clause-none : goal.returns-in-Err-clause-none
returns-in-Err-clause-none c = is_undecoded _ _ _ (grind (arith, whole_view)) c.in-Err.ensures.refused.1.0

pub returns-in-Err-clause-front : goal.returns-in-Err-clause-front
returns-in-Err-clause-front c =
    let f = c.in-Err.ensures.front in text_read _ _ _ _ f.0 (grind (arith, whole_view)) f.1 f.2 f.3

pub returns-in-Err-clause-fault : goal.returns-in-Err-clause-fault
returns-in-Err-clause-fault c =
    let f = c.in-Err.ensures.fault in text_fault _ _ _ _ _ f.0 (grind (arith, whole_view)) f.1 f.2 f.3
