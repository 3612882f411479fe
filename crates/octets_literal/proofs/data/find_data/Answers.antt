use Rattle.std.proofs.Common.{arith, ◌≡◌, ◌+◌, ◌-◌, refl}
use Rattle.octets_literal.proofs.Refusals.{lacks_data, finds_data}
use Rattle.octets_literal.proofs.data.find_data.Goals as goal

pub returns-then-bytes-length-clause-refused : goal.returns-then-bytes-length-clause-refused
returns-then-bytes-length-clause-refused c = lacks_data _ _ _ _ c.in_ok-length.ensures.reads (grind arith)

pub returns-clause-finds : goal.returns-clause-finds
returns-clause-finds c =
    let it = c.in_ok-length.length in let len : it.width + it.len - it.width ≡ it.len = omega arith in
    finds_data _ _ _ _ _ _ c.in_ok-length.ensures.bytes c.in_ok-length.ensures.reads refl (grind arith) (grind arith)
