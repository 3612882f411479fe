use Rattle.std.proofs.Common.{arith}
use Rattle.octets_code.proofs.Faults.{lengths_are_bounded}
use Rattle.octets_c.proofs.laws.value_most.Goals as goal

pub returns : goal.returns
returns c = λ t v m a. omega (arith, (lengths_are_bounded v t a.0 a.2).0)
