use Rattle.octets_code.proofs.Faults.{lengths_are_bounded}
use Rattle.octets_code.proofs.laws.lengths_bounded.Goals as goal

pub returns : goal.returns
returns c = lengths_are_bounded
