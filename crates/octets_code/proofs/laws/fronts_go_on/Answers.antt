use Rattle.octets_code.proofs.Walks.{goes_on}
use Rattle.octets_code.proofs.laws.fronts_go_on.Goals as goal

pub returns : goal.returns
returns c = goes_on
