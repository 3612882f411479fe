use Rattle.octets_code.proofs.Paths.{path_injective}
use Rattle.octets_code.proofs.Walks.{states_are_fronts}
use Rattle.octets_code.proofs.laws.states_are_fronts.Goals as goal

pub returns-clause-each : goal.returns-clause-each
returns-clause-each c = states_are_fronts

pub returns-clause-apart : goal.returns-clause-apart
returns-clause-apart c = path_injective
