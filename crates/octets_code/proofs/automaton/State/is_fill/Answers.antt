use Rattle.octets_code.proofs.Paths.{fill_at}
use Rattle.octets_code.proofs.Walks.{path_open}
use Rattle.octets_code.proofs.automaton.State.is_fill.Goals as goal

pub returns-clause-fill : goal.returns-clause-fill
returns-clause-fill c = rw (← c.self.view_is) (fill_at c.self.inside.index c.self.invariant)

pub returns-clause-open : goal.returns-clause-open
returns-clause-open c = rw (← c.self.view_is) (path_open c.self.inside.index c.self.invariant)
