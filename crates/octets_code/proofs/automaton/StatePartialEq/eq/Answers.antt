use Rattle.octets_code.proofs.Paths.{same_paths, same_path}
use Rattle.octets_code.specs.States.{path}
use Rattle.octets_code.proofs.automaton.StatePartialEq.eq.Goals as goal

pub returns-clause-value : goal.returns-clause-value
returns-clause-value c =
    rw (← c.self.view_is, ← c.other.view_is)
    (same_paths c.self.inside.index c.other.inside.index c.self.invariant c.other.invariant)

pub returns-clause-same : goal.returns-clause-same
returns-clause-same c =
    rw (← c.self.view_is, ← c.other.view_is)
    (rw (same_paths c.self.inside.index c.other.inside.index c.self.invariant c.other.invariant)
    (same_path (path c.self.inside.index) (path c.other.inside.index)))
