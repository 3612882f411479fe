use Rattle.std.proofs.Common.{[], ◌∷◌}
use Rattle.octets_code.specs.States.{path}
use Rattle.octets_code.proofs.Walks.{path_open}
use Rattle.octets_code.proofs.automaton.State.step_bit.Goals as goal

pub returns-clause-moves : goal.returns-clause-moves
returns-clause-moves c =
    rw (← c.self.view_is) (c.step_of.ensures (path c.self.inside.index) (c.args.bit ∷ []) c.bit_move.ensures).0

pub returns-clause-open : goal.returns-clause-open
returns-clause-open c = (c.step_of.ensures (path c.self.inside.index) (c.args.bit ∷ []) c.bit_move.ensures).1

pub returns-clause-from : goal.returns-clause-from
returns-clause-from c = rw (← c.self.view_is) (path_open c.self.inside.index c.self.invariant)
