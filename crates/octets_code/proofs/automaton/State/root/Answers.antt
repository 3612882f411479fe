use Rattle.std.proofs.Common.{refl, arith}
use Rattle.octets_code.specs.Bits.{bits_of}
use Rattle.octets_code.specs.States.{row, row_of_state, state_rows, path}
use Rattle.octets_code.proofs.Walks.{path_open}
use Rattle.octets_code.proofs.automaton.State.root.Goals as goal

pub returns-clause-path : goal.returns-clause-path
unfolding path row_of_state state_rows row bits_of
returns-clause-path c = refl

pub returns-clause-open : goal.returns-clause-open
returns-clause-open c = path_open 0 (omega arith)
