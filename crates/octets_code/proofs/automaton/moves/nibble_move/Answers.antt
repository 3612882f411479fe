use Rattle.std.proofs.Common.{arith}
use Rattle.octets_code.proofs.MovesFit.{nibble_moves_at}
use Rattle.octets_code.proofs.automaton.moves.nibble_move.Goals as goal

pub returns : goal.returns
returns c = nibble_moves_at c.args.index c.args.nibble _ _ (omega arith) c.requires
