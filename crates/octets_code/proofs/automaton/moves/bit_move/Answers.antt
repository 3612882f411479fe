use Rattle.std.proofs.Common.{arith}
use Rattle.octets_code.proofs.MovesFit.{bit_moves_at}
use Rattle.octets_code.proofs.automaton.moves.bit_move.Goals as goal

pub returns : goal.returns
returns c = bit_moves_at c.args.index c.args.bit _ _ (omega arith)
