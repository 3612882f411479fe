use Rattle.std.proofs.Common.{arith}
use Rattle.octets_pieces.proofs.ByteReads.{first_read, first_not, end_read}
use Rattle.octets_pieces.proofs.byte_step.step_byte.Goals as goal

pub returns-then-count-gt2-clause-end : goal.returns-then-count-gt2-clause-end
returns-then-count-gt2-clause-end c =
    end_read c.args.index c.args.byte _ _ _ _ _ _ (omega arith) c.step_half-high.ensures c.step_half-low.ensures
    (omega arith)

pub returns-then-high-eq1-clause-step : goal.returns-then-high-eq1-clause-step
returns-then-high-eq1-clause-step c =
    first_read c.args.index c.args.byte _ _ _ _ _ _ c.step_half-high.ensures c.step_half-low.ensures (omega arith)
    (omega arith)

pub returns-else-high-eq1-clause-step : goal.returns-else-high-eq1-clause-step
returns-else-high-eq1-clause-step c =
    first_not c.args.index c.args.byte _ _ _ _ _ _ c.step_half-high.ensures c.step_half-low.ensures (omega arith)
    (omega arith)
