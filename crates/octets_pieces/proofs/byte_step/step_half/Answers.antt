use Rattle.std.proofs.Common.{arith}
use Rattle.octets_pieces.proofs.HalvesFit.{half_fits}
use Rattle.octets_pieces.proofs.byte_step.step_half.Goals as goal

pub returns : goal.returns
returns c = half_fits c.args.index c.args.half 0 (omega arith) c.requires.small
