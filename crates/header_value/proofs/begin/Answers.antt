use Rattle.std.proofs.Common.{arith}
use Rattle.octets_pieces.proofs.ByteReads.{nothing}
use Rattle.header_value.proofs.begin.Goals as goal

pub returns-clause-come : goal.returns-clause-come
returns-clause-come c = λ out. record { within = omega arith; read = nothing _ c.new.ensures }
