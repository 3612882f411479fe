use Rattle.std.proofs.Common.{length, length-take, arith}
use Rattle.octets_pieces.proofs.Faulty.{no_end}
use Rattle.octets_pieces.proofs.joined.end.Goals as goal

pub returns-in-Err-clause-failed : goal.returns-in-Err-clause-failed
returns-in-Err-clause-failed c = λ t o r f e.
    no_end t (length o) _ _ _ _ r (omega (arith, length-take c.args.so_far.now.written o)) (grind arith) e
    (omega (arith, length-take c.args.so_far.now.written o))
