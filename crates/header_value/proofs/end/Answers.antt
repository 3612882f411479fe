use Rattle.std.proofs.Common.{length, length-take, arith, refl}
use Rattle.octets_pieces.proofs.Faulty.{no_end}
use Rattle.header_value.proofs.end.Goals as goal

pub returns-in-Err-clause-refused : goal.returns-in-Err-clause-refused
returns-in-Err-clause-refused c = λ t out h.
    let fails = no_end t (length out) _ _ _ _ h.read (omega (arith, h.within, length-take c.args.value.now.len out))
    (grind arith) refl refl in
    fails.refusal.0
