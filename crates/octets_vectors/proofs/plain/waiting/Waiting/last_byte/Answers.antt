use Rattle.std.proofs.Common.{arith}
use Rattle.octets_vectors.proofs.LastByte.{count-bits, filled_byte}
use Rattle.octets_vectors.proofs.plain.waiting.Waiting.last_byte.Goals as goal

pub overflow_sub-fill : goal.overflow_sub-fill
overflow_sub-fill c =
    let p = c.self.inside in
    omega (arith, count-bits p.count p.bits c.args.self.now c.self.view_is)

pub overflow_cast-result-3 : goal.overflow_cast-result-3
overflow_cast-result-3 c =
    let h = filled_byte _ _ _ c.self.view_is c.requires.few c.requires.some c.self.invariant.1 in
    omega (arith, h.0)

pub returns : goal.returns
returns c = (filled_byte _ _ _ c.self.view_is c.requires.few c.requires.some c.self.invariant.1).1
