use Rattle.std.proofs.Common.{◌≡◌, ◌+◌, ◌-◌, refl, sym, ◌∙◌, arith}
use Rattle.std.proofs.lemmas.Nat.{shr_below}
use Rattle.octets_code.proofs.BitLemmas.{bits_of-append}
use Rattle.octets.proofs.lemmas.WordOps.{mask_is, low_bits}
use Rattle.octets_vectors.proofs.LastByte.{count-bits}
use Rattle.octets_vectors.proofs.plain.waiting.Waiting.take_byte.Goals as goal

pub returns-then-self-lt8-clause-none : goal.returns-then-self-lt8-clause-none
returns-then-self-lt8-clause-none c =
    let p = c.self.inside in
    (refl, omega (arith, count-bits p.count p.bits c.args.self.now c.self.view_is, c.if-self-lt8.true))

pub overflow_cast-result : goal.overflow_cast-result
overflow_cast-result c =
    let p = c.self.inside in
    let e : p.count ≡ 8 + (p.count - 8) = omega arith in
    omega (arith, shr_below p.bits 8 (p.count - 8) (rw e at c.self.invariant.1))

pub returns-clause-byte : goal.returns-clause-byte
returns-clause-byte c =
    let p = c.self.inside in
    let e : 8 + (p.count - 8) ≡ p.count = omega arith in
    rw (mask_is (p.count - 8) p.bits (omega (arith, c.self.invariant.0)), low_bits (p.count - 8) p.bits)
    (sym c.self.view_is ∙ (rw e at (bits_of-append 8 (p.count - 8) p.bits)))
