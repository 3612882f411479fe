use Rattle.std.proofs.Common.{◌++◌, ap, ◌∙◌, arith}
use Rattle.octets_code.specs.Bits.{bits_of}
use Rattle.octets_code.specs.Codes.{code}
use Rattle.octets.proofs.lemmas.WordOps.{shl_or}
use Rattle.octets_vectors.proofs.LastByte.{count-bits}
use Rattle.octets_vectors.proofs.plain.waiting.Waiting.push.Goals as goal

pub invariant_of-self : goal.invariant_of-self
invariant_of-self c =
    let p = c.self.inside in
    let k = c.code_of-code.result in
    let few = count-bits p.count p.bits c.args.self.now c.self.view_is in
    rw (c.from-2.ensures, c.from-3.ensures) (
      omega (arith, few, c.code_of-code.ensures.small.1, c.from-3.ensures),
      (shl_or p.count k.len p.bits k.bits c.self.invariant.1 (omega (arith, few, c.code_of-code.ensures.small.1))
          c.code_of-code.ensures.small.2).1,
    )

pub returns : goal.returns
returns c =
    let p = c.self.inside in
    let k = c.code_of-code.result in
    let few = count-bits p.count p.bits c.args.self.now c.self.view_is in
    rw (c.from-2.ensures, c.from-3.ensures)
    ((shl_or p.count k.len p.bits k.bits c.self.invariant.1 (omega (arith, few, c.code_of-code.ensures.small.1))
    c.code_of-code.ensures.small.2).0
    ∙ ap (λ l. l ++ bits_of k.len k.bits) c.self.view_is
    ∙ ap (λ l. c.args.self.now ++ l) (c.code_of-code.ensures.bits ∙ ap code c.from.ensures))
