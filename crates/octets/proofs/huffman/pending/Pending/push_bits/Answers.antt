use Rattle.std.proofs.Common.{arith, ◌++◌, sym, ap, ◌∙◌}
use Rattle.octets_code.specs.Bits.{bits_of}
use Rattle.octets.proofs.lemmas.WordOps.{joined, passed}
use Rattle.octets.proofs.huffman.pending.Pending.push_bits.Goals as goal

pub invariant_of-self : goal.invariant_of-self
invariant_of-self c = grind (arith, joined)

pub returns-then-count-lt64-clause-none : goal.returns-then-count-lt64-clause-none
returns-then-count-lt64-clause-none c = grind (arith, joined)

pub returns-clause-word : goal.returns-clause-word
returns-clause-word c = ap (λ l. l ++ bits_of c.args.len c.args.bits) (sym c.self.view_is)
    ∙ (passed _ _ _ _ c.self.invariant c.requires.below c.requires.few c.if-count-lt64.false).1

pub invariant_of-self-2 : goal.invariant_of-self-2
invariant_of-self-2 c = (passed _ _ _ _ c.self.invariant c.requires.below c.requires.few c.if-count-lt64.false).0
