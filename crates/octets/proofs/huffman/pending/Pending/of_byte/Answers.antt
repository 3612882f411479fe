use Rattle.std.proofs.Common.{arith}
use Rattle.octets.proofs.lemmas.WordOps.{moved}
use Rattle.octets.proofs.huffman.pending.Pending.of_byte.Goals as goal

pub invariant_of-result : goal.invariant_of-result
invariant_of-result c =
    rw (c.from-count.ensures, c.from-2.ensures) (moved _ _ (omega arith) c.code_of-code.ensures.small.2).1
