use Rattle.std.proofs.Common.{arith}
use Rattle.octets.proofs.lemmas.WordOps.{shl_or}
use Rattle.octets.proofs.huffman.pending.Pending.push_pair.Goals as goal

pub push_bits-requires-clause-below : goal.push_bits-requires-clause-below
push_bits-requires-clause-below c =
    rw (c.from-5.ensures, c.from-len.ensures, c.from-3.ensures, c.from-4.ensures)
    (shl_or _ _ _ _ c.code_of-first.ensures.small.2 (omega arith) c.code_of-second.ensures.small.2).1
