use Rattle.std.proofs.Common.{arith}
use Rattle.octets.proofs.lemmas.WordOps.{is_high}
use Rattle.octets.proofs.huffman.pending.Pending.of_bits.Goals as goal

pub invariant_of-result : goal.invariant_of-result
invariant_of-result c = is_high _ _ c.requires.few c.requires.no_others (omega (arith, c.ranges.bits.fits))
