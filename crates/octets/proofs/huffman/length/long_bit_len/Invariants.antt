-- the bits of the codes so far, and those to come
use Rattle.std.proofs.Common.{◌≡◌, ◌+◌, ◌*◌, ◌≤◌, drop, length}
use Rattle.octets_code.specs.Texts.{codes}
use Rattle.octets.specs.Encodes.{cased}
use Rattle.octets.proofs.huffman.length.long_bit_len.Given as goal

abbrev pub invariant-loop-byte : goal.invariant-loop-byte
invariant-loop-byte l = record {
  counted : l.bits + length (codes (drop l.byte-index (cased l.to_lower l.src)))
      ≡ length (codes (cased l.to_lower l.src));
  small : l.bits ≤ 30 * l.byte-index;
}
