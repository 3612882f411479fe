-- the bits of the codes so far, and those to come
use Rattle.std.proofs.Common.{◌≡◌, ◌+◌, ◌*◌, ◌≤◌, drop, length}
use Rattle.octets_code.specs.Texts.{codes}
use Rattle.octets.specs.Encodes.{cased}
use Rattle.octets.proofs.huffman.length.short_bit_len.Given as goal

abbrev pub invariant-loop-pair : goal.invariant-loop-pair
invariant-loop-pair l = record {
  counted : l.first + l.second + length (codes (drop (2 * l.pair-index) (cased l.to_lower l.src)))
      ≡ length (codes (cased l.to_lower l.src));
  small : (l.first ≤ 30 * l.pair-index) × (l.second ≤ 30 * l.pair-index);
}
