use Rattle.std.proofs.Common.{◌≡◌, ◌*◌, ◌^◌, ◌<◌, take}
use Rattle.octets_code.specs.Bits.{bits_of}
use Rattle.octets_code.specs.Texts.{bits}
use Rattle.octets.proofs.huffman.decode.window.last_word.Given as goal

abbrev pub invariant-loop-byte : goal.invariant-loop-byte
invariant-loop-byte l = record {
  read : bits_of (8 * l.byte-index) l.word ≡ bits (take l.byte-index l.text);
  small : l.word < 2 ^ (8 * l.byte-index);
}
