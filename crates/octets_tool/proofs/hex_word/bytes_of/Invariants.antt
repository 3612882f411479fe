use Rattle.std.proofs.Common.{◌≡◌, ◌++◌, length, flat_map}
use Rattle.octets.specs.Bytes.{AreBytes}
use Rattle.octets_tool.specs.Lines.{byte_digits}
use Rattle.octets_tool.proofs.hex_word.bytes_of.Given as goal

abbrev pub invariant-loop-rest : goal.invariant-loop-rest
invariant-loop-rest l = record {
  small : AreBytes l.bytes.items;
  read : flat_map byte_digits l.bytes.items ++ l.rest ≡ l.fn.word;
}

abbrev pub decreases-loop-rest : goal.decreases-loop-rest
decreases-loop-rest l = length l.rest
