use Rattle.std.proofs.Common.{◌≡◌, ◌++◌, take, vec_capacity}
use Rattle.octets.proofs.huffman.decode.store.push_all.Given as goal

abbrev pub invariant-loop-byte : goal.invariant-loop-byte
invariant-loop-byte l = record {
  pushed : l.value.items ≡ l.fn.value.items ++ take l.byte-index l.bytes;
  capacity : vec_capacity l.value ≡ vec_capacity l.fn.value;
}
