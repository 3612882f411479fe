use Rattle.std.proofs.Common.{◌≡◌, ◌*◌, ◌/◌, ◌^◌, ◌++◌, vec_capacity}
use Rattle.octets.specs.Windows.{low_bytes}
use Rattle.octets.proofs.huffman.decode.store.push_low.Given as goal

abbrev pub invariant-loop : goal.invariant-loop
invariant-loop l = record {
  pushed : l.value.items ≡ l.fn.value.items ++ low_bytes l.counter l.word;
  capacity : vec_capacity l.value ≡ vec_capacity l.fn.value;
  rest : l.rest ≡ l.word / 2 ^ (8 * l.counter);
}
