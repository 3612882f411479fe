use Rattle.std.proofs.Common.{◌≡◌, ℕ, ◌+◌, ◌-◌, ◌*◌, ◌≤◌, List, length, take, min}
use Rattle.octets_code.specs.Texts.{bits}
use Rattle.octets.specs.Reading.{IsRead}
use Rattle.octets.proofs.huffman.decode.reading.read_part.Given as goal

abbrev pub invariant-loop-i : goal.invariant-loop-i
invariant-loop-i g l = record {
  read : IsRead (bits (take (l.from + l.i) l.text)) l.max_len (g.S.Store.held l.value) l.state;
  few : length (g.S.Store.held l.value) ≤ length (g.S.Store.held l.fn.value) + 2 * l.i;
  room : min l.max_len (length (g.S.Store.held l.fn.value) + 2 * (length l.text - l.from)) ≤ g.S.Store.room l.value;
  counted : l.steps ≡ l.fn.steps + 2 * l.i;
  added : (w : List ℕ) × g.S.Store.adds l.fn.value l.value w;
}
