use Rattle.std.proofs.Common.{◌*◌, ◌-◌, ◌≤◌, length, min}
use Rattle.octets_code.specs.Texts.{AreBytes}
use Rattle.octets.specs.Windows.{IsWindow, AreCut}
use Rattle.octets.proofs.huffman.decode.window_loop.read_whole.Given as goal

abbrev pub invariant-groups : goal.invariant-groups
invariant-groups g l = record {
  inside : l.at ≤ 8 * length l.text;
  window : IsWindow l.text l.at l.window;
  cut : AreCut l.text l.at (g.S.Store.held l.value);
  bytes : AreBytes (g.S.Store.held l.value);
  within : length (g.S.Store.held l.value) ≤ l.max_len;
  room : min (2 * length l.text) l.max_len ≤ g.S.Store.room l.value;
  added : g.S.Store.adds l.fn.value l.value (g.S.Store.held l.value);
}

abbrev pub decreases-groups : goal.decreases-groups
decreases-groups g l = 8 * length l.text - l.at
