use Rattle.std.proofs.Common.{◌≡◌, ◌-◌, ◌*◌, ◌≤◌, length, take}
use Rattle.octets_code.specs.Bits.{bits_of}
use Rattle.octets.specs.Windows.{IsShown}
use Rattle.octets.proofs.huffman.decode.short.look_through.Given as goal

abbrev pub invariant-looks : goal.invariant-looks
invariant-looks l = record {
  few : l.looks ≤ 8;
  room : length l.value ≡ 32;
  least : 64 * l.count ≤ l.sums;
  shown : IsShown (bits_of 64 l.window) l.looks (l.sums - 64 * l.count) l.count l.inverse (take l.count l.value);
}

abbrev pub decreases-looks : goal.decreases-looks
decreases-looks l = 8 - l.looks
