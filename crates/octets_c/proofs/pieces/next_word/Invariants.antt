-- the same bits are left
use Rattle.std.proofs.Common.{◌≡◌, ◌≤◌}
use Rattle.octets_c.specs.Pieces.{bits_left, HoldsBits}
use Rattle.octets_c.proofs.pieces.next_word.Given as goal

abbrev pub invariant-loop-at : goal.invariant-loop-at
invariant-loop-at l = record {
  holds : HoldsBits l.place;
  at : l.place.at ≡ l.at;
  from : l.fn.place.at ≤ l.at;
  given : l.place.given ≡ l.fn.place.given;
  left : bits_left l.to_lower l.value l.place ≡ bits_left l.to_lower l.value l.fn.place;
}
