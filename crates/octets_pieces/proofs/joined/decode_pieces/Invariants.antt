use Rattle.std.proofs.Common.{◌≡◌, ◌*◌, ◌^◌, ◌≤◌, length, take, drop}
use Rattle.std.specs.List.{flat_map}
use Rattle.octets_code.specs.Texts.{bits, AreBytes}
use Rattle.octets_pieces.specs.Pieces.{AreRead}
use Rattle.octets_pieces.proofs.joined.decode_pieces.Given as goal

-- what the pieces before this one completed was written
abbrev pub invariant-loop-piece : goal.invariant-loop-piece
invariant-loop-piece l = record {
  read : AreRead (bits (flat_map (λ p. p.now) (take l.piece-index l.pieces))) (take l.so_far.written l.out) l.decoder;
  bytes : AreBytes (flat_map (λ p. p.now) (take l.piece-index l.pieces));
  place : l.so_far.read ≡ length (flat_map (λ p. p.now) (take l.piece-index l.pieces));
  few : l.so_far.read ≤ l.piece-index * 2 ^ 64;
  len : length l.out ≡ length l.fn.out;
  fits : l.so_far.written ≤ length l.fn.out;
  behind : drop l.so_far.written l.out ≡ drop l.so_far.written l.fn.out;
}
