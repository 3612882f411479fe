use Rattle.std.proofs.Common.{◌*◌, ◌≤◌, ◌<◌}
use Rattle.octets_code.specs.States.{path}
use Rattle.octets_pieces.specs.Pieces.{HasRead}
use Rattle.octets_pieces.proofs.decoder.Decoder.decode.Given as goal

-- what the bytes before this one completed was written
abbrev pub invariant-loop-read : goal.invariant-loop-read
invariant-loop-read l = record {
  has : HasRead l.fn.self (path l.self-inside.index) l.piece l.fn.out l.out l.read l.written;
  few : l.written ≤ 2 * l.read;
  state : l.self-inside.index < 256;
}
