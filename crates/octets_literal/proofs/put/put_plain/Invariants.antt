-- as many bytes as the loop has passed were given
use Rattle.std.proofs.Common.{take, true}
use Rattle.octets_code.specs.Texts.{lower}
use Rattle.octets_literal.specs.Puts.{Puts}
use Rattle.octets_literal.proofs.put.put_plain.Given as goal

abbrev pub invariant-loop-byte : goal.invariant-loop-byte
invariant-loop-byte g l = record {
  given : Puts g.W.OctetsWriter.written g.W.OctetsWriter.room g.W.OctetsWriter.whole l.fn.sink l.sink true
      (take l.byte-index (lower l.v));
}
