-- if giving the bytes that are left ends in some way, giving all bytes ends in the same way
use Rattle.std.proofs.Common.{◌≡◌, drop, length, replicate}
use Rattle.octets.specs.Pieces.{tail_pieces}
use Rattle.octets.proofs.lemmas.Giving.{Onward}
use Rattle.octets.proofs.huffman.encode.put_tail.Given as goal

abbrev pub invariant-loop-byte : goal.invariant-loop-byte
invariant-loop-byte g l = let rest = drop l.byte-index l.byte-items in record {
  gives : Onward (Unit {0}) g.row.T-Error.Denot g.T.Target.appends g.T.Target.room g.T.Target.whole l.fn.target l.target
      rest (replicate (length rest) 1) l.fn.tail (tail_pieces (length l.fn.tail));
  named : g.T.Target.name l.target ≡ g.T.Target.name l.fn.target;
}
