-- if giving what waits and the codes that are left ends in some way, giving the whole encoding ends in the same way
use Rattle.std.proofs.Common.{◌≡◌, ◌+◌, ◌<◌, ◌++◌, [], drop, length}
use Rattle.octets_code.specs.Texts.{codes, bytes_of}
use Rattle.octets.specs.Capacities.{Appends}
use Rattle.octets.specs.Encodes.{cased, text_of}
use Rattle.octets.proofs.lemmas.Giving.{Onward}
use Rattle.octets_vectors.proofs.Singles.{singles}
use Rattle.octets_vectors.proofs.plain.put_text.Given as goal

abbrev pub invariant-loop-byte : goal.invariant-loop-byte
invariant-loop-byte g l =
    let W = g.W.OctetsWriter in let t = text_of l.to_lower l.v in
    let left = bytes_of (l.waiting ++ codes (drop l.byte-index (cased l.to_lower l.v))) in
    record {
      gives : Onward (Unit {0}) g.row.W-Error.Denot (Appends W.written W.room W.whole)
          W.room W.whole l.fn.sink l.sink left (singles left) t (singles t);
      few : length l.waiting < 8;
      empty : l.v ≡ [] → l.waiting ≡ [];
    }

abbrev pub invariant-loop-whole : goal.invariant-loop-whole
invariant-loop-whole g l =
    let W = g.W.OctetsWriter in let t = text_of l.to_lower l.v in
    let left = bytes_of (l.waiting ++ codes (drop (l.byte-index + 1) (cased l.to_lower l.v))) in
    record {
      gives : Onward (Unit {0}) g.row.W-Error.Denot (Appends W.written W.room W.whole)
          W.room W.whole l.fn.sink l.sink left (singles left) t (singles t);
    }

abbrev pub decreases-loop-whole : goal.decreases-loop-whole
decreases-loop-whole g l = length l.waiting
