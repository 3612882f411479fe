-- if giving what waits and the codes that are left ends in some way, giving the whole encoding ends in the same way
use Rattle.std.proofs.Common.{◌≡◌, ◌+◌, ◌*◌, ◌++◌, [], drop, length}
use Rattle.octets_code.specs.Texts.{codes, bytes_of, text}
use Rattle.octets.specs.Encodes.{cased}
use Rattle.octets.specs.Pieces.{pieces, pieces_of_bits}
use Rattle.octets.proofs.lemmas.Giving.{Onward}
use Rattle.octets.proofs.huffman.encode.put_words.Given as goal

abbrev pub invariant-loop-pair : goal.invariant-loop-pair
invariant-loop-pair g l = let all = cased l.to_lower l.v in
    let left = l.pending ++ codes (drop (l.odd + 2 * l.pair-index) all) in record {
      gives : Onward (Unit {0}) g.row.T-Error.Denot g.T.Target.appends g.T.Target.room g.T.Target.whole
          l.fn.target l.target
          (bytes_of left) (pieces_of_bits (length left)) (text all) (pieces all);
      empty : l.v ≡ [] → (l.pending ≡ []) × (l.target ≡ l.fn.target);
      named : g.T.Target.name l.target ≡ g.T.Target.name l.fn.target;
    }
