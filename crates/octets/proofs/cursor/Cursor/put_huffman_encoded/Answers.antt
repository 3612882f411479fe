use Rattle.std.proofs.Common.{refl}
use Rattle.octets.proofs.lemmas.Performs.{cased_put}
use Rattle.octets.proofs.cursor.Cursor.put_huffman_encoded.Goals as goal

pub returns-clause-performs : goal.returns-clause-performs
returns-clause-performs g c = let wrote = c.put_words.ensures.gives in
    cased_put _ c.args.self.now c.put_words.new.target c.args.v.now c.put_words.result wrote.fits wrote.ok
    (wrote.kept refl)
