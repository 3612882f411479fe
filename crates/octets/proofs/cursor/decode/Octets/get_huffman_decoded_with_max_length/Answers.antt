use Rattle.octets.proofs.lemmas.Performs.{decodes}
use Rattle.octets.proofs.cursor.decode.Octets.get_huffman_decoded_with_max_length.Goals as goal

pub returns-clause-performs : goal.returns-clause-performs
returns-clause-performs c =
    let told = c.get_huffman_decoded_counted.ensures in
    decodes c.args.self.now c.get_huffman_decoded_counted.new.self c.args.max_len
    c.get_huffman_decoded_counted.result told.value told.ends
