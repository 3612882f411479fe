use Rattle.std.proofs.Common.{arith}
use Rattle.octets.proofs.lemmas.Stopping.{in_byte}
use Rattle.octets.proofs.huffman.decode.fault.begins_byte.Goals as goal

pub returns-clause-yes : goal.returns-clause-yes
returns-clause-yes c =
    let same = in_byte c.args.text.now c.args.at c.requires.inside in
    λ is. grind arith

pub returns-clause-no : goal.returns-clause-no
returns-clause-no c =
    let same = in_byte c.args.text.now c.args.at c.requires.inside in
    λ is. grind arith
