use Rattle.std.proofs.Common.{arith}
use Rattle.octets.proofs.lemmas.Ones.{both_of, ones_few, long_found, thirty_ones}
use Rattle.octets.proofs.lemmas.FirstCodes.{where_none}
use Rattle.octets.proofs.huffman.decode.group.long_code.Goals as goal

pub overflow_sub-ones : goal.overflow_sub-ones
overflow_sub-ones c = omega (arith, ones_few c.args.window)

pub code_behind-requires-clause-few : goal.code_behind-requires-clause-few
code_behind-requires-clause-few c = ones_few c.args.window

pub returns-clause-code : goal.returns-clause-code
returns-clause-code c =
    let e = c.code_behind.ensures in
    both_of c.code_behind.result _ _ _ e.code e.zero (grind (arith, long_found))

pub returns-clause-end : goal.returns-clause-end
returns-clause-end c = grind (arith, where_none, thirty_ones)
