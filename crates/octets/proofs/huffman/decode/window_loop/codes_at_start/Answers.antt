use Rattle.std.proofs.Common.{arith}
use Rattle.octets.proofs.lemmas.FirstCodes.{open_first}
use Rattle.octets.proofs.huffman.decode.window_loop.codes_at_start.Goals as goal

pub returns-in-None-clause-none : goal.returns-in-None-clause-none
returns-in-None-clause-none c = λ _. open_first _ c.args.left c.in-None.ensures.none (omega arith)
