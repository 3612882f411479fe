use Rattle.std.proofs.Common.{arith}
use Rattle.octets_code.proofs.TextLemmas.{each_byte}
use Rattle.octets.proofs.lemmas.TextsRead.{whole_answer, whole_refusal, behind_end}
use Rattle.octets.proofs.huffman.decode.reading.end_text.Goals as goal

pub returns-then-is_fill-clause-answer : goal.returns-then-is_fill-clause-answer
returns-then-is_fill-clause-answer c = grind (arith, whole_answer, each_byte)

pub returns-else-is_fill-clause-refused : goal.returns-else-is_fill-clause-refused
returns-else-is_fill-clause-refused c = λ m v r. whole_refusal c.args.text.now m _ _ r (grind arith)

pub returns-else-is_fill-clause-behind : goal.returns-else-is_fill-clause-behind
returns-else-is_fill-clause-behind c = λ m v r. behind_end c.args.text.now m _ _ r
