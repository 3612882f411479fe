use Rattle.std.proofs.Common.{◌∙◌, arith}
use Rattle.octets.proofs.lemmas.WindowBits.{word_bits, eight_bytes, ended_at}
use Rattle.octets.proofs.huffman.decode.window.first_window.Goals as goal

pub returns-then-text-ge8 : goal.returns-then-text-ge8
returns-then-text-ge8 c = word_bits c.word_of.result _ c.word_of.ensures
    ∙ eight_bytes c.args.text.now 0 (omega (arith, c.if-text-ge8.true))

pub returns : goal.returns
returns c = c.rest_and_ones.ensures.bits
    ∙ ended_at c.args.text.now c.args.last 0 _ c.requires.last (omega (arith, c.if-text-ge8.false)) (omega arith)
