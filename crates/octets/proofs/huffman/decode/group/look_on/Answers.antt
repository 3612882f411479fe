use Rattle.std.proofs.Common.{arith}
use Rattle.octets.proofs.lemmas.WindowBits.{take-bits_of}
use Rattle.octets.proofs.lemmas.Groups.{seen_more}
use Rattle.octets.proofs.huffman.decode.group.look_on.Goals as goal

pub returns-clause-more : goal.returns-clause-more
returns-clause-more c = λ x k h s. rw (c.from-cut.ensures, c.from.ensures) (seen_more x k c.args.seen.rest
    c.args.seen.sums c.args.seen.bytes c.look_at-look.result.cut c.look_at-look.result.pair h s c.look_at-look.ensures)

pub returns-clause-none : goal.returns-clause-none
returns-clause-none c =
    λ e. rw (take-bits_of 64 12 c.args.seen.rest (omega arith)) (grind arith)
