use Rattle.std.proofs.Common.{refl, rules}
use Rattle.octets.proofs.lemmas.Outcomes.{on_err}
use Rattle.octets_script.specs.Calls.{PeekBytes}
use Rattle.octets_script.proofs.Performed.{copied, lacking}
use Rattle.octets_script.proofs.perform.reads.peek_bytes.Goals as goal

pub returns-clause-answers : goal.returns-clause-answers
returns-clause-answers c = let read = c.peek_bytes in let after = read.follows.lender-at-none in
    copied (PeekBytes c.args.len) c.args.cursor.now after after _
    (read.ensures.performs after read.follows.holds-at-none)
    refl refl c.copied_reply.result c.copied_reply.ensures.copied (search rules)

pub returns-clause-refused : goal.returns-clause-refused
returns-clause-refused c = let read = c.peek_bytes in let after = read.follows.lender-at-none in
    lacking (PeekBytes c.args.len) c.args.cursor.now after after _
    (read.ensures.performs after read.follows.holds-at-none)
    refl refl c.copied_reply.result c.copied_reply.ensures.refused
    (on_err c.copied_reply.result read.follows.holds-at-none.0)
