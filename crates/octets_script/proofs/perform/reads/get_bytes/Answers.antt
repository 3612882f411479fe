use Rattle.std.proofs.Common.{arith}
use Rattle.octets_script.specs.Calls.{GetBytes}
use Rattle.octets_script.proofs.Performed.{copied, lacking}
use Rattle.octets_script.proofs.perform.reads.get_bytes.Goals as goal

pub or_go_back-requires : goal.or_go_back-requires
or_go_back-requires c = let read = c.get_bytes in
    omega (
      arith,
      (read.ensures.performs read.follows.lender-at-none read.follows.holds-at-none).1.0,
      c.off-from.ensures.position,
    )

pub returns-clause-answers : goal.returns-clause-answers
returns-clause-answers c = let read = c.get_bytes in let back = c.or_go_back.ensures in
    rw back.same_reply (copied (GetBytes c.args.len) c.args.cursor.now read.follows.lender-at-none
    c.or_go_back.new.cursor _
    (read.ensures.performs read.follows.lender-at-none read.follows.holds-at-none) back.same_bytes back.same_reference
    c.copied_reply-reply.result c.copied_reply-reply.ensures.copied back.stays)

pub returns-clause-refused : goal.returns-clause-refused
returns-clause-refused c = let read = c.get_bytes in let back = c.or_go_back.ensures in
    rw back.same_reply (lacking (GetBytes c.args.len) c.args.cursor.now read.follows.lender-at-none
    c.or_go_back.new.cursor _
    (read.ensures.performs read.follows.lender-at-none read.follows.holds-at-none) back.same_bytes back.same_reference
    c.copied_reply-reply.result c.copied_reply-reply.ensures.refused (rw c.off-from.ensures.position at back.back))
