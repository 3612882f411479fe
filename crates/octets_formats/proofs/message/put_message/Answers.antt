-- The length is written last, over the bytes that were written in its place.
use Rattle.std.proofs.Common.{◌≡◌, ◌+◌, ◌-◌, ◌++◌, take, length, sym, subst, ◌∙◌, arith, OnOk}
use Rattle.octets.specs.Bytes.{network}
use Rattle.octets.specs.Cursor.{passed, rest, Passes, Writes}
use Rattle.octets.proofs.CallerLemmas.{joined, length_network}
use Rattle.octets_formats.specs.DnsMessages.{framed, message}
use Rattle.octets_formats.proofs.Framing.{length_last_if}
use Rattle.octets_formats.proofs.message.put_message.Goals as goal

pub returns-clause-writes : goal.returns-clause-writes
unfolding framed
returns-clause-writes g c =
    let e = c.put_bytes.new.self in let f = c.rewind.new.self in let h = c.write_u16-4.new.self in
    let i = c.skip.new.self in let r = c.skip.result in
    let m = message c.args.id c.args.flags c.args.sections.now in
    let sent : Writes c.write_u16.new.self e m =
    joined (joined c.in_ok-write_u16-2.ensures.writes c.in_ok-write_u16-3.ensures.writes)
    c.in_ok-put_bytes.ensures.writes in
    let count : c.off.result - c.off-start.result ≡ length m =
    omega (arith, c.off.ensures.position, c.off-start.ensures.position, sent.past) in
    let whole : 2 + (c.off.result - c.off-start.result) ≡ length (network 2 0) + length m =
    omega (arith, count, length_network 2 0) in
    length_last_if r c.args.cursor.now e f h i (network 2 0) (network 2 (length m)) m
    (length_network 2 (length m) ∙ sym (length_network 2 0))
    (joined c.in_ok-write_u16.ensures.writes sent) (subst (Passes f e) whole c.in_ok-rewind.ensures.goes_back)
    c.in_ok-rewind.ensures.stays_before c.in_ok-rewind.ensures.stands_again
    (subst (λ k. Writes f h (network 2 k)) count c.in_ok-write_u16-4.ensures.writes)
    (subst (λ k. OnOk r (Passes h i k)) count c.skip.ensures.passes)
    (subst (λ k. OnOk r (passed i ≡ passed h ++ take k (rest h))) count c.skip.ensures.before)
