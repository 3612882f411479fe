-- In lower case the next byte follows those that were put. If the call fails, these and those to come are the
-- value.
use Rattle.std.proofs.Common.{◌+◌, sym, ◌∙◌, arith, take-append-drop}
use Rattle.octets_code.specs.Texts.{lower}
use Rattle.octets_literal.proofs.Putting.{calls, puts_done, puts_front, puts_then}
use Rattle.octets_literal.proofs.Written.{cased-on, lower-next}
use Rattle.octets_literal.proofs.put.put_plain.Goals as goal

pub returns-in_err-put_bytes : goal.returns-in_err-put_bytes
returns-in_err-put_bytes g c =
    let W = g.W.OctetsWriter in let e = c.in_err-put_bytes.ensures in
    let v = c.args.v.now in let i = c.loop-byte.byte-index in
    let next = lower-next v i _ c.loop-byte-test.true c.to_ascii_lowercase.ensures.value in
    let p = puts_front W.written W.room W.whole _ _ _ _ e.err.1 e.fits e.capacity e.same_kind in
    let q = puts_then W.written W.room W.whole _ _ _ _ _ _ c.loop-byte.invariant.given p in
    let parts = cased-on _ v c.if-not-to_lower.false ∙ sym (take-append-drop (i + 1) (lower v)) in
    grind (arith, calls, next, q, parts)

pub loop-byte-preserved : goal.loop-byte-preserved
loop-byte-preserved g c =
    let W = g.W.OctetsWriter in let e = c.in_ok-put_bytes.ensures in
    let p = puts_done W.written W.room W.whole _ _ _ e.ok e.fits e.capacity e.same_kind in
    grind (arith, calls, lower-next, p)
