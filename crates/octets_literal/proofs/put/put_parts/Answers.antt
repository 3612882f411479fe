use Rattle.std.proofs.Common.{arith}
use Rattle.octets_literal.proofs.Putting.{calls, puts_by}
use Rattle.octets_literal.proofs.Written.{canon-cased_text}
use Rattle.octets_literal.proofs.put.put_parts.Goals as goal

pub returns-in_ok-put_length-in-Some : goal.returns-in_ok-put_length-in-Some
returns-in_ok-put_length-in-Some g c =
    let W = g.W.OctetsWriter in let e = c.put_huffman_encoded.ensures in
    let r = c.put_huffman_encoded.result in
    let p = puts_by W.written W.room W.whole _ _ r _ e.ok e.err e.fits e.capacity e.same_kind in
    grind (arith, calls, canon-cased_text, p)
