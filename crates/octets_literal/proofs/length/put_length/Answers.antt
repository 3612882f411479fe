use Rattle.std.proofs.Common.{arith}
use Rattle.octets_literal.proofs.Written.{lengths_written}
use Rattle.octets_literal.proofs.Putting.{calls, puts_done}
use Rattle.octets_literal.proofs.length.put_length.Goals as goal

pub returns : goal.returns
returns g c =
    let W = g.W.OctetsWriter in let e = c.in_ok-put_bytes.ensures in
    let p = puts_done W.written W.room W.whole _ _ _ e.ok e.fits e.capacity e.same_kind in
    grind (arith, calls, lengths_written, p)
