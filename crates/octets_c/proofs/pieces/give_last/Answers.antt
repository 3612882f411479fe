use Rattle.std.proofs.Common.{arith}
use Rattle.octets_c.proofs.Waiting.{piece_given}
use Rattle.octets_c.proofs.pieces.give_last.Goals as goal

pub returns-clause-bytes : goal.returns-clause-bytes
returns-clause-bytes c =
    piece_given c.args.place.now _ _ _ _ _ c.requires (omega (arith, c.fits-place))
    c.to_be_bytes-bytes.ensures c.copy_from_slice.ensures.after (omega arith)
    (c.next_len-len.ensures.within (omega (arith, c.if-len-eq0.false)))
