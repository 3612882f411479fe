use Rattle.octets_c.proofs.Waiting.{tested}
use Rattle.octets_c.proofs.pieces.holds_bits.Goals as goal

pub returns-then-place-lt64 : goal.returns-then-place-lt64
returns-then-place-lt64 c = tested c.args.place.now.count c.args.place.now.bits c.if-place-lt64.true
