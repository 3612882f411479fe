use Rattle.std.proofs.Common.{arith}
use Rattle.octets_code.proofs.Paths.{fill_at}
use Rattle.octets_pieces.proofs.decoder.Decoder.finish.Goals as goal

pub returns-then-fill : goal.returns-then-fill
returns-then-fill c =
    let f = fill_at c.self.inside.index c.self.invariant in
    rw (← c.self.view_is) ((λ e. f.0 (grind (arith, c.if-fill.true))), (λ e. grind arith))

pub returns-else-fill : goal.returns-else-fill
returns-else-fill c =
    let f = fill_at c.self.inside.index c.self.invariant in
    rw (← c.self.view_is) ((λ e. grind arith), (λ e. grind (arith, f.1 e, c.if-fill.false)))
