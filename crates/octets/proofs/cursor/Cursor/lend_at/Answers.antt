use Rattle.std.proofs.Common.{refl}
use Rattle.octets.proofs.lemmas.Splices.{standing_is}
use Rattle.octets.proofs.cursor.Cursor.lend_at.Goals as goal

pub returns : goal.returns
returns g c = let s = c.args.self.now in
    ((refl, λ w. standing_is s c.args.from s.off w _), record { writes_back = tt; shows = c.part_mut.ensures.shows })
