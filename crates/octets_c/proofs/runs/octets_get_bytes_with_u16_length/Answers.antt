use Rattle.std.proofs.Common.{◌≡◌, ◌+◌}
use Rattle.octets_c.specs.Statuses.{done}
use Rattle.octets_c.proofs.Places.{told_behind, ends_behind}
use Rattle.octets_c.proofs.runs.octets_get_bytes_with_u16_length.Goals as goal
use Rattle.octets_c.proofs.runs.octets_get_bytes_with_u16_length.Goals.{After-tell}

pub tell-requires : goal.tell-requires
tell-requires c =
    let read = c.get_bytes_with_u16_length-answer in
    ends_behind read.result c.in-Ok.cursor read.new.self 2 _ _ read.ensures.fits read.ensures.view read.ensures.passes
    c.off.ensures.position

told : (c : After-tell) → c.tell.result ≡ done
    → (c.tell.new.run.from ≡ c.args.off.now + 2) × (c.off.result ≡ c.tell.new.run.from + c.tell.new.run.len)
told c =
    let read = c.get_bytes_with_u16_length-answer in
    told_behind read.result c.in-Ok.cursor read.new.self _ 2 _ _ _ _ _ c.in-Ok.ensures.stands.1 read.ensures.fits
    read.ensures.view read.ensures.passes c.off.ensures.position
    c.tell.ensures.len c.tell.ensures.from c.tell.ensures.short

pub returns-clause-from : goal.returns-clause-from
returns-clause-from c = λ is. (told c is).0

pub returns-clause-passes : goal.returns-clause-passes
returns-clause-passes c = λ is. (told c is).1
