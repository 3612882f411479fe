use Rattle.std.proofs.Common.{sym}
use Rattle.octets_c.proofs.Places.{past_length, refused_holds}
use Rattle.octets_c.proofs.runs.octets_get_bytes_with_varint_length.Goals as goal

pub returns-clause-past_length : goal.returns-clause-past_length
returns-clause-past_length c =
    λ other _. past_length c.in-Ok.cursor c.get_bytes_with_varint_length-answer.new.self _ _ _ c.in-Ok.ensures.stands
    (sym c.off.ensures.position)
    (refused_holds c.get_bytes_with_varint_length-answer.result c.tell.result c.tell.ensures.done other
    c.get_bytes_with_varint_length-answer.ensures.refused)
