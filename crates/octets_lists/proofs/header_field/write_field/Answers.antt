use Rattle.std.proofs.Common.{◌++◌}
use Rattle.octets.specs.Bytes.{network}
use Rattle.octets.specs.Encodes.{cased}
use Rattle.octets.proofs.CallerLemmas.{append_parts, joined, wrote_front, wrote_front_at}
use Rattle.octets.proofs.lemmas.Outcomes.{on_err}
use Rattle.octets_literal.specs.Literals.{canon}
use Rattle.octets_lists.proofs.header_field.write_field.Goals as goal

pub returns-in_err-write_string-clause-front : goal.returns-in_err-write_string-clause-front
returns-in_err-write_string-clause-front c =
    let both = canon c.args.name.now ++ canon c.args.value.now in
    on_err c.from_residual-in_err-write_string.result
    (wrote_front c.args.cursor.now c.write_u8.new.self c.write_string.new.cursor (network 1 c.mark_of.result) both _
    (rw c.mark_of.ensures) c.in_ok-write_u8.ensures.writes c.in_err-write_string.ensures.unchanged)

pub returns-clause-front : goal.returns-clause-front
unfolding cased
returns-clause-front c =
    wrote_front_at c.write_string-2.result c.args.cursor.now c.write_string.new.cursor c.write_string-2.new.cursor
    _ (canon c.args.value.now) _
    (rw (← c.mark_of.ensures) (append_parts (network 1 c.mark_of.result) (canon c.args.name.now) _))
    (joined c.in_ok-write_u8.ensures.writes c.in_ok-write_string.ensures.writes) c.write_string-2.ensures.unchanged
