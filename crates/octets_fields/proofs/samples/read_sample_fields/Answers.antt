-- The times are after 12 bytes, and the value after 36.
use Rattle.std.proofs.Common.{ap, ◌∙◌}
use Rattle.octets.specs.Bytes.{number}
use Rattle.octets.specs.Cursor.{rest}
use Rattle.octets.proofs.CallerLemmas.{passes_more}
use Rattle.octets_fields.proofs.Places.{part_behind}
use Rattle.octets_fields.proofs.samples.read_sample_fields.Goals as goal

pub returns-clause-begun : goal.returns-clause-begun
returns-clause-begun c =
    c.in_ok-begun.ensures.begun
    ∙ ap number (part_behind (rest c.args.cursor.now) _ 12 0 8 c.in_ok-source.ensures.passes.2)

pub returns-clause-ended : goal.returns-clause-ended
returns-clause-ended c =
    c.in_ok-begun.ensures.ended
    ∙ ap number (part_behind (rest c.args.cursor.now) _ 12 8 8 c.in_ok-source.ensures.passes.2)

pub returns-clause-sent : goal.returns-clause-sent
returns-clause-sent c =
    c.in_ok-begun.ensures.sent
    ∙ ap number (part_behind (rest c.args.cursor.now) _ 12 16 8 c.in_ok-source.ensures.passes.2)

pub returns-clause-value : goal.returns-clause-value
returns-clause-value c =
    let past = passes_more c.args.cursor.now c.read_sample_ids.new.cursor c.read_sample_times.new.cursor 12 24
    c.in_ok-source.ensures.passes c.in_ok-begun.ensures.passes in
    rw past.2 at c.in_ok-value.ensures.value
