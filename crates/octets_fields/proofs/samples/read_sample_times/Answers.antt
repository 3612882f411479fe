-- Each read begins where the one before it ended.
use Rattle.octets.proofs.CallerLemmas.{passes_more}
use Rattle.octets_fields.proofs.samples.read_sample_times.Goals as goal

pub returns-clause-ended : goal.returns-clause-ended
returns-clause-ended c = rw c.in_ok-get_u64.ensures.passes.2 at c.in_ok-get_u64-2.ensures.value

pub returns-clause-sent : goal.returns-clause-sent
returns-clause-sent c =
    let two = passes_more c.args.cursor.now c.get_u64.new.self c.get_u64-2.new.self 8 8
    c.in_ok-get_u64.ensures.passes c.in_ok-get_u64-2.ensures.passes in
    rw two.2 at c.in_ok-get_u64-3.ensures.value

pub returns-clause-passes : goal.returns-clause-passes
returns-clause-passes c =
    let two = passes_more c.args.cursor.now c.get_u64.new.self c.get_u64-2.new.self 8 8
    c.in_ok-get_u64.ensures.passes c.in_ok-get_u64-2.ensures.passes in
    passes_more c.args.cursor.now c.get_u64-2.new.self c.get_u64-3.new.self 16 8 two c.in_ok-get_u64-3.ensures.passes
