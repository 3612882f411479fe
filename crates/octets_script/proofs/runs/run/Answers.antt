-- The next command is performed after those that were.
use Rattle.std.proofs.Common.{take, map, ap, ◌∙◌, arith}
use Rattle.octets.specs.Cursor.{bytes, position}
use Rattle.std.proofs.lemmas.List.{map_push}
use Rattle.std.proofs.lemmas.Option.{slice_get-get_or}
use Rattle.octets_script.specs.Calls.{call_of, answer_of}
use Rattle.octets_script.proofs.EachPlayed.{plays_more, take_next}
use Rattle.octets_script.proofs.runs.run.Goals as goal

pub loop-done-preserved : goal.loop-done-preserved
loop-done-preserved c =
    let done = c.loop-done.done in
    let cs = c.args.commands.now in
    let s = c.args.cursor.now in
    let t = c.loop-done.cursor in
    let u = c.perform.new.cursor in
    let x = c.index-commands-done.result in
    let answers = c.in-Ok-perform.ensures.answers in
    let front = take_next cs done x c.loop-done-test.true c.index-commands-done.is in
    let more =
    plays_more (map call_of (take done cs)) (call_of x) (bytes s) (position s) (map answer_of c.loop-done.replies.items)
    (answer_of c.in-Ok-perform.reply) (bytes t) (position t) (bytes u) (position u)
    c.loop-done.invariant.played answers.0 in
    record {
      played = rw (
        ap (map call_of) front ∙ map_push call_of (take done cs) x,
        ap (map answer_of) c.push_reserved.ensures.items
            ∙ map_push answer_of c.loop-done.replies.items c.in-Ok-perform.reply,
      ) more;
      same_reference = answers.1 ∙ c.loop-done.invariant.same_reference;
      count = c.push_reserved.ensures.len ∙ (let k = c.loop-done.invariant.count in omega (arith, k));
      room = c.push_reserved.ensures.capacity ∙ c.loop-done.invariant.room;
    }

pub returns-in-Err-perform-clause-stopped : goal.returns-in-Err-perform-clause-stopped
returns-in-Err-perform-clause-stopped c =
    let same = c.in-Err-perform.ensures.refused.0 in rw (same.0, same.1) c.loop-done.invariant.played

pub returns-in-Err-perform-clause-needs_room : goal.returns-in-Err-perform-clause-needs_room
returns-in-Err-perform-clause-needs_room c = λ some.
    let x = c.index-commands-done in
    let needs = c.in-Err-perform.ensures.refused in
    rw (slice_get-get_or _ _ x.result c.loop-done-test.true, ← x.is, needs.0.0, needs.0.1) needs.1
