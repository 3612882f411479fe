-- The view shows all that remains, so what was read from it is the same as read from the cursor.
use Rattle.std.proofs.Common.{ap, subst, ◌∙◌}
use Rattle.octets.specs.Cursor.{Passes}
use Rattle.octets_fields.specs.Padded.{padded_len}
use Rattle.octets_fields.proofs.Places.{same_place, whole_view}
use Rattle.octets_fields.proofs.padded.next_padded.Goals as goal

pub returns-clause-view : goal.returns-clause-view
returns-clause-view c =
    let same = whole_view c.args.cursor.now c.in_ok-ahead.ahead _ c.cap.ensures.remaining c.in_ok-ahead.ensures.view in
    rw same at c.in_ok-v.ensures.view

pub returns-clause-passes : goal.returns-clause-passes
returns-clause-passes c =
    let a = c.args.cursor.now in
    let same = whole_view a c.in_ok-ahead.ahead _ c.cap.ensures.remaining c.in_ok-ahead.ensures.view in
    let place = same_place a c.in_ok-ahead.ahead c.read_padded.new.cursor c.skip.new.self _ _ _ c.cap.ensures.remaining
    c.in_ok-ahead.ensures.view c.in_ok-v.ensures.passes c.off.ensures.position c.in_ok-skip.ensures.passes in
    subst (Passes a c.skip.new.self) (place.0 ∙ ap (padded_len 2) same) c.in_ok-skip.ensures.passes

pub returns-clause-every : goal.returns-clause-every
returns-clause-every c = λ v after small e.
    let a = c.args.cursor.now in
    let same = whole_view a c.in_ok-ahead.ahead _ c.cap.ensures.remaining c.in_ok-ahead.ensures.view in
    let place = same_place a c.in_ok-ahead.ahead c.read_padded.new.cursor c.skip.new.self _ _ _ c.cap.ensures.remaining
    c.in_ok-ahead.ensures.view c.in_ok-v.ensures.passes c.off.ensures.position c.in_ok-skip.ensures.passes in
    let read = c.in_ok-v.ensures.every v after small (same ∙ e) in (read.0, place.1 ∙ read.1)
