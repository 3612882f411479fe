-- The view shows all that remains, so what was read from it is the same as read from the cursor.
use Rattle.std.proofs.Common.{◌∙◌}
use Rattle.octets_fields.proofs.Places.{whole_view}
use Rattle.octets_fields.proofs.samples.read_sample.Goals as goal

pub returns-clause-source : goal.returns-clause-source
returns-clause-source c =
    let same = whole_view c.args.cursor.now c.in_ok-ahead.ahead _ c.cap.ensures.remaining c.in_ok-ahead.ensures.view in
    rw same at c.in_ok-sample.ensures.source

pub returns-clause-sensor : goal.returns-clause-sensor
returns-clause-sensor c =
    let same = whole_view c.args.cursor.now c.in_ok-ahead.ahead _ c.cap.ensures.remaining c.in_ok-ahead.ensures.view in
    rw same at c.in_ok-sample.ensures.sensor

pub returns-clause-count : goal.returns-clause-count
returns-clause-count c =
    let same = whole_view c.args.cursor.now c.in_ok-ahead.ahead _ c.cap.ensures.remaining c.in_ok-ahead.ensures.view in
    rw same at c.in_ok-sample.ensures.count

pub returns-clause-begun : goal.returns-clause-begun
returns-clause-begun c =
    let same = whole_view c.args.cursor.now c.in_ok-ahead.ahead _ c.cap.ensures.remaining c.in_ok-ahead.ensures.view in
    rw same at c.in_ok-sample.ensures.begun

pub returns-clause-ended : goal.returns-clause-ended
returns-clause-ended c =
    let same = whole_view c.args.cursor.now c.in_ok-ahead.ahead _ c.cap.ensures.remaining c.in_ok-ahead.ensures.view in
    rw same at c.in_ok-sample.ensures.ended

pub returns-clause-sent : goal.returns-clause-sent
returns-clause-sent c =
    let same = whole_view c.args.cursor.now c.in_ok-ahead.ahead _ c.cap.ensures.remaining c.in_ok-ahead.ensures.view in
    rw same at c.in_ok-sample.ensures.sent

pub returns-clause-value : goal.returns-clause-value
returns-clause-value c =
    let same = whole_view c.args.cursor.now c.in_ok-ahead.ahead _ c.cap.ensures.remaining c.in_ok-ahead.ensures.view in
    rw same at c.in_ok-sample.ensures.value

pub returns-clause-every : goal.returns-clause-every
returns-clause-every c =
    let same = whole_view c.args.cursor.now c.in_ok-ahead.ahead _ c.cap.ensures.remaining c.in_ok-ahead.ensures.view in
    λ s after a b d e f g h is. c.in_ok-sample.ensures.every s after a b d e f g h (same ∙ is)

pub returns-in_err-sample-clause-every : goal.returns-in_err-sample-clause-every
returns-in_err-sample-clause-every c =
    let same = whole_view c.args.cursor.now c.in_ok-ahead.ahead _ c.cap.ensures.remaining c.in_ok-ahead.ensures.view in
    λ s after a b d e f g h is. absurd (c.in_err-sample.ensures.every s after a b d e f g h (same ∙ is))
