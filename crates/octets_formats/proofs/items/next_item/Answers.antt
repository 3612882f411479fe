-- The view shows all that remains, so what was read from it is the same as read from the cursor.
use Rattle.std.proofs.Common.{refl, subst, ◌∙◌}
use Rattle.octets.specs.Cursor.{Passes}
use Rattle.octets_formats.proofs.Looking.{same_place, whole_view}
use Rattle.octets_formats.proofs.items.next_item.Goals as goal

pub returns-clause-fits : goal.returns-clause-fits
returns-clause-fits c =
    let same = whole_view c.args.cursor.now c.in_ok-ahead.ahead _ c.cap.ensures.remaining c.in_ok-ahead.ensures.view in
    (λ _. rw same at (c.in_ok-item.ensures.fits.0 refl), λ _. refl)

pub returns-clause-passes : goal.returns-clause-passes
returns-clause-passes c =
    let a = c.args.cursor.now in
    let place = same_place a c.in_ok-ahead.ahead c.read_item.new.cursor c.skip.new.self _ _ _ c.cap.ensures.remaining
    c.in_ok-ahead.ensures.view c.in_ok-item.ensures.passes c.off.ensures.position c.in_ok-skip.ensures.passes in
    subst (Passes a c.skip.new.self) place.0 c.in_ok-skip.ensures.passes

pub returns-clause-every : goal.returns-clause-every
returns-clause-every c = λ kind body after small short e.
    let same = whole_view c.args.cursor.now c.in_ok-ahead.ahead _ c.cap.ensures.remaining c.in_ok-ahead.ensures.view in
    (c.in_ok-item.ensures.every kind body after small short (same ∙ e)).0

pub returns-in_err-item-clause-every : goal.returns-in_err-item-clause-every
returns-in_err-item-clause-every c = λ kind body after small short e.
    let same = whole_view c.args.cursor.now c.in_ok-ahead.ahead _ c.cap.ensures.remaining c.in_ok-ahead.ensures.view in
    absurd ((c.in_err-item.ensures.every kind body after small short (same ∙ e)).0)
