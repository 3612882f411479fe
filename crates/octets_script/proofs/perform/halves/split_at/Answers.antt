-- Both parts were copied, and each was written over.
use Rattle.std.proofs.Common.{refl}
use Rattle.octets_script.proofs.Endings.{halves_lent}
use Rattle.octets_script.proofs.perform.halves.split_at.Goals as goal

pub returns-in-Ok-clause-answers : goal.returns-in-Ok-clause-answers
returns-in-Ok-clause-answers c =
    let fits = c.in-Ok.ensures.fits.0 refl in
    let told = halves_lent c.args.cursor.now c.over_halves.new.cursor c.args.off c.args.left.now c.args.right.now
    c.in_ok-before.before.items c.in_ok-before.after.items
    fits (c.in_ok-before.ensures.before fits) (c.in_ok-before.ensures.after fits)
    c.in-Ok.ensures.bytes c.in-Ok.ensures.position in
    (told, c.over_halves.ensures.same_reference)
