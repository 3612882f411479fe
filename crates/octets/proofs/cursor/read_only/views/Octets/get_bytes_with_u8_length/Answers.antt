use Rattle.std.proofs.Common.{◌∙◌, arith, rules}
use Rattle.octets.specs.Does.{Does}
use Rattle.octets.proofs.lemmas.Performs.{after_number, no_number, two_reads}
use Rattle.octets.proofs.cursor.read_only.views.Octets.get_bytes_with_u8_length.Goals as goal

pub returns-in_err-len-clause-performs : goal.returns-in_err-len-clause-performs
unfolding Does
returns-in_err-len-clause-performs c =
    let none = no_number c.args.self.now c.get_u8.new.self c.from_residual.result 1 (search rules) (grind arith)
    c.in_err-len.ensures.refused in
    (none.0, none.1)

pub returns-clause-performs : goal.returns-clause-performs
unfolding Does
returns-clause-performs c =
    let run = c.get_bytes.ensures in
    let two = two_reads c.args.self.now c.get_u8.new.self c.get_bytes.new.self c.get_bytes.result 1 _ _
    (c.from.ensures ∙ c.in_ok-len.ensures.value) c.in_ok-len.ensures.passes (grind arith) run.fits run.view
    (run.passes, run.refused) in
    let told = after_number c.args.self.now c.get_bytes.new.self c.get_bytes.result 1 (grind arith) two.0 two.1
    two.2 two.3 in
    (told.0, told.1)
