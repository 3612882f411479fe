-- A list begins with at most one varint, so the one that was read is the one in the clause.
use Rattle.std.proofs.Common.{arith}
use Rattle.octets.specs.Cursor.{rest}
use Rattle.octets.proofs.lemmas.Outcomes.{on_err}
use Rattle.octets.proofs.lemmas.Varints.{begins_one}
use Rattle.octets.proofs.cursor.Cursor.get_varint.Goals as goal

pub returns-in_err-width-clause-none : goal.returns-in_err-width-clause-none
returns-in_err-width-clause-none g c =
    on_err c.from_residual.result (rw c.as_slice.ensures at c.in_err-width.ensures.refused)

pub returns-in_err-width-clause-one : goal.returns-in_err-width-clause-one
returns-in_err-width-clause-one g c w n v = absurd (rw c.as_slice.ensures at c.in_err-width.ensures.refused w n v)

pub returns-clause-one : goal.returns-clause-one
returns-clause-one g c w n v =
    grind (arith, begins_one (rest c.args.self.now) w n c.in_ok-width.width c.in_ok-width.value v)
