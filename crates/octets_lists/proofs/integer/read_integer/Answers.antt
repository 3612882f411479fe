-- The bytes begin with one integer at most, and with none if the reader of the bytes fails.
use Rattle.std.proofs.Common.{rules, subst}
use Rattle.octets.specs.Cursor.{Passes}
use Rattle.octets_lists.specs.declared.integer.IntegerError.TheVariants.{Short, Long}
use Rattle.octets_lists.proofs.Integers.{no_integer, one_integer, not_short, not_long, passed_on}
use Rattle.octets_lists.proofs.integer.read_integer.Goals as goal

pub returns-in_err-found-clause-every : goal.returns-in_err-found-clause-every
returns-in_err-found-clause-every c k mark n few begins =
    let none = rw c.as_ref.ensures at c.in_err-found.ensures.refused in
    absurd ((no_integer _ _ _ none).2 k mark n few begins)

pub returns-in_err-found-clause-short : goal.returns-in_err-found-clause-short
returns-in_err-found-clause-short c =
    let none = rw c.as_ref.ensures at c.in_err-found.ensures.refused in
    passed_on c.from_residual.result c.in_err-found.field-0.0 Short (search rules) (no_integer _ _ _ none).0

pub returns-in_err-found-clause-long : goal.returns-in_err-found-clause-long
returns-in_err-found-clause-long c =
    let none = rw c.as_ref.ensures at c.in_err-found.ensures.refused in
    passed_on c.from_residual.result c.in_err-found.field-0.0 Long (search rules) (no_integer _ _ _ none).1

pub returns-clause-value : goal.returns-clause-value
returns-clause-value c =
    let found = rw c.as_ref.ensures at c.in_ok-found.ensures.reads in
    (c.in_ok-found.found.width, found.0, found.1, c.in_ok-skip.ensures.passes)

pub returns-clause-every : goal.returns-clause-every
returns-clause-every c k mark n few begins =
    let found = rw c.as_ref.ensures at c.in_ok-found.ensures.reads in
    let same = one_integer _ _ _ _ _ _ _ _ found.1 begins in
    ((same.1, same.2), subst (Passes c.args.cursor.now c.skip.new.self) same.0 c.in_ok-skip.ensures.passes)

pub returns-clause-short : goal.returns-clause-short
returns-clause-short c =
    let found = rw c.as_ref.ensures at c.in_ok-found.ensures.reads in
    (λ e. cc, λ h. absurd (not_short _ _ _ _ _ found.1 h))

pub returns-clause-long : goal.returns-clause-long
returns-clause-long c =
    let found = rw c.as_ref.ensures at c.in_ok-found.ensures.reads in
    (λ e. cc, λ h. absurd (not_long _ _ _ _ _ found.0 found.1 h))
