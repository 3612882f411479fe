use Rattle.std.proofs.lemmas.Result.{err_from_is_err_and}
use Rattle.octets_literal.proofs.Refusals.{begun_read, begun_refused, begun_holds, refused_data, data_not_value}
use Rattle.octets_literal.proofs.get_into.read_string_into.Goals as goal

pub returns-clause-value : goal.returns-clause-value
returns-clause-value c =
    let begun = rw c.as_ref.ensures at c.in_ok-data.ensures.finds in
    let value = c.in-Some.ensures.value in
    (_, value.0, begun_read _ _ _ _ _ _ begun value.1, value.2, value.3, c.in_ok-skip.ensures.passes)

pub returns-in_default-clause-refused : goal.returns-in_default-clause-refused
returns-in_default-clause-refused c =
    let begun = rw c.as_ref.ensures at c.in_ok-data.ensures.finds in
    begun_refused _ _ _ _ _ _ begun c.in_default.ensures.none

pub returns-in_default-clause-front : goal.returns-in_default-clause-front
returns-in_default-clause-front c =
    let begun = rw c.as_ref.ensures at c.in_ok-data.ensures.finds in
    λ e. begun_holds _ _ _ _ _ begun c.in_default.ensures.front

pub returns-in_default-clause-fault : goal.returns-in_default-clause-fault
returns-in_default-clause-fault c =
    let begun = rw c.as_ref.ensures at c.in_ok-data.ensures.finds in
    λ e. begun_holds _ _ _ _ _ begun c.in_default.ensures.fault

pub returns-in_err-data-clause-refused : goal.returns-in_err-data-clause-refused
returns-in_err-data-clause-refused c =
    let p = err_from_is_err_and c.from_residual.result c.from_residual.ensures.1 in
    let h = rw c.as_ref.ensures at c.in_err-data.ensures.refused in
    rw (p.1, p.2) (refused_data _ _ _ h)

pub returns-in_err-data-clause-no_memory : goal.returns-in_err-data-clause-no_memory
returns-in_err-data-clause-no_memory c =
    let p = err_from_is_err_and c.from_residual.result c.from_residual.ensures.1 in
    let h = rw c.as_ref.ensures at c.in_err-data.ensures.refused in
    rw (p.1, p.2) ((data_not_value _ _ h).0)

pub returns-in_err-data-clause-front : goal.returns-in_err-data-clause-front
returns-in_err-data-clause-front c =
    let p = err_from_is_err_and c.from_residual.result c.from_residual.ensures.1 in
    let h = rw c.as_ref.ensures at c.in_err-data.ensures.refused in
    rw (p.1, p.2) (λ e. absurd ((data_not_value _ _ h).1 e))

pub returns-in_err-data-clause-fault : goal.returns-in_err-data-clause-fault
returns-in_err-data-clause-fault c =
    let p = err_from_is_err_and c.from_residual.result c.from_residual.ensures.1 in
    let h = rw c.as_ref.ensures at c.in_err-data.ensures.refused in
    rw (p.1, p.2) (λ e. absurd ((data_not_value _ _ h).1 e))
