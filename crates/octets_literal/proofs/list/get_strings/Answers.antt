use Rattle.std.proofs.Common.{arith, refl}
use Rattle.std.proofs.lemmas.Result.{err_from_is_err_and}
use Rattle.octets.proofs.lemmas.Outcomes.{same_rest}
use Rattle.octets_literal.proofs.Lists.{refused_for_memory, literals_pushed, within_more, all_read}
use Rattle.octets_literal.proofs.Lists.{nothing_read, something_left, stops_at, stops_behind}
use Rattle.octets_literal.proofs.list.get_strings.Goals as goal

pub returns-in_err-value-clause-every : goal.returns-in_err-value-clause-every
returns-in_err-value-clause-every c =
    let p = err_from_is_err_and c.from_residual.result c.from_residual.ensures.1 in
    λ vs a w. rw (p.1, p.2) (refused_for_memory _ _ _ _ _ _ c.literals.invariant.read
    (omega (arith, c.cap.ensures.remaining)) a w c.in_err-value.ensures.every)

pub returns-in_err-value-clause-refused : goal.returns-in_err-value-clause-refused
returns-in_err-value-clause-refused c =
    let p = err_from_is_err_and c.from_residual.result c.from_residual.ensures.1 in
    let i = c.literals.invariant in
    rw (p.1, p.2) (stops_at _ _ _ _ _ _ i.read i.within (grind (arith, same_rest))
    (omega (arith, c.cap.ensures.remaining)) c.in_err-value.ensures.refused)

pub literals-preserved : goal.literals-preserved
literals-preserved c = record {
  read = grind (arith, literals_pushed);
  within = within_more _ c.literals.values.items c.append.new.list.items c.in_ok-value.value (grind arith)
      c.literals.invariant.within c.in_ok-value.ensures.within;
  same = grind arith;
}

pub returns-then-is_err-clause-refused : goal.returns-then-is_err-clause-refused
returns-then-is_err-clause-refused c = grind (arith, stops_behind)

pub returns-clause-one : goal.returns-clause-one
returns-clause-one c = grind (arith, all_read)

pub returns-in_err-value-clause-empty : goal.returns-in_err-value-clause-empty
returns-in_err-value-clause-empty c = λ e.
    absurd (something_left _ _ _ c.literals.invariant.read (omega (arith, c.cap.ensures.remaining)) e)

pub returns-then-is_err-clause-empty : goal.returns-then-is_err-clause-empty
returns-then-is_err-clause-empty c = λ e.
    something_left _ _ _ c.literals.invariant.read (omega (arith, c.cap.ensures.remaining)) e

pub returns-then-is_err-clause-every : goal.returns-then-is_err-clause-every
returns-then-is_err-clause-every c = λ vs a w. refl

pub returns-clause-every : goal.returns-clause-every
returns-clause-every c = λ vs a w. returns-clause-one c vs a

pub returns-clause-empty : goal.returns-clause-empty
returns-clause-empty c = λ e. nothing_read _ _ _ c.literals.invariant.read e
