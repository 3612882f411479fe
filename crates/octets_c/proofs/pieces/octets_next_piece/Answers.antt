use Rattle.std.proofs.Common.{refl, false, IsTrue}
use Rattle.octets_c.proofs.Waiting.{all_left, start_is}
use Rattle.octets_c.proofs.pieces.octets_next_piece.Goals as goal

pub returns-then-can_be_place-clause-starts : goal.returns-then-can_be_place-clause-starts
returns-then-can_be_place-clause-starts c = λ s.
    let all = all_left c.args.lower_case c.args.value.now c.args.place.now s in
    (refl, all.0, all.1)

pub returns-else-can_be_place-clause-starts : goal.returns-else-can_be_place-clause-starts
returns-else-can_be_place-clause-starts c = λ s. let is : IsTrue false =
    rw c.if-can_be_place.false at (c.can_be_place.ensures.1 (start_is _ _ s)) in cc
