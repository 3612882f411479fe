use Rattle.std.proofs.Common.{refl}
use Rattle.octets_pieces.proofs.Faulty.{end_at, full_at, no_end}
use Rattle.octets_pieces.proofs.laws.stops_fail.Goals as goal

pub returns-clause-end : goal.returns-clause-end
returns-clause-end c = λ t v q n m r l s. end_at t n m _ _ v q r l s.0 s.1 refl refl

pub returns-clause-room : goal.returns-clause-room
returns-clause-room c = λ t v q n m room r sum s. full_at t n m _ room v q r sum s.0 s.1 refl

pub returns-clause-rest : goal.returns-clause-rest
returns-clause-rest c = λ t v q m r l f. no_end t m _ _ v q r l f refl refl
