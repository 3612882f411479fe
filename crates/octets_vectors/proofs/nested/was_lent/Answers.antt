use Rattle.std.proofs.Common.{refl}
use Rattle.octets_vectors.proofs.nested.was_lent.Goals as goal

pub returns-in-Ok-clause-left : goal.returns-in-Ok-clause-left
returns-in-Ok-clause-left c = rw c.in-Ok.is refl
