use Rattle.std.proofs.Common.{arith}
use Rattle.std.proofs.lemmas.Grind.{common_steps}
use Rattle.octets.proofs.lemmas.Performs.{last_lent}
use Rattle.octets.proofs.cursor.read_only.views.Octets.slice_last.Goals as goal

pub returns-clause-performs : goal.returns-clause-performs
returns-clause-performs c = last_lent c.args.self.now c.args.len _ (grind arith) (grind (arith, common_steps))
