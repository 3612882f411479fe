use Rattle.std.proofs.Common.{arith}
use Rattle.std.proofs.lemmas.Grind.{common_steps}
use Rattle.octets_literal.proofs.Groups.{one_group, more_groups, grouped-one, grouped-cons, power-suc}
use Rattle.octets_lists.proofs.integer.+read_groups.Goals as goal

pub returns-then-first-lt128-clause-reads : goal.returns-then-first-lt128-clause-reads
returns-then-first-lt128-clause-reads t c = grind (arith, one_group, grouped-one)

pub returns-clause-reads : goal.returns-clause-reads
returns-clause-reads t c = grind (arith, common_steps, power-suc, more_groups, grouped-cons)
