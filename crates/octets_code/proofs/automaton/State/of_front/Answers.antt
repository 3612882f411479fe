use Rattle.octets_code.proofs.Paths.{front_at}
use Rattle.octets_code.proofs.Walks.{path_open}
use Rattle.octets_code.proofs.automaton.State.of_front.Goals as goal

pub bounds-len : goal.bounds-len
bounds-len c = (front_at c.args.len c.args.bits c.requires.few c.requires.small).0

pub invariant_of-result : goal.invariant_of-result
invariant_of-result c = (front_at c.args.len c.args.bits c.requires.few c.requires.small).1

pub returns-clause-path : goal.returns-clause-path
returns-clause-path c = (front_at c.args.len c.args.bits c.requires.few c.requires.small).2

pub returns-clause-open : goal.returns-clause-open
returns-clause-open c = path_open _ (front_at c.args.len c.args.bits c.requires.few c.requires.small).1
