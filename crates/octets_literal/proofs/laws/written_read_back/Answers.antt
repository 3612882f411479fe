use Rattle.octets_literal.proofs.Written.{shortest_integer, shortest_least}
use Rattle.octets_literal.proofs.laws.written_read_back.Goals as goal

pub returns-clause-integer : goal.returns-clause-integer
returns-clause-integer c = shortest_integer

pub returns-clause-shortest : goal.returns-clause-shortest
returns-clause-shortest c = shortest_least
