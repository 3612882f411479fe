use Rattle.std.proofs.Common.{arith}
use Rattle.octets.proofs.lemmas.Varints.{least_of, shortest_holds, varint_of_width}
use Rattle.octets.proofs.laws.varint_least_width.Goals as goal

pub returns-clause-holds : goal.returns-clause-holds
returns-clause-holds c = grind (arith, varint_of_width, shortest_holds)

pub returns-clause-least : goal.returns-clause-least
returns-clause-least c = least_of
