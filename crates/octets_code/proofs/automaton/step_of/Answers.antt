use Rattle.std.proofs.Common.{arith}
use Rattle.std.proofs.lemmas.Grind.{common_steps}
use Rattle.octets_code.proofs.Walks.{path_open}
use Rattle.octets_code.proofs.automaton.step_of.Goals as goal

pub returns-in-On : goal.returns-in-On
returns-in-On c = λ p x m. grind (arith, common_steps, path_open c.in-On.index)

pub returns-in-Byte : goal.returns-in-Byte
returns-in-Byte c = λ p x m. grind (arith, common_steps, path_open c.in-Byte.index)
