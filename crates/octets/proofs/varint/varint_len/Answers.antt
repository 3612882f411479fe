use Rattle.std.proofs.Common.{◌≡◌, ◌<◌, ◌^◌, List, ℕ, arith}
use Rattle.octets.specs.Varints.{IsVarint, shortest, varint}
use Rattle.octets.proofs.lemmas.Varints.{least_of, varint_of_width, shortest_width, shortest_holds}
use Rattle.octets.proofs.varint.varint_len.Goals as goal

held : (w v : ℕ) → v < 2 ^ 62 → w ≡ shortest v → (b : List ℕ) × IsVarint b w v
held w v h e = rw e (varint _ v, varint_of_width _ v (shortest_width v) (shortest_holds v h))

pub returns-then-v-clause-holds : goal.returns-then-v-clause-holds
returns-then-v-clause-holds c = grind (arith, held)

pub returns-then-v-2-clause-holds : goal.returns-then-v-2-clause-holds
returns-then-v-2-clause-holds c = grind (arith, held)

pub returns-then-v-3-clause-holds : goal.returns-then-v-3-clause-holds
returns-then-v-3-clause-holds c = grind (arith, held)

pub returns-then-v-3-clause-least : goal.returns-then-v-3-clause-least
returns-then-v-3-clause-least c = λ b w v. let least = least_of b w c.args.v v in grind arith

pub returns-else-v-3-clause-holds : goal.returns-else-v-3-clause-holds
returns-else-v-3-clause-holds c = grind (arith, held)

pub returns-else-v-3-clause-least : goal.returns-else-v-3-clause-least
returns-else-v-3-clause-least c = λ b w v. let least = least_of b w c.args.v v in grind arith
