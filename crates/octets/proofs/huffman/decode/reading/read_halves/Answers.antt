use Rattle.std.proofs.lemmas.Grind.{common_steps}
use Rattle.std.proofs.Common.{arith}
use Rattle.std.proofs.lemmas.Nat.{and_mask}
use Rattle.octets.proofs.lemmas.TextsRead.{stops_high, second_half}
use Rattle.octets.proofs.huffman.decode.reading.read_halves.Goals as goal

pub returns-in_err-half-clause-read : goal.returns-in_err-half-clause-read
returns-in_err-half-clause-read g c = grind (arith, stops_high)

pub returns-clause-read : goal.returns-clause-read
returns-clause-read g c = grind (arith, common_steps, and_mask, second_half)

pub returns-clause-added : goal.returns-clause-added
returns-clause-added g c =
    (_, g.met.S.Store.adds_more _ _ _ _ _ c.read_nibble.ensures.added.1 c.read_nibble-2.ensures.added.1)
