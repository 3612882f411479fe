-- One case for each result of the step over four bits: no code ends, the code of a byte ends, or the end code ends.
use Rattle.std.proofs.lemmas.Grind.{common_steps}
use Rattle.std.proofs.Common.{arith, inl, inr, refl}
use Rattle.octets.proofs.lemmas.TextsRead.{read_byte, stops, four_bits}
use Rattle.octets.proofs.huffman.decode.reading.read_nibble.Goals as goal

pub returns-in-On-clause-added : goal.returns-in-On-clause-added
returns-in-On-clause-added g c = (_, g.met.S.Store.adds_nothing c.args.value.now)

pub returns-then-count-max_len-clause-read : goal.returns-then-count-max_len-clause-read
returns-then-count-max_len-clause-read g c =
    stops _ c.args.state _ c.in-Byte.next c.in-Byte.byte c.args.max_len
    c.in-Byte.ensures.moves.1 (omega arith) (inl (omega arith))
    c.requires.bytes
    (omega arith) c.requires.open (four_bits c.args.nibble)

pub returns-then-count-max_len-clause-added : goal.returns-then-count-max_len-clause-added
returns-then-count-max_len-clause-added g c = (_, g.met.S.Store.adds_nothing c.args.value.now)

pub returns-else-count-max_len-clause-read : goal.returns-else-count-max_len-clause-read
returns-else-count-max_len-clause-read g c =
    rw (g.met.S.Store.held_after _ _ _ c.put.ensures) (grind (arith, common_steps, read_byte))

pub returns-else-count-max_len-clause-added : goal.returns-else-count-max_len-clause-added
returns-else-count-max_len-clause-added g c = (_, c.put.ensures)

pub returns-in-End-clause-read : goal.returns-in-End-clause-read
returns-in-End-clause-read g c =
    stops _ c.args.state _ c.in-End.ensures.moves.0 256 c.args.max_len
    c.in-End.ensures.moves.1 (omega arith) (inr refl) c.requires.bytes (omega arith)
    c.requires.open (four_bits c.args.nibble)

pub returns-in-End-clause-added : goal.returns-in-End-clause-added
returns-in-End-clause-added g c = (_, g.met.S.Store.adds_nothing c.args.value.now)
