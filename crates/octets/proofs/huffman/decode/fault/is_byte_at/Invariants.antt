-- the bits that were read since the start are the path of the state
use Rattle.std.proofs.Common.{◌≡◌, ◌*◌, ◌≤◌, ◌++◌, drop}
use Rattle.octets_code.specs.Steps.{IsOpen}
use Rattle.octets_code.specs.Texts.{bits}
use Rattle.octets.proofs.huffman.decode.fault.is_byte_at.Given as goal

abbrev pub invariant-loop-half : goal.invariant-loop-half
invariant-loop-half l = (drop l.at (bits l.text) ≡ l.state ++ drop (4 * l.half) (bits l.text)) × IsOpen l.state
    × (l.steps ≤ l.half)
