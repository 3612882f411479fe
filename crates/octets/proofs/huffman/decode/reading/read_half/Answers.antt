use Rattle.std.proofs.Common.{◌≡◌, ◌/◌, ◌%◌, get_or, bit_and, arith}
use Rattle.std.proofs.lemmas.Nat.{and_mask}
use Rattle.octets.proofs.lemmas.Fronts.{read_to_byte, half_done}
use Rattle.octets.proofs.huffman.decode.reading.read_half.Goals as goal

pub returns-then-halves-eq0-clause-read : goal.returns-then-halves-eq0-clause-read
returns-then-halves-eq0-clause-read g c =
    read_to_byte c.args.text.now _ c.args.halves c.args.max_len _ (omega arith) c.requires.inside c.requires.begun

pub returns-clause-read : goal.returns-clause-read
returns-clause-read g c =
    let odd : c.args.halves % 2 ≡ 1 = omega arith in
    let b = get_or c.args.text.now (c.args.halves / 2) 0 in
    let low : bit_and b 15 ≡ b % 16 = and_mask b 4 in
    half_done c.read_nibble.result c.args.text.now c.args.halves c.args.max_len _ _ _
    (omega arith) odd c.requires.begun (rw low at c.read_nibble.ensures.read)
