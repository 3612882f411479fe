use Rattle.std.proofs.Common.{arith}
use Rattle.octets_code.proofs.TextLemmas.{each_byte}
use Rattle.octets_vectors.proofs.ReadingBack.{shown, answered, too_long}
use Rattle.octets_vectors.proofs.laws.huffman.encode_rewind_decode.Goals as goal

pub returns-clause-gives_back : goal.returns-clause-gives_back
returns-clause-gives_back g c = λ fits held.
    let text = shown c.args.cursor.now c.put_huffman_encoded.new.self c.rewind.new.self c.in_ok-text.text _ _
    c.in_ok-put_huffman_encoded.ensures.ok c.in_ok-rewind.ensures.goes_back
    (omega (arith, c.off.ensures.position, c.off-start.ensures.position)) c.in_ok-text.ensures.view in
    let bytes = each_byte c.args.value.now (λ i. omega (arith, c.type_inv.value i)) in
    c.get_huffman_decoded_with_max_length.ensures.every _ (answered _ c.args.value.now _ c.args.max_len text bytes held)

pub returns-clause-limited : goal.returns-clause-limited
returns-clause-limited g c = λ fits small.
    let text = shown c.args.cursor.now c.put_huffman_encoded.new.self c.rewind.new.self c.in_ok-text.text _ _
    c.in_ok-put_huffman_encoded.ensures.ok c.in_ok-rewind.ensures.goes_back
    (omega (arith, c.off.ensures.position, c.off-start.ensures.position)) c.in_ok-text.ensures.view in
    let bytes = each_byte c.args.value.now (λ i. omega (arith, c.type_inv.value i)) in
    too_long _ c.args.value.now _ c.args.max_len _ text bytes small c.get_huffman_decoded_with_max_length.ensures.value
