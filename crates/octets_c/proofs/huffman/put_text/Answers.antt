use Rattle.octets_c.proofs.Places.{front_written}
use Rattle.octets_c.proofs.huffman.put_text.Goals as goal

pub returns-then-lower_case-clause-err : goal.returns-then-lower_case-clause-err
returns-then-lower_case-clause-err c =
    let put = c.put_huffman_encoded in
    rw c.if-lower_case.true (front_written put.result c.args.cursor.now put.new.self _ _ put.ensures.err)

pub returns-else-lower_case-clause-err : goal.returns-else-lower_case-clause-err
returns-else-lower_case-clause-err c =
    let put = c.put_huffman_encoded-else-lower_case in
    rw c.if-lower_case.false (front_written put.result c.args.cursor.now put.new.self _ _ put.ensures.err)
