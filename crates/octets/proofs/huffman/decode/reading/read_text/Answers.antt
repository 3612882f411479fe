use Rattle.std.proofs.Common.{arith}
use Rattle.octets_code.proofs.TextLemmas.{each_byte}
use Rattle.octets.proofs.lemmas.Fronts.{read_filled, read_none}
use Rattle.octets.proofs.lemmas.Groups.{cut_few}
use Rattle.octets.proofs.lemmas.TextsRead.{whole_steps, whole_answer}
use Rattle.octets.proofs.huffman.decode.reading.read_text.Goals as goal

pub read_part-requires-clause-begun : goal.read_part-requires-clause-begun
read_part-requires-clause-begun g c =
    let root = c.root.ensures in read_none c.args.text.now _ c.args.max_len _ c.requires.empty root.open root.path

pub returns-then-text-lt-WINDOWED-clause-refused : goal.returns-then-text-lt-WINDOWED-clause-refused
returns-then-text-lt-WINDOWED-clause-refused g c = c.end_text.ensures.refused _ _ c.in_ok-state.ensures.read

pub returns-then-text-lt-WINDOWED-clause-counted : goal.returns-then-text-lt-WINDOWED-clause-counted
returns-then-text-lt-WINDOWED-clause-counted g c = (
  _,
  whole_steps c.args.text.now c.args.max_len _ _ c.in_ok-state.ensures.read,
  grind arith,
)

pub returns-then-whole-clause-answer : goal.returns-then-whole-clause-answer
returns-then-whole-clause-answer g c =
    let w = c.read_whole-whole.ensures in let t = c.args.text.now in let f = w.filled c.if-whole.true in
    whole_answer t c.args.max_len _ _ (each_byte t (λ i. omega (arith, c.type_inv.text i)))
    (read_filled t _ c.read_whole-whole.result.at c.args.max_len w.cut w.bytes w.within f) f

pub returns-then-whole-clause-small : goal.returns-then-whole-clause-small
returns-then-whole-clause-small g c = grind (arith, cut_few)

pub returns-then-whole-clause-counted : goal.returns-then-whole-clause-counted
returns-then-whole-clause-counted g c =
    let w = c.read_whole-whole.ensures in let t = c.args.text.now in (
      _,
      whole_steps t c.args.max_len _ _ (read_filled t _ c.read_whole-whole.result.at c.args.max_len w.cut w.bytes
          w.within (w.filled c.if-whole.true)),
      c.spare.ensures,
    )
