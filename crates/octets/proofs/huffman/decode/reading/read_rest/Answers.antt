-- At the first half byte the state has the bits after the last complete code. The rest is read in half bytes.
-- Every code has at least five bits, so the store is large enough.
use Rattle.std.proofs.Common.{arith}
use Rattle.std.proofs.lemmas.Bool.{cases_eq}
use Rattle.octets.proofs.lemmas.Groups.{cut_few}
use Rattle.octets.proofs.lemmas.Fronts.{read_to_half}
use Rattle.octets.proofs.lemmas.TextsRead.{whole_steps}
use Rattle.octets.proofs.huffman.decode.reading.read_rest.Goals as goal

pub read_half-requires-clause-begun : goal.read_half-requires-clause-begun
read_half-requires-clause-begun g c = grind (arith, read_to_half)

pub read_half-requires-clause-room : goal.read_half-requires-clause-room
read_half-requires-clause-room g c = grind (arith, cut_few, cases_eq)

pub returns-in_default-clause-small : goal.returns-in_default-clause-small
returns-in_default-clause-small g c = grind (arith, cut_few)

pub read_part-requires-clause-room : goal.read_part-requires-clause-room
read_part-requires-clause-room g c =
    let r = c.requires in let few = cut_few c.args.text.now _ c.args.at r.cut r.bytes r.inside in
    let same = g.met.S.Store.room_after _ _ _ c.read_half.ensures.added.1 in
    omega arith

pub returns-in_err-state-clause-small : goal.returns-in_err-state-clause-small
returns-in_err-state-clause-small g c = grind (arith, cut_few)

pub returns-in_err-state-clause-added : goal.returns-in_err-state-clause-added
returns-in_err-state-clause-added g c =
    (_, g.met.S.Store.adds_more _ _ _ _ _ c.read_half.ensures.added.1 c.read_part.ensures.added.1)

pub returns-clause-refused : goal.returns-clause-refused
returns-clause-refused g c = c.end_text.ensures.refused _ _ c.in_ok-state.ensures.read

pub returns-clause-answer : goal.returns-clause-answer
returns-clause-answer g c = grind arith

pub returns-clause-behind : goal.returns-clause-behind
returns-clause-behind g c = grind arith

pub returns-clause-small : goal.returns-clause-small
returns-clause-small g c = grind (arith, cut_few)

pub returns-clause-counted : goal.returns-clause-counted
returns-clause-counted g c = (
  _,
  whole_steps c.args.text.now c.args.max_len _ _ c.in_ok-state.ensures.read,
  grind arith,
)

pub returns-clause-added : goal.returns-clause-added
returns-clause-added g c =
    (_, g.met.S.Store.adds_more _ _ _ _ _ c.read_half.ensures.added.1 c.read_part.ensures.added.1)
