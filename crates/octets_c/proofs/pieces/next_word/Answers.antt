use Rattle.std.proofs.Common.{arith}
use Rattle.octets_c.specs.Pieces.{waiting}
use Rattle.octets_c.proofs.Waiting.{code_on, word_on}
use Rattle.octets_c.proofs.pieces.next_word.Goals as goal

pub returns-in-Some-clause-word : goal.returns-in-Some-clause-word
returns-in-Some-clause-word c =
    let i = c.loop-at.at in let kept = c.loop-at.invariant in
    let on = code_on c.args.to_lower c.args.value.now i c.cased_byte.result (waiting c.loop-at.place)
    c.loop-at-test.true c.cased_byte.ensures in (
      omega (arith, kept.from, c.loop-at-test.true),
      word_on c.args.to_lower c.args.value.now c.args.place.now c.loop-at.place c.push_code.new.place i _ _ kept.left
          kept.at on c.in-Some.ensures.word c.in-Some.ensures.stays.0,
    )
