use Rattle.std.proofs.Common.{◌≡◌, ◌<◌, length, eqb, refl, ap, ◌∙◌, arith}
use Rattle.std.specs.Cmp.Lexicographic.{pointwise}
use Rattle.std.proofs.lemmas.Bool.Decides.{nat_tests}
use Rattle.std.proofs.lemmas.List.Elements.{All-push}
use Rattle.octets_tool.proofs.HexWords.{reads_all, reads_more, reads_nothing, no_byte, no_half, no_dash}
use Rattle.octets_tool.proofs.hex_word.bytes_of.Goals as goal

pub returns-in_default-byte_value : goal.returns-in_default-byte_value
returns-in_default-byte_value c =
    let rest = c.loop-rest.rest.now in
    reads_nothing c.args.word.now c.loop-rest.bytes.items rest
    (no_dash _ _ (c.eq.ensures ∙ ap (pointwise eqb c.args.word.now) c.as_slice.ensures)
    c.if-eq.false) c.loop-rest.invariant.read
    (λ u. no_byte rest u c.in-len2-up.len_at_least c.in_default-byte_value.ensures)

pub returns-then-not-is_empty : goal.returns-then-not-is_empty
returns-then-not-is_empty c =
    let rest = c.loop-rest.rest.now in
    let one : length rest ≡ 1 = grind (arith, nat_tests) in
    reads_nothing c.args.word.now c.loop-rest.bytes.items rest
    (no_dash _ _ (c.eq.ensures ∙ ap (pointwise eqb c.args.word.now) c.as_slice.ensures)
    c.if-eq.false) c.loop-rest.invariant.read
    (λ u are. no_half rest u one)

pub returns : goal.returns
returns c =
    let rest = c.loop-rest.rest.now in
    let read = c.loop-rest.invariant in
    let some : 0 < length c.args.word.now = grind (arith, nat_tests) in
    let none : length rest ≡ 0 = grind (arith, nat_tests) in
    reads_all c.args.word.now c.loop-rest.bytes.items rest some read.small read.read none

pub loop-rest-preserved : goal.loop-rest-preserved
loop-rest-preserved c =
    let v = c.loop-rest.bytes.items in
    let b = c.in-Some.byte in
    let read = (c.in-Some.ensures b).0 refl in
    rw c.in_ok-push.ensures.items record {
      small = All-push (λ n. n < 256) v b c.loop-rest.invariant.small read.0;
      read = reads_more c.args.word.now v c.loop-rest.rest.now b c.in-len2-up.len_at_least read.1
          c.loop-rest.invariant.read;
    }
