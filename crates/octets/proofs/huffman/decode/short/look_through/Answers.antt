-- Each lookup continues after the codes that those before it found; at the start none was found.
use Rattle.std.proofs.Common.{◌≡◌, ◌+◌, ◌-◌, ◌*◌, ◌/◌, ◌%◌, arith, rules, refl, length-set, ◌∙◌}
use Rattle.octets.proofs.lemmas.ShortTexts.{shown_none, shown_put, shown_most}
use Rattle.octets.proofs.huffman.decode.short.look_through.Goals as goal

pub looks-init : goal.looks-init
looks-init c = record {
  few = omega arith;
  room = search rules;
  least = omega arith;
  shown = shown_none c.args.window _ (omega (arith, c.ranges.window.fits)) refl;
}

pub looks-preserved : goal.looks-preserved
looks-preserved c =
    let i = c.looks.invariant in let cut = c.look_at-look.result.cut in
    let at : c.looks.sums + cut - 64 * (c.looks.count + cut / 64) ≡ c.looks.sums - 64 * c.looks.count + cut % 64 =
    omega (arith, i.least) in
    record {
      few = omega (arith, c.looks-test.true);
      room = length-set _ _ _ ∙ length-set _ _ _ ∙ i.room;
      least = omega (arith, i.least, c.from-sums.ensures, c.from-count.ensures);
      shown = rw (c.from-sums.ensures, c.from-count.ensures, at)
          (shown_put _ c.looks.looks _ c.looks.count c.looks.inverse _ _ c.looks.value
          (omega (arith, c.looks-test.true))
          (omega (arith, c.looks.auto.inverse-fits)) (omega (arith, i.shown.few, i.room, c.looks-test.true)) i.shown
          c.look_at-look.ensures);
    }

pub returns : goal.returns
returns c = shown_most _ _ 8 _ _ _ _ c.looks.invariant.few c.looks.invariant.shown
