-- Each iteration pushes the lowest byte and shifts the word. After n iterations the n
-- lowest bytes were pushed, and the rest is the word without them.
use Rattle.std.proofs.Common.{◌≡◌, ◌++◌, append-nil, sym, refl, ap, ◌∙◌, arith, length, length-append}
use Rattle.octets.specs.Windows.{low_bytes}
use Rattle.octets.proofs.lemmas.Groups.{push_more, length-low_bytes}
use Rattle.octets.proofs.huffman.decode.store.push_low.Goals as goal

pub loop-init : goal.loop-init
unfolding low_bytes
loop-init c = record { pushed = sym (append-nil c.args.value.now.items); capacity = refl; rest = omega arith }

pub push_reserved-requires : goal.push_reserved-requires
push_reserved-requires c =
    omega (
      arith,
      ap length c.loop.invariant.pushed,
      length-append c.args.value.now.items (low_bytes c.loop.counter c.args.word),
      length-low_bytes,
    )

pub loop-preserved : goal.loop-preserved
loop-preserved c =
    let i = c.loop.invariant in
    let m = push_more c.loop.value.items c.args.value.now.items c.loop.counter c.args.word c.loop.rest i.pushed
    i.rest in grind arith

pub returns-clause-items : goal.returns-clause-items
returns-clause-items c =
    let all : c.loop.counter ≡ c.args.count = omega arith in
    c.loop.invariant.pushed ∙ ap (λ n. c.args.value.now.items ++ low_bytes n c.args.word) all
