-- If there are at least eight bytes, the word has the last eight. If there are fewer
-- than four, the loop adds one byte after another.
use Rattle.std.proofs.Common.{arith, length-drop}
use Rattle.std.proofs.lemmas.List.{take_all}
use Rattle.octets_code.specs.Bits.{bits_of}
use Rattle.octets_code.specs.Texts.{bits}
use Rattle.octets.proofs.lemmas.WindowBits.{last_eight, last_four, last_few, byte_more}
use Rattle.octets.proofs.huffman.decode.window.last_word.Goals as goal

pub returns-then-len-ge8 : goal.returns-then-len-ge8
returns-then-len-ge8 c = grind (arith, last_eight, take_all, length-drop)

pub returns-then-len-ge4 : goal.returns-then-len-ge4
returns-then-len-ge4 c = grind (arith, take_all, length-drop, last_four)

pub loop-byte-init : goal.loop-byte-init
unfolding bits bits_of
loop-byte-init c = grind arith

pub loop-byte-preserved : goal.loop-byte-preserved
loop-byte-preserved c =
    let t = c.args.text.now in let i = c.loop-byte.byte-index in
    let s =
    byte_more t i c.loop-byte.word c.loop-byte-test.true (omega (arith, c.if-len-ge8.false, c.loop-byte-test.true))
    c.loop-byte.invariant.read c.loop-byte.invariant.small (omega (arith, c.type_inv.text i)) in
    rw c.from-in-loop-byte.ensures (record { read = s.0; small = s.1 })

pub returns : goal.returns
returns c = grind (arith, last_few, take_all)
