-- A varint has as many bytes as its width.
use Rattle.octets.proofs.lemmas.Varints.{length_varint}
use Rattle.octets.specs.Varints.{varint}
use Rattle.octets_script.specs.Calls.{answer_of}
use Rattle.octets_script.proofs.Endings.{put_ends}
use Rattle.octets_script.proofs.perform.puts.put_varint_with_len.Goals as goal

pub returns : goal.returns
returns c =
    let h = c.put_wide_then_overwrite.ensures in
    let told = put_ends c.args.cursor.now c.put_wide_then_overwrite.new.cursor (varint c.width.result c.value.result)
    c.args.w.now c.width.result (length_varint c.width.result c.value.result) c.put_wide_then_overwrite.result
    (answer_of c.done_or_short.result) h.fits h.bytes h.position h.unchanged h.same_reference
    c.done_or_short.ensures in
    rw (← c.width.ensures.width, ← c.value.ensures.value) told
