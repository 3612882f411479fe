-- The kind is the varint that was read, and then what follows it is read.
use Rattle.std.proofs.Common.{Err}
use Rattle.octets.specs.Varints.{BeginsVarint, shortest}
use Rattle.octets_tool.specs.declared.packet.PacketFault.TheVariants.{Refused}
use Rattle.octets_tool.specs.Packets.{ShortestVarint, shown}
use Rattle.octets_tool.proofs.Fields.{result_behind, whole_rest, shortest_lacks}
use Rattle.octets_tool.proofs.PacketLaws.{tells_shortest, answered}
use Rattle.octets_tool.proofs.packet.read_packet2.Goals as goal

pub returns-in-Ok : goal.returns-in-Ok
unfolding BeginsVarint
returns-in-Ok c =
    let input = c.args.input.now in
    let cursor = c.with_slice-cursor in
    let whole = whole_rest cursor.result input cursor.ensures.start cursor.ensures.bytes in
    let kind = c.in-Ok.kind in
    let read = c.in-Ok.ensures.value in
    let is = result_behind ShortestVarint tells_shortest input cursor.result c.get_varint_shortest.new.self
    (shortest kind) kind (shown c.read_behind.result)
    cursor.ensures.start whole (rw whole at read.0)
    read.1 c.read_behind.ensures.answer in
    assumption (answered ShortestVarint tells_shortest input (shown c.read_behind.result) is)

pub returns-in-Err-Short : goal.returns-in-Err-Short
returns-in-Err-Short c =
    let input = c.args.input.now in
    let is = shortest_lacks c.with_slice-cursor.result input c.with_slice-cursor.ensures.start
    c.with_slice-cursor.ensures.bytes (λ n b. let e = c.in-Err-Short.ensures.every n b in cc) in
    assumption (answered ShortestVarint tells_shortest input (Err (Refused 0)) is)
