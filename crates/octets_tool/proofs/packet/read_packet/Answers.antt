-- The kind is the first byte, and then what follows it is read.
use Rattle.std.proofs.Common.{Err, take, refl, ap, ◌∙◌}
use Rattle.octets.specs.Bytes.{number}
use Rattle.octets_tool.specs.declared.packet.PacketFault.TheVariants.{Refused}
use Rattle.octets_tool.specs.Packets.{OneByte, IsResultOf, no_kind, shown}
use Rattle.octets_tool.proofs.Fields.{result_behind, whole_rest, begins_byte, no_byte}
use Rattle.octets_tool.proofs.PacketLaws.{tells_byte, answered}
use Rattle.octets_tool.proofs.packet.read_packet.Goals as goal

pub returns-in-Ok : goal.returns-in-Ok
returns-in-Ok c =
    let input = c.args.input.now in
    let cursor = c.with_slice-cursor in
    let whole = whole_rest cursor.result input cursor.ensures.start cursor.ensures.bytes in
    let read = c.in-Ok.ensures in
    let begins = begins_byte input c.from.result (rw whole at (read.fits.0 refl)) (c.from.ensures
    ∙ read.value ∙ ap (λ l. number (take 1 l)) whole) in
    let is = result_behind OneByte tells_byte input cursor.result c.get_u8.new.self 1 c.from.result
    (shown c.read_behind.result) cursor.ensures.start whole begins read.passes
    c.read_behind.ensures.answer in
    assumption (answered OneByte tells_byte input (shown c.read_behind.result) is)

pub returns-in-Err : goal.returns-in-Err
returns-in-Err c =
    let input = c.args.input.now in
    let whole =
    whole_rest c.with_slice-cursor.result input c.with_slice-cursor.ensures.start c.with_slice-cursor.ensures.bytes in
    let none = no_byte input (λ h. let e = c.in-Err.ensures.fits.1 (rw whole h) in cc) in
    let is : IsResultOf OneByte input (Err (Refused 0)) = no_kind none in
    assumption (answered OneByte tells_byte input (Err (Refused 0)) is)
