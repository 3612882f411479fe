use Rattle.std.proofs.Common.{[], refl}
use Rattle.octets_tool.proofs.NamedRows.{found, none_found}
use Rattle.octets_tool.proofs.script.names.plain.Goals as goal

pub returns-in-get_u8 : goal.returns-in-get_u8
returns-in-get_u8 c = found [] c.in-get_u8.is refl

pub returns-in-get_u16 : goal.returns-in-get_u16
returns-in-get_u16 c = found [] c.in-get_u16.is refl

pub returns-in-get_u24 : goal.returns-in-get_u24
returns-in-get_u24 c = found [] c.in-get_u24.is refl

pub returns-in-get_u32 : goal.returns-in-get_u32
returns-in-get_u32 c = found [] c.in-get_u32.is refl

pub returns-in-get_u64 : goal.returns-in-get_u64
returns-in-get_u64 c = found [] c.in-get_u64.is refl

pub returns-in-peek_u8 : goal.returns-in-peek_u8
returns-in-peek_u8 c = found [] c.in-peek_u8.is refl

pub returns-in-get_varint : goal.returns-in-get_varint
returns-in-get_varint c = found [] c.in-get_varint.is refl

pub returns-in-get_varint_shortest : goal.returns-in-get_varint_shortest
returns-in-get_varint_shortest c = found [] c.in-get_varint_shortest.is refl

pub returns-in-get_bytes_with_u8_length : goal.returns-in-get_bytes_with_u8_length
returns-in-get_bytes_with_u8_length c = found [] c.in-get_bytes_with_u8_length.is refl

pub returns-in-get_bytes_with_u16_length : goal.returns-in-get_bytes_with_u16_length
returns-in-get_bytes_with_u16_length c = found [] c.in-get_bytes_with_u16_length.is refl

pub returns-in-get_bytes_with_varint_length : goal.returns-in-get_bytes_with_varint_length
returns-in-get_bytes_with_varint_length c = found [] c.in-get_bytes_with_varint_length.is refl

pub returns-in-cap : goal.returns-in-cap
returns-in-cap c = found [] c.in-cap.is refl

pub returns-in-len : goal.returns-in-len
returns-in-len c = found [] c.in-len.is refl

pub returns-in-off : goal.returns-in-off
returns-in-off c = found [] c.in-off.is refl

pub returns-in-is_empty : goal.returns-in-is_empty
returns-in-is_empty c = found [] c.in-is_empty.is refl

pub returns-in-buf : goal.returns-in-buf
returns-in-buf c = found [] c.in-buf.is refl

pub returns-in-to_vec : goal.returns-in-to_vec
returns-in-to_vec c = found [] c.in-to_vec.is refl

pub returns-in_default : goal.returns-in_default
returns-in_default c = none_found c.args.name.now [] search
