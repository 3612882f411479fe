use Rattle.std.proofs.Common.{◌∷◌, [], Some, refl}
use Rattle.std.proofs.lemmas.Bool.{lt-ltb}
use Rattle.octets_script.specs.Calls.{GetBytesMut, PeekBytesMut, Slice, SliceLast, PutU8}
use Rattle.octets_script.specs.Calls.{PutU16, PutU24, PutU32, PutU64, PutVarint}
use Rattle.octets_tool.specs.Names.{decimal_word, hex_word}
use Rattle.octets_tool.proofs.NamedRows.{none_found}
use Rattle.octets_tool.proofs.Rows.{made_with_bytes as made}
use Rattle.octets_tool.proofs.script.names.with_number_and_bytes.Goals as goal

pub returns-in_ok-count-in-get_bytes_mut : goal.returns-in_ok-count-in-get_bytes_mut
returns-in_ok-count-in-get_bytes_mut c =
    made GetBytesMut _ _ _ c.in_ok-count-in-get_bytes_mut.ensures c.in-get_bytes_mut.is refl

pub returns-in_err-count-in-get_bytes_mut : goal.returns-in_err-count-in-get_bytes_mut
returns-in_err-count-in-get_bytes_mut c =
    rw c.from_residual.ensures
    (made GetBytesMut _ _ _ c.in_err-count-in-get_bytes_mut.ensures c.in-get_bytes_mut.is refl)

pub returns-in_ok-count-in-peek_bytes_mut : goal.returns-in_ok-count-in-peek_bytes_mut
returns-in_ok-count-in-peek_bytes_mut c =
    made PeekBytesMut _ _ _ c.in_ok-count-in-peek_bytes_mut.ensures c.in-peek_bytes_mut.is refl

pub returns-in_err-count-in-peek_bytes_mut : goal.returns-in_err-count-in-peek_bytes_mut
returns-in_err-count-in-peek_bytes_mut c =
    rw c.from_residual-in_err-count-in-peek_bytes_mut.ensures
    (made PeekBytesMut _ _ _ c.in_err-count-in-peek_bytes_mut.ensures c.in-peek_bytes_mut.is refl)

pub returns-in_ok-count-in-slice : goal.returns-in_ok-count-in-slice
returns-in_ok-count-in-slice c =
    made Slice _ _ _ c.in_ok-count-in-slice.ensures c.in-slice.is refl

pub returns-in_err-count-in-slice : goal.returns-in_err-count-in-slice
returns-in_err-count-in-slice c =
    rw c.from_residual-in_err-count-in-slice.ensures
    (made Slice _ _ _ c.in_err-count-in-slice.ensures c.in-slice.is refl)

pub returns-in_ok-count-in-slice_last : goal.returns-in_ok-count-in-slice_last
returns-in_ok-count-in-slice_last c =
    made SliceLast _ _ _ c.in_ok-count-in-slice_last.ensures c.in-slice_last.is refl

pub returns-in_err-count-in-slice_last : goal.returns-in_err-count-in-slice_last
returns-in_err-count-in-slice_last c =
    rw c.from_residual-in_err-count-in-slice_last.ensures
    (made SliceLast _ _ _ c.in_err-count-in-slice_last.ensures c.in-slice_last.is refl)

pub returns-in_ok-as_u8-in-put_u8 : goal.returns-in_ok-as_u8-in-put_u8
returns-in_ok-as_u8-in-put_u8 c =
    made PutU8 _ _ _ c.in_ok-as_u8-in-put_u8.ensures c.in-put_u8.is refl

pub returns-in_err-as_u8-in-put_u8 : goal.returns-in_err-as_u8-in-put_u8
returns-in_err-as_u8-in-put_u8 c =
    rw c.from_residual-in_err-as_u8-in-put_u8.ensures
    (made PutU8 _ _ _ c.in_err-as_u8-in-put_u8.ensures c.in-put_u8.is refl)

pub returns-in_ok-as_u16-in-put_u16 : goal.returns-in_ok-as_u16-in-put_u16
returns-in_ok-as_u16-in-put_u16 c =
    made PutU16 _ _ _ c.in_ok-as_u16-in-put_u16.ensures c.in-put_u16.is refl

pub returns-in_err-as_u16-in-put_u16 : goal.returns-in_err-as_u16-in-put_u16
returns-in_err-as_u16-in-put_u16 c =
    rw c.from_residual-in_err-as_u16-in-put_u16.ensures
    (made PutU16 _ _ _ c.in_err-as_u16-in-put_u16.ensures c.in-put_u16.is refl)

pub returns-in_ok-as_u32-in-put_u24 : goal.returns-in_ok-as_u32-in-put_u24
returns-in_ok-as_u32-in-put_u24 c =
    made PutU24 _ _ _ c.in_ok-as_u32-in-put_u24.ensures c.in-put_u24.is refl

pub returns-in_err-as_u32-in-put_u24 : goal.returns-in_err-as_u32-in-put_u24
returns-in_err-as_u32-in-put_u24 c =
    rw c.from_residual-in_err-as_u32-in-put_u24.ensures
    (made PutU24 _ _ _ c.in_err-as_u32-in-put_u24.ensures c.in-put_u24.is refl)

pub returns-in_ok-as_u32-in-put_u32 : goal.returns-in_ok-as_u32-in-put_u32
returns-in_ok-as_u32-in-put_u32 c =
    made PutU32 _ _ _ c.in_ok-as_u32-in-put_u32.ensures c.in-put_u32.is refl

pub returns-in_err-as_u32-in-put_u32 : goal.returns-in_err-as_u32-in-put_u32
returns-in_err-as_u32-in-put_u32 c =
    rw c.from_residual-in_err-as_u32-in-put_u32.ensures
    (made PutU32 _ _ _ c.in_err-as_u32-in-put_u32.ensures c.in-put_u32.is refl)

pub returns-in-put_u64 : goal.returns-in-put_u64
returns-in-put_u64 c =
    let fits = lt-ltb _ _ c.ranges.number.fits in
    made PutU64 _ c.args.number _ {r = Some c.args.number} (rw fits) c.in-put_u64.is refl

pub returns-in_ok-as_varint-in-put_varint : goal.returns-in_ok-as_varint-in-put_varint
returns-in_ok-as_varint-in-put_varint c =
    made PutVarint _ _ _ c.in_ok-as_varint-in-put_varint.ensures c.in-put_varint.is refl

pub returns-in_err-as_varint-in-put_varint : goal.returns-in_err-as_varint-in-put_varint
returns-in_err-as_varint-in-put_varint c =
    rw c.from_residual-in_err-as_varint-in-put_varint.ensures
    (made PutVarint _ _ _ c.in_err-as_varint-in-put_varint.ensures c.in-put_varint.is refl)

pub returns-in_default : goal.returns-in_default
returns-in_default c = none_found c.args.name.now (decimal_word c.args.number ∷ hex_word c.args.bytes.items ∷ []) search
