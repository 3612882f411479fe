-- The cursor is after the kind, and then after the number.
use Rattle.std.proofs.Common.{refl}
use Rattle.octets.specs.Cursor.{bytes}
use Rattle.octets.proofs.lemmas.Outcomes.{on_err}
use Rattle.octets_tool.proofs.Fields.{fields_read, number_refused, payload_refused}
use Rattle.octets_tool.proofs.packet.read_body.Goals as goal

pub returns-in_err-number-clause-refused : goal.returns-in_err-number-clause-refused
returns-in_err-number-clause-refused c =
    let number = c.in_err-number.ensures in
    on_err c.from_residual.result (number_refused c.args.cursor.now c.get_u16.new.self
    (λ two. (let fits = number.fits.1 two in cc)) number.refused)

pub returns-in_err-payload-clause-refused : goal.returns-in_err-payload-clause-refused
returns-in_err-payload-clause-refused c =
    let number = c.in_ok-number.ensures in
    let payload = c.in_err-payload.ensures in
    on_err c.from_residual-in_err-payload.result (payload_refused c.args.cursor.now c.get_u16.new.self
    c.get_bytes_with_varint_length.new.self (number.fits.0 refl) number.passes payload.refused)

pub returns-clause-body : goal.returns-clause-body
returns-clause-body c =
    let number = c.in_ok-number.ensures in
    let read = c.in_ok-payload.ensures.reads in
    fields_read c.args.cursor.now c.get_u16.new.self c.get_bytes_with_varint_length.new.self c.in_ok-number.number
    read.width read.len (bytes c.in_ok-payload.payload) (number.fits.0 refl) number.value number.passes read.begins
    read.within read.is_view.0 read.passes
