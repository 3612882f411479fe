-- What was written is what is read.
use Rattle.std.proofs.Common.{refl}
use Rattle.octets_formats.proofs.Datagrams.{if_ok, ok_of, written_view}
use Rattle.octets_formats.proofs.datagram.write_and_read.Goals as goal

pub returns-clause-kind : goal.returns-clause-kind
returns-clause-kind c =
    let view = written_view c.with_slice.result _ _ _ c.args.kind c.args.payload.now c.with_slice.ensures.bytes
    c.with_slice.ensures.start c.in_ok-end.ensures.count c.in_ok-end.ensures.written in
    if_ok _ c.read_datagram.result (λ d h. h.0)
    (c.read_datagram.ensures.written_last c.args.kind c.args.payload.now c.requires.kind c.requires.few view)

pub returns-clause-payload : goal.returns-clause-payload
returns-clause-payload c =
    let view = written_view c.with_slice.result _ _ _ c.args.kind c.args.payload.now c.with_slice.ensures.bytes
    c.with_slice.ensures.start c.in_ok-end.ensures.count c.in_ok-end.ensures.written in
    if_ok _ c.read_datagram.result (λ d h. h.1)
    (c.read_datagram.ensures.written_last c.args.kind c.args.payload.now c.requires.kind c.requires.few view)

pub returns-clause-fits : goal.returns-clause-fits
returns-clause-fits c =
    let view = written_view c.with_slice.result _ _ _ c.args.kind c.args.payload.now c.with_slice.ensures.bytes
    c.with_slice.ensures.start c.in_ok-end.ensures.count c.in_ok-end.ensures.written in
    let read = c.read_datagram.ensures.written_last c.args.kind c.args.payload.now c.requires.kind c.requires.few
    view in
    (λ _. c.in_ok-end.ensures.fits.0 refl, λ _. ok_of _ c.read_datagram.result read)
