use Rattle.std.proofs.Common.{append-nil, ap, sym, subst, length, length-drop, refl, ◌+◌, ◌≤◌, ◌∙◌, arith}
use mathlib.Core.Bool.{true≢false}
use Rattle.octets.specs.Bytes.{part}
use Rattle.octets.specs.Cursor.{rest}
use Rattle.octets.specs.Varints.{BeginsVarint, shortest}
use Rattle.octets.proofs.CallerLemmas.{begins_some, begins_within, passes_more}
use Rattle.octets_formats.proofs.Datagrams.{datagram_begins, datagram_read, length_refused}
use Rattle.octets_formats.proofs.datagram.read_datagram.Goals as goal

-- no byte remains
pub returns-in_err-kind-clause-every : goal.returns-in_err-kind-clause-every
returns-in_err-kind-clause-every c = λ w n begins within.
    let some : 1 ≤ length (rest c.args.cursor.now) = omega (
      arith,
      begins_some _ w n begins,
      begins_within _ w n begins,
      length-drop 1 (rest c.args.cursor.now),
    ) in
    absurd (true≢false (sym (c.in_err-kind.ensures.fits.1 some)))

pub returns-in_err-kind-clause-no_data : goal.returns-in_err-kind-clause-no_data
returns-in_err-kind-clause-no_data c = λ w n begins few.
    let some : 1 ≤ length (rest c.args.cursor.now) = omega (
      arith,
      begins_some _ w n begins,
      begins_within _ w n begins,
      length-drop 1 (rest c.args.cursor.now),
    ) in
    absurd (true≢false (sym (c.in_err-kind.ensures.fits.1 some)))

pub returns-in_err-kind-clause-written : goal.returns-in_err-kind-clause-written
returns-in_err-kind-clause-written c = λ kind payload after small short e.
    absurd (true≢false (sym (c.in_err-kind.ensures.fits.1 (datagram_begins _ kind payload after small short e).some)))

pub returns-in_err-kind-clause-written_last : goal.returns-in_err-kind-clause-written_last
returns-in_err-kind-clause-written_last c = λ kind payload small short e.
    let begun = datagram_begins _ kind payload _ small short (e ∙ sym (append-nil _)) in
    absurd (true≢false (sym (c.in_err-kind.ensures.fits.1 begun.some)))

-- the length or the data aren't complete
pub returns-in_err-payload-clause-every : goal.returns-in_err-payload-clause-every
returns-in_err-payload-clause-every c = λ w n begins within.
    let there = c.in_ok-kind.ensures.passes.2 in
    let run = c.in_err-payload.ensures.one w n (subst (λ t. BeginsVarint t w n) (sym there) begins) in
    absurd (true≢false (sym (run.0.1 (omega (arith, within, ap length there)))))

pub returns-in_err-payload-clause-written : goal.returns-in_err-payload-clause-written
returns-in_err-payload-clause-written c = λ kind payload after small short e.
    let there = c.in_ok-kind.ensures.passes.2 in
    let begun = datagram_begins _ kind payload after small short e in
    let w = shortest (length payload) in
    let length_is = subst (λ t. BeginsVarint t w (length payload)) (sym there) begun.is_length in
    let run = c.in_err-payload.ensures.one w (length payload) length_is in
    absurd (true≢false (sym (run.0.1 (omega (arith, begun.whole, ap length there)))))

pub returns-in_err-payload-clause-written_last : goal.returns-in_err-payload-clause-written_last
returns-in_err-payload-clause-written_last c = λ kind payload small short e.
    let there = c.in_ok-kind.ensures.passes.2 in
    let begun = datagram_begins _ kind payload _ small short (e ∙ sym (append-nil _)) in
    let w = shortest (length payload) in
    let length_is = subst (λ t. BeginsVarint t w (length payload)) (sym there) begun.is_length in
    let run = c.in_err-payload.ensures.one w (length payload) length_is in
    absurd (true≢false (sym (run.0.1 (omega (arith, begun.whole, ap length there)))))

pub returns-in_err-payload-clause-no_length : goal.returns-in_err-payload-clause-no_length
returns-in_err-payload-clause-no_length c = λ some none.
    length_refused c.args.cursor.now c.get_u8.new.self c.get_bytes_with_varint_length.new.self
    c.in_ok-kind.ensures.passes c.in_err-payload.ensures.refused none

pub returns-in_err-payload-clause-no_data : goal.returns-in_err-payload-clause-no_data
returns-in_err-payload-clause-no_data c = λ w n begins few.
    let there = c.in_ok-kind.ensures.passes.2 in
    let run = c.in_err-payload.ensures.one w n (subst (λ t. BeginsVarint t w n) (sym there) begins) in
    passes_more c.args.cursor.now c.get_u8.new.self c.get_bytes_with_varint_length.new.self 1 w
    c.in_ok-kind.ensures.passes run.3

pub returns-clause-reads : goal.returns-clause-reads
returns-clause-reads c = (
  c.in_ok-kind.ensures.value,
  datagram_read c.args.cursor.now c.get_u8.new.self c.get_bytes_with_varint_length.new.self c.in_ok-payload.payload
      c.in_ok-kind.ensures.passes c.in_ok-payload.ensures.reads,
)

pub returns-clause-every : goal.returns-clause-every
returns-clause-every c = λ w n begins within.
    let there = c.in_ok-kind.ensures.passes.2 in
    let run = c.in_ok-payload.ensures.one w n (subst (λ t. BeginsVarint t w n) (sym there) begins) in (
      (c.in_ok-kind.ensures.value, run.1.0 ∙ ap (λ t. part t w n) there),
      passes_more c.args.cursor.now c.get_u8.new.self c.get_bytes_with_varint_length.new.self 1 (w + n)
          c.in_ok-kind.ensures.passes run.2,
    )

pub returns-clause-written : goal.returns-clause-written
returns-clause-written c = λ kind payload after small short e.
    let begun = datagram_begins _ kind payload after small short e in
    let read = returns-clause-every c _ _ begun.is_length begun.whole in
    ((read.0.0 ∙ begun.is_kind, read.0.1 ∙ begun.is_payload), read.1.2 ∙ begun.behind)

pub returns-clause-written_last : goal.returns-clause-written_last
returns-clause-written_last c = λ kind payload small short e.
    let begun = datagram_begins _ kind payload _ small short (e ∙ sym (append-nil _)) in
    let read = returns-clause-every c _ _ begun.is_length begun.whole in
    (read.0.0 ∙ begun.is_kind, read.0.1 ∙ begun.is_payload)

pub returns-clause-no_length : goal.returns-clause-no_length
returns-clause-no_length c = λ some none.
    let read = c.in_ok-payload.ensures.reads in
    absurd (none read.width read.len
    (subst (λ t. BeginsVarint t read.width read.len) c.in_ok-kind.ensures.passes.2 read.begins))

pub returns-clause-no_data : goal.returns-clause-no_data
returns-clause-no_data c = λ w n begins few.
    let there = c.in_ok-kind.ensures.passes.2 in
    let run = c.in_ok-payload.ensures.one w n (subst (λ t. BeginsVarint t w n) (sym there) begins) in
    absurd (omega (arith, few, run.0.0 refl, ap length there))
