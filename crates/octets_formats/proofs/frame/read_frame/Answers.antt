use Rattle.std.proofs.Common.{◌+◌, length, ap, sym, subst, ◌∙◌, arith}
use mathlib.Core.Bool.{true≢false}
use Rattle.octets.specs.Bytes.{part}
use Rattle.octets.specs.Cursor.{Passes}
use Rattle.octets.specs.Varints.{BeginsVarint}
use Rattle.octets.proofs.CallerLemmas.{passes_more}
use Rattle.octets_formats.specs.Frames.{no_type}
use Rattle.octets_formats.proofs.Frames.{frame_read, frame_begins, payload_refused}
use Rattle.octets.proofs.lemmas.Outcomes.{on_err}
use Rattle.octets_formats.proofs.Passing.{still}
use Rattle.octets_formats.proofs.frame.read_frame.Goals as goal

pub returns-in_err-kind-clause-refused : goal.returns-in_err-kind-clause-refused
returns-in_err-kind-clause-refused c =
    let kind = c.in_err-kind.ensures in
    on_err c.from_residual.result (0, no_type kind.none, still c.args.cursor.now c.get_varint.new.self kind.refused)

pub returns-in_err-kind-clause-every : goal.returns-in_err-kind-clause-every
returns-in_err-kind-clause-every c = λ kind n payload begins.
    absurd (c.in_err-kind.ensures.none begins.width kind begins.is_kind)

pub returns-in_err-kind-clause-written : goal.returns-in_err-kind-clause-written
returns-in_err-kind-clause-written c = λ kind payload after small short e.
    let begins = (frame_begins _ kind payload after small short e).1 in
    absurd (c.in_err-kind.ensures.none begins.width kind begins.is_kind)

pub returns-in_err-payload-clause-refused : goal.returns-in_err-payload-clause-refused
returns-in_err-payload-clause-refused c =
    let kind = c.in_ok-kind.ensures.value in
    let payload = c.in_err-payload.ensures.refused in
    on_err c.from_residual-in_err-payload.result
    (payload_refused c.args.cursor.now c.get_varint.new.self c.get_bytes_with_varint_length.new.self _ kind payload)

pub returns-in_err-payload-clause-every : goal.returns-in_err-payload-clause-every
returns-in_err-payload-clause-every c = λ kind n payload begins.
    let there = (c.in_ok-kind.ensures.one begins.width kind begins.is_kind).1.2 in
    let length_is = subst (λ l. BeginsVarint l begins.length_width (length payload)) (sym there) begins.is_length in
    let run = c.in_err-payload.ensures.one begins.length_width (length payload) length_is in
    absurd (true≢false (sym (run.0.1 (omega (arith, begins.whole, ap length there)))))

pub returns-in_err-payload-clause-written : goal.returns-in_err-payload-clause-written
returns-in_err-payload-clause-written c = λ kind payload after small short e.
    let f = frame_begins _ kind payload after small short e in
    let h = returns-in_err-payload-clause-every c kind f.0 payload f.1 in (h.0, h.1.2 ∙ f.2)

pub returns-clause-frame : goal.returns-clause-frame
returns-clause-frame c =
    frame_read c.args.cursor.now c.get_varint.new.self c.get_bytes_with_varint_length.new.self _ _
    c.in_ok-kind.ensures.value c.in_ok-payload.ensures.reads

pub returns-clause-every : goal.returns-clause-every
returns-clause-every c = λ kind n payload begins.
    let first = c.in_ok-kind.ensures.one begins.width kind begins.is_kind in
    let there = first.1.2 in
    let length_is = subst (λ l. BeginsVarint l begins.length_width (length payload)) (sym there) begins.is_length in
    let run = c.in_ok-payload.ensures.one begins.length_width (length payload) length_is in
    let past = passes_more c.args.cursor.now c.get_varint.new.self c.get_bytes_with_varint_length.new.self begins.width
    (begins.length_width + length payload) first.1 run.2 in (
      (
        cc first.0,
        run.1.0 ∙ (ap (λ l. part l begins.length_width (length payload)) there ∙ sym begins.is_payload),
      ),
      subst (Passes c.args.cursor.now c.get_bytes_with_varint_length.new.self) (sym begins.takes) past,
    )

pub returns-clause-written : goal.returns-clause-written
returns-clause-written c = λ kind payload after small short e.
    let f = frame_begins _ kind payload after small short e in
    let h = returns-clause-every c kind f.0 payload f.1 in (h.0, h.1.2 ∙ f.2)
