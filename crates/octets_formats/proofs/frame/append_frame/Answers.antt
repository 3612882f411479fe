use Rattle.std.proofs.Common.{◌++◌, length, append_assoc, OnErr, subst, sym}
use Rattle.octets.specs.Sinks.{AppendsFront}
use Rattle.octets.proofs.CallerLemmas.{front_first, front_then}
use Rattle.octets.proofs.lemmas.Outcomes.{on_err}
use Rattle.octets_formats.specs.Varints.{least}
use Rattle.octets_formats.proofs.frame.append_frame.Goals as goal

pub returns-in_err-write_varint-clause-err : goal.returns-in_err-write_varint-clause-err
returns-in_err-write_varint-clause-err g c =
    on_err c.from_residual.result (front_first _ _ _ _ (front_first _ _ _ _ c.in_err-write_varint.ensures.err))

pub returns-clause-err : goal.returns-clause-err
returns-clause-err g c =
    let r = c.write_bytes_with_varint_length.result in
    let written = g.W.OctetsWriter.written in let run = c.args.payload.now in
    subst (λ t. OnErr r (AppendsFront (written c.args.sink.now) (written c.write_bytes_with_varint_length.new.sink) t))
    (sym (append_assoc (least c.args.kind) (least (length run)) run))
    (front_then r _ _ _ _ _ c.in_ok-write_varint.ensures.ok c.write_bytes_with_varint_length.ensures.err)
