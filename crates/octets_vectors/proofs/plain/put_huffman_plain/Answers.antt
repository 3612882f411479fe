use Rattle.std.proofs.Common.{ap, ◌∙◌, ◌++◌}
use Rattle.std.proofs.lemmas.Option.{IfSome_then}
use Rattle.std.proofs.lemmas.Result.{on_err_weaker}
use Rattle.octets_vectors.proofs.Singles.{take-singles}
use Rattle.octets_vectors.proofs.plain.put_huffman_plain.Goals as goal

pub returns-clause-kept : goal.returns-clause-kept
returns-clause-kept g c =
    λ w. IfSome_then (g.W.OctetsWriter.room c.args.sink.now) (c.put_text.ensures.gives.kept w) (λ n h.
    on_err_weaker c.put_text.result (λ a. a.bytes
    ∙ ap (λ l. g.W.OctetsWriter.written c.args.sink.now ++ l) (take-singles n _)) h)
