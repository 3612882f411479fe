use Rattle.std.proofs.Common.{◌++◌, ap, ◌∙◌}
use Rattle.octets_code.specs.Texts.{text}
use Rattle.octets.specs.Bytes.{network, splice}
use Rattle.octets.specs.Cursor.{position}
use Rattle.octets.proofs.CallerLemmas.{bytes_after}
use Rattle.octets_vectors.proofs.owned.address.Goals as goal

pub returns-clause-bytes : goal.returns-clause-bytes
returns-clause-bytes c =
    let w = network 1 c.args.kind ++ text c.args.name.now in
    let start = c.with_buffer-cursor in
    c.into_buffer.ensures.bytes ∙ bytes_after _ _ w c.in_ok-write_address.ensures.writes
    ∙ ap (λ l. splice l (position start.result) w) start.ensures.bytes
    ∙ ap (λ i. splice c.args.datagram i w) start.ensures.start
