use Rattle.octets.proofs.CallerLemmas.{joined}
use Rattle.octets_lists.proofs.RecordLists.{record_written}
use Rattle.octets_lists.proofs.records.put_record.Goals as goal

pub returns-clause-writes : goal.returns-clause-writes
returns-clause-writes g c =
    let row = joined (joined c.in_ok-write_u8.ensures.writes c.in_ok-write_u8-2.ensures.writes)
    c.in_ok-put_bytes.ensures.writes in
    rw (record_written c.args.kind c.args.value.now c.ranges.kind.fits c.requires) at row
