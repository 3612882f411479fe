use Rattle.octets.proofs.CallerLemmas.{write_of}
use Rattle.octets_formats.proofs.loans.write_by_loan.Goals as goal

pub returns : goal.returns
returns c = record { writes = write_of _ _ _ c.put_fields.ensures.spliced }
