use Rattle.octets_formats.proofs.PairReads.{reads_pair}
use Rattle.octets_formats.proofs.pairs.read_pair_by_hand.Goals as goal

pub returns-clause-spelled : goal.returns-clause-spelled
returns-clause-spelled c = reads_pair _ _ _ _ _ c.in_ok-first.ensures.spelled c.in_ok-second.ensures.spelled
