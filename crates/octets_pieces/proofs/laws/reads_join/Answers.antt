use Rattle.octets_pieces.proofs.OneResult.{nothing_is_read, reads_join, read_is_cut, read_is_one, end_is_text}
use Rattle.octets_pieces.proofs.laws.reads_join.Goals as goal

pub returns-clause-start : goal.returns-clause-start
returns-clause-start c = nothing_is_read

pub returns-clause-join : goal.returns-clause-join
returns-clause-join c = reads_join

pub returns-clause-cut : goal.returns-clause-cut
returns-clause-cut c = read_is_cut

pub returns-clause-one : goal.returns-clause-one
returns-clause-one c = read_is_one

pub returns-clause-end : goal.returns-clause-end
returns-clause-end c = end_is_text
