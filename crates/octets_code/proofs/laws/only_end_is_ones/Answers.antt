use Rattle.octets_code.proofs.TextLemmas.{only_end_is_ones}
use Rattle.octets_code.proofs.laws.only_end_is_ones.Goals as goal

pub returns : goal.returns
returns c = only_end_is_ones
