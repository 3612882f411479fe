use Rattle.octets_code.proofs.Walks.{apart}
use Rattle.octets_code.proofs.laws.codes_apart.Goals as goal

pub returns : goal.returns
returns c = λ s t r hs ht e. (apart s t r hs ht e).0
