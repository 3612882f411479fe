use Rattle.octets_pieces.proofs.OneDecode.{decode_is_one, stop_is_one}
use Rattle.octets_pieces.proofs.laws.one_decode.Goals as goal

pub returns-clause-result : goal.returns-clause-result
returns-clause-result c = decode_is_one

pub returns-clause-stop : goal.returns-clause-stop
returns-clause-stop c = stop_is_one
