use Rattle.octets.proofs.lemmas.Writes.{splice_of, write_of}
use Rattle.octets.proofs.laws.write_is_splice.Goals as goal

pub returns : goal.returns
returns g c = λ old new w. (splice_of old new w, write_of old new w)
