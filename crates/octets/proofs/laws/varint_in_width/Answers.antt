use Rattle.octets.specs.Varints.{varint}
use Rattle.octets.proofs.lemmas.Varints.{varint_only, varint_of_width}
use Rattle.octets.proofs.laws.varint_in_width.Goals as goal

pub returns-clause-one : goal.returns-clause-one
returns-clause-one c = λ w n h held. (varint w n, varint_of_width w n h held, (λ b v. varint_only b w n v))

pub returns-clause-written : goal.returns-clause-written
returns-clause-written c = varint_only
