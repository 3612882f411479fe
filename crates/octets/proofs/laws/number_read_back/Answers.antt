use Rattle.octets.proofs.lemmas.Numbers.{are_bytes_network, length_network, number-network, number_below}
use Rattle.octets.proofs.lemmas.Numbers.{network-number}
use Rattle.octets.proofs.laws.number_read_back.Goals as goal

pub returns-clause-written : goal.returns-clause-written
returns-clause-written c = λ n v. (are_bytes_network n v, length_network n v, number-network n v)

pub returns-clause-read : goal.returns-clause-read
returns-clause-read c = λ b h. (number_below b h, network-number b h)
