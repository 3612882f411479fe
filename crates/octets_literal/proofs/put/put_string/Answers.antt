use Rattle.octets_code.proofs.TextLemmas.{each_byte}
use Rattle.octets_literal.proofs.Written.{literal_of_cased}
use Rattle.octets_literal.proofs.put.put_string.Goals as goal

pub returns-clause-literal : goal.returns-clause-literal
returns-clause-literal g c = literal_of_cased _ _ (each_byte _ (λ i. (c.type_inv.v i).fits)) c.requires
