use Rattle.octets_literal.proofs.Decided.{literal_or_refusal}
use Rattle.octets_literal.proofs.laws.each_decided.Goals as goal

pub returns : goal.returns
returns c = literal_or_refusal c.answers_decided.ensures.each
