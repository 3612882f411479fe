use Rattle.octets_code.proofs.TextLemmas.{texts_apart}
use Rattle.octets_code.proofs.TextOf.{each_has_one_text, text_is_text, text_from, text_injective}
use Rattle.octets_code.proofs.laws.texts_apart.Goals as goal

pub returns-clause-one : goal.returns-clause-one
returns-clause-one c = each_has_one_text

pub returns-clause-apart : goal.returns-clause-apart
returns-clause-apart c = texts_apart

pub returns-clause-value : goal.returns-clause-value
returns-clause-value c = λ v t h. (text_is_text v, text_from v t)

pub returns-clause-injective : goal.returns-clause-injective
returns-clause-injective c = text_injective
