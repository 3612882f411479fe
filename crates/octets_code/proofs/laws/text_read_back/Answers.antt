use Rattle.octets_code.proofs.TextLemmas.{each_has_one_cut, text_is_cut}
use Rattle.octets_code.proofs.TextOf.{cut_is_text}
use Rattle.octets_code.proofs.Faults.{text_is_answered, text_has_no_fault}
use Rattle.octets_code.proofs.laws.text_read_back.Goals as goal

pub returns-clause-one : goal.returns-clause-one
returns-clause-one c = each_has_one_cut

pub returns-clause-read : goal.returns-clause-read
returns-clause-read c = text_is_cut

pub returns-clause-answered : goal.returns-clause-answered
returns-clause-answered c = text_is_answered

pub returns-clause-clear : goal.returns-clause-clear
returns-clause-clear c = text_has_no_fault

pub returns-clause-back : goal.returns-clause-back
returns-clause-back c = cut_is_text
