use Rattle.octets_tool.proofs.OutputLaws.{each_has_an_output, outputs_are_one}
use Rattle.octets_tool.proofs.laws.one_output.Goals as goal

pub returns-clause-some : goal.returns-clause-some
returns-clause-some c = each_has_an_output c.answers_decided.ensures.each c.each_decided.ensures c.one_play.ensures.some

pub returns-clause-one : goal.returns-clause-one
returns-clause-one c = outputs_are_one c.answers_decided.ensures.one c.literal_once.ensures c.refused_once.ensures.one
    c.refused_once.ensures.no_literal c.one_play.ensures.one
