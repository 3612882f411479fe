use Rattle.octets_script.proofs.over.slices.over_part.Goals as goal

pub returns-in-Ok-clause-left : goal.returns-in-Ok-clause-left
returns-in-Ok-clause-left c = rw c.in-Ok.is c.write_over.ensures
