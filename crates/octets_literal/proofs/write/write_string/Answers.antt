use Rattle.octets_literal.proofs.Fitting.{keeps_either}
use Rattle.octets_literal.proofs.write.write_string.Goals as goal

pub returns-clause-keeps : goal.returns-clause-keeps
returns-clause-keeps g c =
    keeps_either c.write_parts.result _ _ _ c.write_parts.ensures.writes c.write_parts.ensures.unchanged
