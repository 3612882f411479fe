use Rattle.std.proofs.Common.{sym, refl}
use Rattle.octets_tool.specs.Commands.{spelled}
use Rattle.octets_tool.proofs.LineWords.{line_once}
use Rattle.octets_tool.proofs.laws.commands_apart.Goals as goal

pub returns-clause-lines : goal.returns-clause-lines
returns-clause-lines c = λ d e may other same. line_once (spelled e) e d (other, refl) (may, sym same)
