use Rattle.octets_code.specs.Codes.{code}
use Rattle.octets_code.proofs.CodesTable.{codes_at}
use Rattle.octets_code.proofs.symbols.code_of.Goals as goal

pub returns-clause-row : goal.returns-clause-row
returns-clause-row c = let r = codes_at c.args.sym c.requires in (r.0, r.1)

pub returns-clause-bits : goal.returns-clause-bits
unfolding code
returns-clause-bits c = let r = codes_at c.args.sym c.requires in rw (r.0, r.1)

pub returns-clause-small : goal.returns-clause-small
returns-clause-small c = (codes_at c.args.sym c.requires).2
