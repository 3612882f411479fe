use Rattle.std.proofs.Common.{arith}
use Rattle.octets.proofs.CallerLemmas.{parts}
use Rattle.octets_fields.proofs.numbers.read_u48.Goals as goal

pub returns-clause-every : goal.returns-clause-every
returns-clause-every c = grind (arith, parts)

pub returns-in_err-get_u16-clause-every : goal.returns-in_err-get_u16-clause-every
returns-in_err-get_u16-clause-every c = grind (arith, parts)

pub returns-in_err-get_u32-clause-every : goal.returns-in_err-get_u32-clause-every
returns-in_err-get_u32-clause-every c = grind (arith, parts)
