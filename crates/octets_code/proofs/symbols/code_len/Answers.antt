use Rattle.std.proofs.Common.{arith}
use Rattle.octets_code.proofs.CodesTable.{length_at}
use Rattle.octets_code.proofs.symbols.code_len.Goals as goal

pub returns-clause-len : goal.returns-clause-len
returns-clause-len c = (length_at c.args.byte (omega arith)).0

pub returns-clause-small : goal.returns-clause-small
returns-clause-small c = (length_at c.args.byte (omega arith)).1
