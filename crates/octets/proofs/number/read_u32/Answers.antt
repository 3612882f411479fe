use Rattle.std.proofs.Common.{rules, arith}
use Rattle.octets_code.proofs.TextLemmas.{each_byte}
use Rattle.octets.proofs.lemmas.Numbers.{spelled_from}
use Rattle.octets.proofs.number.read_u32.Goals as goal

pub returns-clause-spells : goal.returns-clause-spells
returns-clause-spells c = let b = c.args.bytes.now in
    spelled_from b c.args.from _ 4 (each_byte b (λ i. omega (arith, c.type_inv.bytes i))) (search rules) (search rules)
