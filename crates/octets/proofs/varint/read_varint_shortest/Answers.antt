use Rattle.std.proofs.Common.{arith, drop}
use Rattle.octets.proofs.lemmas.Outcomes.{none_overlong, read_overlong}
use Rattle.octets.proofs.varint.read_varint_shortest.Goals as goal

pub returns-in_default-clause-overlong : goal.returns-in_default-clause-overlong
returns-in_default-clause-overlong c = grind (arith, none_overlong)

pub returns-clause-overlong : goal.returns-clause-overlong
returns-clause-overlong c =
    read_overlong _ (drop c.args.from c.args.bytes.now) _ _ c.in-Ok.ensures.value
    (omega arith)
