use Rattle.std.proofs.Common.{◌-◌, ◌%◌, ◌^◌, ◌≤◌, arith}
use Rattle.octets_lists.proofs.Integers.{in_more}
use Rattle.octets_lists.proofs.integer.find_integer.Goals as goal

pub returns-clause-reads : goal.returns-clause-reads
returns-clause-reads c =
    let e = c.in-Some.ensures.cases.0 in
    let power = c.power_of_two-power.ensures.is in
    let groups = c.in_ok-groups.ensures.reads in
    let full : 2 ^ c.args.size - 1 ≤ c.in-Some.first.now % 2 ^ c.args.size =
    rw (power, c.from-2.ensures) at c.if-prefix-power.false in (
      omega (arith, groups.few),
      rw (e, c.from.ensures, c.from-3.ensures, power)
          (in_more c.in-Some.first.now c.args.size c.in-Some.more.now _ _ full groups),
    )
