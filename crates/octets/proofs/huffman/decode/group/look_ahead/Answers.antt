-- Each of the four lookups continues after the codes that those before it found. Together these codes are a group.
use Rattle.std.proofs.Common.{arith}
use Rattle.octets_code.specs.Bits.{bits_of}
use Rattle.octets.specs.Windows.{IsSeen}
use Rattle.octets.proofs.lemmas.Groups.{seen_none, seen_group, seen_some}
use Rattle.octets.proofs.huffman.decode.group.look_ahead.Goals as goal
use Rattle.octets.proofs.huffman.decode.group.look_ahead.Goals.{then-second-first, else-second-first}

pub look_on-first-requires : goal.look_on-first-requires
look_on-first-requires c = record { few = (_, 0, omega arith, seen_none c.args.window) }

pub look_on-second-requires : goal.look_on-second-requires
look_on-second-requires c =
    record { few = (_, 1, omega arith, c.look_on-first.ensures.more _ 0 (omega arith) (seen_none c.args.window)) }

pub look_on-requires : goal.look_on-requires
look_on-requires c = record {
  few = (
    _,
    2,
    omega arith,
    c.look_on-second.ensures.more _ 1 (omega arith)
        (c.look_on-first.ensures.more _ 0 (omega arith) (seen_none c.args.window)),
  );
}

pub look_on-seen-requires : goal.look_on-seen-requires
look_on-seen-requires c =
    record {
      few = (
        _,
        3,
        omega arith,
        c.look_on.ensures.more _ 2 (omega arith) (c.look_on-second.ensures.more _ 1
            (omega arith) (c.look_on-first.ensures.more _ 0 (omega arith) (seen_none c.args.window))),
      );
    }

pub returns-then-first-eq0-clause-none : goal.returns-then-first-eq0-clause-none
returns-then-first-eq0-clause-none c = grind arith

pub returns-clause-group : goal.returns-clause-group
returns-clause-group c =
    let two : IsSeen (bits_of 64 c.args.window) 2 c.look_on-second.result.rest c.look_on-second.result.sums
    c.look_on-second.result.bytes =
    c.look_on-second.ensures.more _ 1 (omega arith)
    (c.look_on-first.ensures.more _ 0 (omega arith) (seen_none c.args.window)) in
    elim c.if-second-first.branch [
      | then-second-first w ↦ grind arith
      | else-second-first w ↦ rw w.seen-is (seen_group _ 4 _ _ _ (omega arith)
          (w.look_on-seen.ensures.more _ 3 (omega arith) (w.look_on.ensures.more _ 2 (omega arith) two)))
    ]

pub returns-clause-some : goal.returns-clause-some
returns-clause-some c =
    let two : IsSeen (bits_of 64 c.args.window) 2 c.look_on-second.result.rest c.look_on-second.result.sums
    c.look_on-second.result.bytes =
    c.look_on-second.ensures.more _ 1 (omega arith)
    (c.look_on-first.ensures.more _ 0 (omega arith) (seen_none c.args.window)) in
    elim c.if-second-first.branch [
      | then-second-first w ↦
          rw w.seen-is (seen_some _ 2 _ _ _ two (omega arith))
      | else-second-first w ↦ rw w.seen-is (seen_some _ 4 _ _ _
          (w.look_on-seen.ensures.more _ 3 (omega arith) (w.look_on.ensures.more _ 2 (omega arith) two))
          (omega arith))
    ]
