use Rattle.std.proofs.Common.{arith, ◌+◌, ◌<◌}
use Rattle.octets_literal.proofs.Heads.{first_byte, in_first, length_read, length_exceeds}
use Rattle.octets_literal.proofs.length.read_length.Goals as goal

pub returns-then-prefix-lt127-clause-reads : goal.returns-then-prefix-lt127-clause-reads
returns-then-prefix-lt127-clause-reads c =
    let e = c.in-Some.ensures.cases.0 in let byte = first_byte _ _ _ e (c.type_inv.bytes 0).fits in
    rw (e, c.from-prefix.ensures) (in_first _ _ byte (omega arith))

pub returns-in_default-try_from-clause-refused : goal.returns-in_default-try_from-clause-refused
returns-in_default-try_from-clause-refused c =
    let e = c.in-Some.ensures.cases.0 in let byte = first_byte _ _ _ e (c.type_inv.bytes 0).fits in
    let big : c.in_ok-groups.groups.number + 127 < 4294967296 → ⊥ = c.in_default-try_from.ensures in
    rw e (length_exceeds _ _ _ _ byte (omega arith) c.in_ok-groups.ensures.reads (omega (arith, big)))

pub returns-clause-reads : goal.returns-clause-reads
returns-clause-reads c =
    let e = c.in-Some.ensures.cases.0 in let byte = first_byte _ _ _ e (c.type_inv.bytes 0).fits in
    let len = c.in-Ok.ensures in
    rw (e, len.1) (length_read _ _ _ _ byte (omega arith) c.in_ok-groups.ensures.reads (omega (arith, len.0)))
