-- The result is that of the call on the slice of the remaining bytes.
use Rattle.std.proofs.Common.{◌≡◌, Err, rules}
use Rattle.octets.proofs.CallerLemmas.{reads_varint}
use Rattle.octets.proofs.lemmas.Performs.{shortest_read, shortest_refused}
use Rattle.octets.proofs.cursor.Cursor.get_varint_shortest.Goals as goal

pub returns-in_err-value-clause-every : goal.returns-in_err-value-clause-every
returns-in_err-value-clause-every g c = λ n begins.
    let same = c.read_varint_shortest.ensures.every n (rw c.as_slice.ensures begins) in
    cc (same, c.in_err-value.was)

pub returns-in_err-value-clause-short : goal.returns-in_err-value-clause-short
returns-in_err-value-clause-short g c =
    let same : c.from_residual.result ≡ Err c.in_err-value.field-0.0 = search rules in
    rw (c.as_slice.ensures, ← same) at c.in_err-value.ensures.short

pub returns-in_err-value-clause-overlong : goal.returns-in_err-value-clause-overlong
returns-in_err-value-clause-overlong g c =
    let same : c.from_residual.result ≡ Err c.in_err-value.field-0.0 = search rules in
    rw (c.as_slice.ensures, ← same) at c.in_err-value.ensures.overlong

pub returns-clause-value : goal.returns-clause-value
returns-clause-value g c =
    (rw c.as_slice.ensures at c.in_ok-value.ensures.value, rw c.varint_len.ensures.shortest at c.advance.ensures)

pub returns-clause-every : goal.returns-clause-every
returns-clause-every g c = λ n begins.
    let same = c.read_varint_shortest.ensures.every n (rw c.as_slice.ensures begins) in
    cc (same, c.in_ok-value.was)

pub returns-clause-spelled : goal.returns-clause-spelled
returns-clause-spelled g c = let read = returns-clause-value g c in reads_varint _ _ _ _ read.0 read.1

pub returns-clause-short : goal.returns-clause-short
returns-clause-short g c = rw (c.as_slice.ensures, c.in_ok-value.was) at c.read_varint_shortest.ensures.short

pub returns-clause-overlong : goal.returns-clause-overlong
returns-clause-overlong g c = rw (c.as_slice.ensures, c.in_ok-value.was) at c.read_varint_shortest.ensures.overlong

pub returns-in_err-value-clause-performs : goal.returns-in_err-value-clause-performs
returns-in_err-value-clause-performs g c =
    shortest_refused c.args.self.now c.args.self.now c.from_residual.result (search rules)
    (returns-in_err-value-clause-short g c) (returns-in_err-value-clause-overlong g c) (search rules)

pub returns-clause-performs : goal.returns-clause-performs
returns-clause-performs g c = let read = returns-clause-value g c in
    shortest_read c.args.self.now c.advance.new.self c.in_ok-value.value read.0 read.1
