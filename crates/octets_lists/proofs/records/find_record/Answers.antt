use Rattle.std.proofs.Common.{◌≡◌, ◌∙◌, [], length, ap, sym, arith}
use Rattle.octets.specs.Cursor.{rest}
use Rattle.octets_lists.specs.Records.{fields_of}
use Rattle.octets_lists.proofs.RecordLists.{no_more, one_other}
use Rattle.octets_lists.proofs.records.find_record.Goals as goal

pub records-preserved : goal.records-preserved
records-preserved c =
    one_other c.args.kind c.args.buffer.now (rest c.records.cursor) (rest c.read_record.new.cursor)
    (fields_of c.in_ok-record.record)
    c.records.invariant c.in_ok-record.ensures.reads (λ e. omega (arith, e, c.if-record-kind.false))

pub returns-in_err-record-clause-every : goal.returns-in_err-record-clause-every
returns-in_err-record-clause-every c = λ fs e.
    let left = rest c.records.cursor in
    let some : left ≡ [] → ⊥ = λ e. omega (arith, ap length e, c.cap.ensures.remaining, c.records-test.true) in
    absurd (no_more c.records.invariant.others fs left (some, c.in_err-record.ensures.refused)
    (sym c.records.invariant.stand_there ∙ e))
