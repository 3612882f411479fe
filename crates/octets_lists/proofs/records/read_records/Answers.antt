-- What was read, and what follows it, are the buffer; one record more is one more of the list.
use Rattle.std.proofs.Common.{◌≡◌, ◌∙◌, ◌++◌, [], ◌∷◌, length, drop, map, arith, rules, ap, sym}
use Rattle.std.proofs.lemmas.List.Elements.{All-nil, All-push}
use Rattle.octets.specs.Cursor.{rest}
use Rattle.octets_lists.specs.Records.{IsUnread, fields_of, AreNoRecords}
use Rattle.octets_lists.proofs.Passing.{whatever_err}
use Rattle.octets_lists.proofs.RecordLists.{none_read, one_more, first_of, no_more, all_read, one_list}
use Rattle.octets_lists.proofs.records.read_records.Goals as goal
use Rattle.octets_lists.proofs.records.read_records.Goals.{After-drop-records}

pub records-init : goal.records-init
records-init c =
    let start = c.with_slice-cursor.ensures in
    let all = ap (λ k. drop k c.with_slice-cursor.result.buf.now) start.start ∙ start.bytes in
    let none : c.new-records.result.items ≡ [] = search rules in (
      none_read c.args.buffer.now (rest c.with_slice-cursor.result) c.new-records.result.items none all,
      rw none (All-nil IsUnread),
    )

pub records-preserved : goal.records-preserved
records-preserved c =
    let read = c.records.records.items in
    let behind = rest c.read_record.new.cursor in
    let is : c.push.new.self.items ≡ read ++ c.in_ok-record.record ∷ [] = search rules in
    let more = one_more c.args.buffer.now
    (rest c.records.cursor) behind read c.in_ok-record.record c.records.invariant.0 c.in_ok-record.ensures.reads in
    let starts = All-push IsUnread read c.in_ok-record.record c.records.invariant.1 c.in_ok-record.ensures.start in
    rw is (more, starts)

lacking : (c : After-drop-records) → AreNoRecords c.args.buffer.now
lacking c =
    let left = rest c.records.cursor in
    let some : left ≡ [] → ⊥ = λ e. omega (arith, ap length e, c.cap.ensures.remaining, c.records-test.true) in
    λ gs e. no_more (map fields_of c.records.records.items) gs left (some, c.in_err-record.ensures.refused)
    (sym c.records.invariant.0 ∙ e)

pub returns-in_err-record-clause-refused : goal.returns-in_err-record-clause-refused
returns-in_err-record-clause-refused c = whatever_err _ c.from_residual.result (lacking c)

pub returns-in_err-record-clause-every : goal.returns-in_err-record-clause-every
returns-in_err-record-clause-every c fs e = absurd (lacking c fs e)

pub returns-clause-every : goal.returns-clause-every
returns-clause-every c fs e =
    let all = all_read c.args.buffer.now (rest c.records.cursor)
    (map fields_of c.records.records.items) c.records.invariant.0
    (omega (arith, c.cap.ensures.remaining, c.records-test.false)) in
    one_list (map fields_of c.records.records.items) fs (sym all ∙ e)

pub returns-then-is_err-clause-memory : goal.returns-then-is_err-clause-memory
returns-then-is_err-clause-memory c _ =
    let behind = rest c.read_record.new.cursor in
    first_of c.args.buffer.now
    (rest c.records.cursor) behind c.records.records.items c.in_ok-record.record c.records.invariant.0
    c.in_ok-record.ensures.reads
