-- `out` begins with the bytes that `read_text` decoded. The other clauses follow from this one fact, the clause
-- `value`, by the laws of texts.
use Rattle.std.proofs.Common.{◌++◌, ◌∙◌, sym, ap, length, drop, rules, arith}
use Rattle.std.proofs.lemmas.List.{drop_at}
use Rattle.octets.specs.Cursor.{passed, rest}
use Rattle.octets.proofs.lemmas.CodeFacts.{answers_are_one, passed_within, text_from}
use Rattle.octets.proofs.lemmas.TextsRead.{text_answers, text_answered}
use Rattle.octets.proofs.lemmas.Writes.{over_front, front_of}
use Rattle.octets.proofs.cursor.decode.Octets.get_huffman_decoded_into.Goals as goal

pub advance-requires-in-Err : goal.advance-requires-in-Err
advance-requires-in-Err c =
    let refused = rw c.unread-text.ensures at c.in-Err.ensures.refused in
    passed_within (rest c.args.self.now) _ _ refused.1

pub returns-in-Ok-clause-value : goal.returns-in-Ok-clause-value
returns-in-Ok-clause-value c =
    let answer = rw c.unread-text.ensures at c.in-Ok.ensures.answer in
    let front = over_front c.with_slice-value.result c.read_text.new.value c.args.out.now
    c.with_slice-value.ensures.bytes c.with_slice-value.ensures.start c.read_text.ensures.added in
    (passed c.read_text.new.value, answer, front.0 ∙ sym c.off.ensures.position, search (rules, front.1))

pub returns-in-Ok-clause-every : goal.returns-in-Ok-clause-every
returns-in-Ok-clause-every c = let h = returns-in-Ok-clause-value c in
    λ v a. let same = (answers_are_one (rest c.args.self.now) (length c.args.out.now)).0 h.0 v h.1 a in
    (sym h.2 ∙ ap length same, front_of h.0 _ _ _ h.2 h.3 ∙ same)

pub returns-in-Ok-clause-few : goal.returns-in-Ok-clause-few
returns-in-Ok-clause-few c = let h = returns-in-Ok-clause-value c in omega (arith, h.1.1, h.2)

pub returns-in-Ok-clause-behind : goal.returns-in-Ok-clause-behind
returns-in-Ok-clause-behind c = let h = returns-in-Ok-clause-value c in ap (drop _) h.3 ∙ drop_at h.0 _ _ h.2

pub returns-in-Ok-clause-shows : goal.returns-in-Ok-clause-shows
returns-in-Ok-clause-shows c = let h = returns-in-Ok-clause-value c in rw (front_of h.0 _ _ _ h.2 h.3) h.1

pub returns-in-Ok-clause-text : goal.returns-in-Ok-clause-text
returns-in-Ok-clause-text c = text_from _ _ (returns-in-Ok-clause-shows c).2

pub returns-in-Ok-clause-given : goal.returns-in-Ok-clause-given
returns-in-Ok-clause-given c = λ v b e few. (returns-in-Ok-clause-every c v (text_answers v _ _ b e few)).0

pub returns-in-Ok-clause-one : goal.returns-in-Ok-clause-one
returns-in-Ok-clause-one c = let h = returns-in-Ok-clause-value c in
    λ v b e. let same = (text_answered v h.0 _ _ b e h.1).0 in
    (sym h.2 ∙ ap length same, front_of h.0 _ _ _ h.2 h.3 ∙ same)

pub returns-in-Err-clause-every : goal.returns-in-Err-clause-every
returns-in-Err-clause-every c =
    let refused = rw c.unread-text.ensures at c.in-Err.ensures.refused in
    refused.0

pub returns-in-Err-clause-given : goal.returns-in-Err-clause-given
returns-in-Err-clause-given c = λ v b e few. returns-in-Err-clause-every c v (text_answers v _ _ b e few)

pub returns-in-Err-clause-refused : goal.returns-in-Err-clause-refused
returns-in-Err-clause-refused c = (_, rw c.unread-text.ensures at c.in-Err.ensures.refused, search rules)

pub returns-in-Err-clause-front : goal.returns-in-Err-clause-front
returns-in-Err-clause-front c =
    let behind = rw c.unread-text.ensures at c.in-Err.ensures.behind in
    let v = passed c.read_text.new.value in
    let front = over_front c.with_slice-value.result c.read_text.new.value c.args.out.now
    c.with_slice-value.ensures.bytes c.with_slice-value.ensures.start c.read_text.ensures.added in
    let over = front.1 ∙ ap (λ n. v ++ drop n c.args.out.now) (sym front.0) in
    (v, behind, omega (arith, c.read_text.ensures.small), search (rules, over))

pub returns-in-Err-clause-fault : goal.returns-in-Err-clause-fault
unfolding returns-in-Err-clause-front
returns-in-Err-clause-fault c =
    let h = returns-in-Err-clause-front c in
    let front = over_front c.with_slice-value.result c.read_text.new.value c.args.out.now
    c.with_slice-value.ensures.bytes c.with_slice-value.ensures.start c.read_text.ensures.added in
    let shown = front_of h.0 _ _ _ (front.0 ∙ sym c.off-written.ensures.position) h.3 in
    let stopped = rw c.unread-text.ensures at c.first_fault.ensures in
    (h.0, h.1, rw shown at stopped, h.3)
