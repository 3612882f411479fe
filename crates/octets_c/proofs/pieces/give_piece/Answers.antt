-- The bits begin with a word. If there is no complete word, they begin with a piece of the last bytes, and the
-- others are left.
use Rattle.std.proofs.Common.{length, ap, sym, ◌∙◌, arith}
use Rattle.octets_c.proofs.Waiting.{word_left, none_given, last_left, last_pieces_left, none_left}
use Rattle.octets_c.proofs.pieces.give_piece.Goals as goal

pub returns-in-Some-clause-text : goal.returns-in-Some-clause-text
returns-in-Some-clause-text c =
    let h = c.in-Some.ensures in
    rw c.to_be_bytes.ensures (word_left c.args.to_lower c.args.value.now c.args.place.now c.next_word.new.place
    c.in-Some.word (none_given _ _ c.requires h.word.0) h.given h.word.1).0

pub returns-in-Some-clause-pieces : goal.returns-in-Some-clause-pieces
returns-in-Some-clause-pieces c =
    let h = c.in-Some.ensures in
    λ _. (word_left c.args.to_lower c.args.value.now c.args.place.now c.next_word.new.place c.in-Some.word
    (none_given _ _ c.requires h.word.0) h.given h.word.1).1

pub returns-in-Some-clause-ends : goal.returns-in-Some-clause-ends
returns-in-Some-clause-ends c =
    let h = c.in-Some.ensures in
    let left = (word_left c.args.to_lower c.args.value.now c.args.place.now c.next_word.new.place c.in-Some.word
    (none_given _ _ c.requires h.word.0) h.given h.word.1).0 in
    (λ e. absurd (omega (arith, e)), λ e. absurd (let l = ap length (sym left ∙ e) in omega (arith, l)))

pub returns-clause-text : goal.returns-clause-text
returns-clause-text c =
    let h = c.in_default.ensures in
    last_left c.args.to_lower c.args.value.now _ c.args.place.now c.next_word.new.place c.give_last.new.place _ h.none.1
    h.none.0 h.given c.give_last.ensures.same c.give_last.ensures.bytes

pub returns-clause-pieces : goal.returns-clause-pieces
returns-clause-pieces c =
    let h = c.in_default.ensures in
    λ some. last_pieces_left c.args.to_lower c.args.value.now c.args.place.now c.next_word.new.place
    c.give_last.new.place _ h.holds h.none.1 h.none.0 h.given c.give_last.ensures.same
    c.give_last.ensures.given c.give_last.ensures.len some

pub returns-clause-ends : goal.returns-clause-ends
returns-clause-ends c =
    let h = c.in_default.ensures in let end = c.give_last.ensures.end in
    let none = none_left c.args.to_lower c.args.value.now c.args.place.now c.next_word.new.place h.none.1 h.given in
    (λ z. none.0 (end.0 z), λ t. end.1 (none.1 t))
