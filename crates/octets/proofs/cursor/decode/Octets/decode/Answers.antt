-- The result of `read_text` is for the slice of the bytes that remain. The clauses about every value follow by the
-- laws of texts: a text has one value under a limit.
use Rattle.std.proofs.Common.{[], ◌∙◌, rules}
use Rattle.octets.specs.Cursor.{rest}
use Rattle.octets.proofs.lemmas.CodeFacts.{answers_are_one, passed_within}
use Rattle.octets.proofs.lemmas.TextsRead.{empty_answer}
use Rattle.octets.proofs.cursor.decode.Octets.decode.Goals as goal

pub advance-requires-in-Err : goal.advance-requires-in-Err
advance-requires-in-Err c =
    let refused = rw c.unread-text.ensures at c.in-Err.ensures.refused in
    passed_within (rest c.args.self.now) c.args.max_len _ refused.1

pub returns-in-Ok-clause-value : goal.returns-in-Ok-clause-value
returns-in-Ok-clause-value c = rw c.unread-text.ensures at c.in-Ok.ensures.answer

pub returns-in-Ok-clause-every : goal.returns-in-Ok-clause-every
returns-in-Ok-clause-every c =
    λ v a. (answers_are_one (rest c.args.self.now) c.args.max_len).0 _ v (returns-in-Ok-clause-value c) a

pub returns-in-Ok-clause-ends : goal.returns-in-Ok-clause-ends
returns-in-Ok-clause-ends c =
    record {
      passed = search rules;
      refused = tt;
      unread = tt;
      same_bytes = search rules;
      reserved = tt;
      granted = rw c.unread-text.ensures at c.in_ok-value.ensures.granted;
      not_granted = tt;
      empty = λ e. (answers_are_one (rest c.args.self.now) c.args.max_len).0 _ []
          (returns-in-Ok-clause-value c) (empty_answer (rest c.args.self.now) c.args.max_len e);
      small = search rules;
      capacity = c.read_text.ensures.added.1 ∙ rw c.unread-text.ensures at c.in_ok-value.ensures.room;
    }

pub returns-in-Ok-clause-counted : goal.returns-in-Ok-clause-counted
returns-in-Ok-clause-counted c = rw c.unread-text.ensures at c.read_text.ensures.counted

pub returns-in-Err-clause-ends : goal.returns-in-Err-clause-ends
returns-in-Err-clause-ends c =
    let refused = rw c.unread-text.ensures at c.in-Err.ensures.refused in
    record {
      passed = tt;
      refused = (_, refused, search rules);
      unread = tt;
      same_bytes = search rules;
      reserved = tt;
      granted = rw c.unread-text.ensures at c.in_ok-value.ensures.granted;
      not_granted = tt;
      empty = λ e. refused.0 [] (empty_answer (rest c.args.self.now) c.args.max_len e);
      small = tt;
      capacity = tt;
    }

pub returns-in-Err-clause-counted : goal.returns-in-Err-clause-counted
returns-in-Err-clause-counted c = rw c.unread-text.ensures at c.read_text.ensures.counted

pub returns-in-Err-clause-every : goal.returns-in-Err-clause-every
returns-in-Err-clause-every c =
    let refused = rw c.unread-text.ensures at c.in-Err.ensures.refused in
    λ v a. refused.0 v a
