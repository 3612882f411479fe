-- The clauses by `text`, and the bound for the count, follow from those of `decode`.
use Rattle.std.proofs.Common.{◌≡◌, ℕ, ◌+◌, ◌*◌, ◌≤◌, List, length, IfOk, Result, Ok, Err, Vec, arith}
use Rattle.octets.specs.Decodes.{OnMemory, UnlessMemory, Counts}
use Rattle.octets.specs.declared.error.DecodeError.{DecodeError}
use Rattle.octets.specs.declared.error.DecodeError.TheVariants.{Short, Memory}
use Rattle.octets_code.specs.Answers.{IsAnswer}
use Rattle.octets_code.specs.Texts.{text, AreBytes}
use Rattle.octets.proofs.lemmas.CodeFacts.{steps_within, text_from}
use Rattle.octets.proofs.lemmas.TextsRead.{text_answers, text_answered}
use Rattle.octets.proofs.cursor.decode.Octets.get_huffman_decoded_counted.Goals as goal

-- the bytes are the encoding of the value that is returned
text_of : {A : Type 0} (r : Result (Vec ℕ A) DecodeError) (t : List ℕ) (m : ℕ)
    → IfOk r (λ w. IsAnswer t m w.items) → IfOk r (λ w. t ≡ text w.items)
text_of (Ok w) t m a = text_from _ _ a.2
text_of (Err e) t m a = tt

-- if they are the encoding of v, it is v, and within the limit
one_of : {A : Type 0} (r : Result (Vec ℕ A) DecodeError) (t : List ℕ) (m : ℕ) (v : List ℕ)
    → IfOk r (λ w. IsAnswer t m w.items) → AreBytes v → t ≡ text v → IfOk r (λ w. w.items ≡ v)
one_of (Ok w) t m v a h e = (text_answered v _ _ m h e a).0
one_of (Err e) t m v a h x = tt

limit_of : {A : Type 0} (r : Result (Vec ℕ A) DecodeError) (t : List ℕ) (m : ℕ) (v : List ℕ)
    → IfOk r (λ w. IsAnswer t m w.items) → AreBytes v → t ≡ text v → IfOk r (λ _. length v ≤ m)
limit_of (Ok w) t m v a h e = (text_answered v _ _ m h e a).1
limit_of (Err e) t m v a h x = tt

-- at most two steps are counted for each byte
two_each : {A : Type 0} (r : Result A DecodeError) (t : List ℕ) (m old new : ℕ)
    → UnlessMemory r (Counts t m old new) → OnMemory r (new ≡ old) → new ≤ old + 2 * length t
two_each (Ok w) t m old new n same = omega (arith, n.2, steps_within t m n.0 n.1)
two_each (Err (Short e)) t m old new n same = omega (arith, n.2, steps_within t m n.0 n.1)
two_each (Err (Memory e)) t m old new n same = omega (arith, same)

pub returns-clause-text : goal.returns-clause-text
returns-clause-text c = text_of _ _ c.args.max_len c.decode.ensures.value

pub returns-clause-one : goal.returns-clause-one
returns-clause-one c = λ v h e. one_of _ _ c.args.max_len v c.decode.ensures.value h e

pub returns-clause-limit : goal.returns-clause-limit
returns-clause-limit c = λ v h e. limit_of _ _ c.args.max_len v c.decode.ensures.value h e

pub returns-clause-given : goal.returns-clause-given
returns-clause-given c = λ v h e few. c.decode.ensures.every v (text_answers v _ c.args.max_len h e few)

pub returns-clause-two_each : goal.returns-clause-two_each
returns-clause-two_each c =
    two_each _ _ c.args.max_len _ _ c.decode.ensures.counted c.decode.ensures.uncounted
