use Rattle.std.proofs.Common.{length-drop, arith, ℕ, ◌*◌, ◌<◌, ◌≤◌, min, vec_len, IfOk, Vec, Result, Ok, Err}
use Rattle.octets.specs.Cursor.{rest}
use Rattle.octets.specs.Decodes.{OnMemory}
use Rattle.octets.specs.declared.error.DecodeError.{DecodeError}
use Rattle.octets.specs.declared.error.DecodeError.TheVariants.{Short, Memory}
use Rattle.octets.proofs.lemmas.CodeFacts.{text_is_text}
use Rattle.octets.proofs.lemmas.TextsRead.{held}
use Rattle.octets.proofs.cursor.decode.Octets.get_huffman_decoded.Goals as goal

few_of : {A : Type 0} (r : Result (Vec ℕ A) DecodeError) (n m : ℕ) → IfOk r (λ v. vec_len v ≤ min n m)
    → IfOk r (λ v. vec_len v ≤ n)
few_of (Ok v) n m h = omega (arith, h)
few_of (Err e) n m h = tt

some_of : {A : Type 0} (r : Result A DecodeError) (n m : ℕ) → OnMemory r (0 < min (2 * n) m) → OnMemory r (0 < n)
some_of (Ok v) n m h = tt
some_of (Err (Short e)) n m h = tt
some_of (Err (Memory e)) n m h = omega (arith, h)

pub returns-clause-every : goal.returns-clause-every
returns-clause-every c = λ v h x.
    c.get_huffman_decoded_counted.ensures.every v
    (held v (rest c.args.self.now) h x (omega (arith, length-drop c.args.self.now.off c.args.self.now.buf.now)))

pub returns-clause-given : goal.returns-clause-given
returns-clause-given c = λ v h e. returns-clause-every c v h (rw e (text_is_text v))

pub returns-clause-small : goal.returns-clause-small
returns-clause-small c = few_of _ _ _ c.get_huffman_decoded_counted.ensures.ends.small

pub returns-clause-reserved : goal.returns-clause-reserved
returns-clause-reserved c = some_of _ _ _ c.get_huffman_decoded_counted.ensures.ends.reserved
