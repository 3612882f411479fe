-- What a call of a cursor does, as the model says it.
use Rattle.std.specs.Prelude.{◌≡◌, ℕ, List, Result, Ok, Err, Vec, Bool, if◌then◌else◌}
use Rattle.std.specs.Borrow.{Bor}
use Rattle.octets.specs.declared.cursor.buffer.Bytes.{Ghosts}
use Rattle.octets.specs.declared.cursor.Cursor.{Cursor}
use Rattle.octets.specs.declared.error.VarintError.{VarintError}
use Rattle.octets.specs.declared.error.VarintError.TheVariants as V
use Rattle.octets.specs.Cursor.{bytes, position, holder, Advances}
use Rattle.octets.specs.Octets.{Octets}
use Rattle.octets.specs.Calls.{Call, PutHuffman, PutHuffmanLower, Answer, Done, Number, Bytes, Short, Overlong}
use Rattle.octets.specs.Steps.{Performs, ends}

module _ {X : Type 0} {g : Ghosts X} where
  -- the call c of the cursor old has the answer a and leaves new, as the model says, in the same buffer
  unfoldable pub Does : Call → Cursor X g → Answer → Cursor X g → Type 0
  Does c old a new = Performs c (bytes old) (position old) (ends a (bytes new) (position new))
      × (holder new ≡ holder old)

  -- The same for each cursor new of which P holds, as it does when the view that the call lent ends. The call only
  -- reads.
  abbrev pub DoesWhere : (Cursor X g → Type 0) → Call → Cursor X g → Answer → Type 0
  DoesWhere P c old a = (new : Cursor X g) → P new → Does c old a new × Advances old new

-- the call with which the text of v is written, in lower case if to_lower is true
abbrev pub put_text : Bool → List ℕ → Call
put_text to_lower v = if to_lower then PutHuffmanLower v else PutHuffman v

-- The answer that a result is. If the call failed, it is Short; a varint can also be Overlong.

abbrev pub done_answer : {T E : Type 0} → Result T E → Answer
done_answer (Ok u) = Done
done_answer (Err e) = Short

abbrev pub number_answer : {E : Type 0} → Result ℕ E → Answer
number_answer (Ok n) = Number n
number_answer (Err e) = Short

abbrev pub varint_answer : Result ℕ VarintError → Answer
varint_answer (Ok n) = Number n
varint_answer (Err V.Short) = Short
varint_answer (Err V.Overlong) = Overlong

abbrev pub slice_answer : {E : Type 0} → Result (Bor (List ℕ)) E → Answer
slice_answer (Ok s) = Bytes s.now
slice_answer (Err e) = Short

abbrev pub view_answer : {E : Type 0} → Result Octets E → Answer
view_answer (Ok v) = Bytes (bytes v)
view_answer (Err e) = Short

abbrev pub value_answer : {A E : Type 0} → Result (Vec ℕ A) E → Answer
value_answer (Ok v) = Bytes v.items
value_answer (Err e) = Short
