-- Writes into a buffer of which it is known that they fit.
use Rattle.std.proofs.Common.{◌≡◌, true, ℕ, ◌+◌, ◌≤◌, List, length, take, drop, IfOk, OnErr, Result, Ok, Err, refl}
use Rattle.std.proofs.Common.{◌∙◌, ap, arith, length-drop}
use Rattle.octets.specs.Bytes.{splice}
use Rattle.octets.specs.Loans.{SliceCursor, standing}
use Rattle.octets.specs.Cursor.{bytes, position, passed, rest, IsUnchanged, Keeps, Writes}
use Rattle.octets.specs.Writing.{length_splice, bytes_after}
use Rattle.octets.proofs.lemmas.Writes.{is_write}
use Rattle.octets_literal.specs.Puts.{Appended}
use Rattle.octets_literal.proofs.Written.{length-shortest, literal_of_cased}
use Rattle.octets_code.proofs.TextLemmas.{each_byte}
use Rattle.octets.proofs.lemmas.CasedCodes.{length-cased}
use Rattle.octets.proofs.CallerLemmas.{keeps_writes, keeps_unchanged}

-- a loan of the next bytes that is left as w is a write of w
pub left_as : (s : SliceCursor) (n : ℕ) (w : List ℕ) → n ≡ length w → n ≤ length (rest s)
    → Writes s (standing s (splice (bytes s) (position s) w) (position s + n)) w
left_as s n w e h =
    let long = length_splice (bytes s) (position s) w in
    let d = length-drop (position s) (bytes s) in
    let within = s.within in
    is_write s (standing s (splice (bytes s) (position s) w) (position s + n)) w (omega (arith, e, h))
    (omega (arith, e, h, d, within, long)) refl

-- how many bytes remain for a cursor at the start of bytes
pub first_room : (c : SliceCursor) (b : List ℕ) → bytes c ≡ b → position c ≡ 0 → length (rest c) ≡ length b
first_room c b e start = ap length (ap (λ k. drop k (bytes c)) start ∙ e)

-- what was put at the start of bytes is what comes before the cursor's position
pub put_first : (old new : SliceCursor) (b t : List ℕ) (n : ℕ) → position old ≡ 0
    → Appended true (passed old) (passed new) t → b ≡ bytes new → n ≡ position new → take n b ≡ t
unfolding Appended
put_first old new b t n start put e f = cc

-- at a writer of lengths
pub ruleset lengths = (first_room, put_first, length-shortest)

-- the bytes after a write that succeeds, as a splice
pub bytes_after_ok : {T E : Type 0} (r : Result T E) (old new : SliceCursor) (t : List ℕ)
    → IfOk r (λ _. Writes old new t) → IfOk r (λ _. bytes new ≡ splice (bytes old) (position old) t)
bytes_after_ok (Ok x) old new t h = bytes_after old new t h
bytes_after_ok (Err e) old new t h = tt

-- a write that changes nothing if it fails leaves the bytes before the position unchanged, whatever its result is
pub keeps_either : {T E : Type 0} (r : Result T E) (old new : SliceCursor) (t : List ℕ) → IfOk r (λ _. Writes old new t)
    → OnErr r (IsUnchanged old new) → Keeps old new
keeps_either (Ok x) old new t h k = keeps_writes old new t h
keeps_either (Err e) old new t h k = keeps_unchanged old new k

-- at a writer of literals
pub ruleset strings_written = (bytes_after_ok, literal_of_cased, each_byte)

-- at one of plain data into a loan
pub ruleset lent_data = (left_as, length-cased)
