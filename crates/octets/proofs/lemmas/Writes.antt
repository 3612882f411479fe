-- A write is the splice at the offset, both ways, for every buffer.
use Rattle.std.proofs.Common.{◌≡◌, ℕ, ◌+◌, ◌≤◌, List, [], length, length-drop, Result, Ok, Err, OnOk, arith, ◌++◌}
use Rattle.std.proofs.Common.{subst, OnErr, take, drop}
use Rattle.std.proofs.lemmas.Grind.{common_steps}
use Rattle.std.proofs.lemmas.List.{drop-drop, take_at}
use Rattle.octets.specs.Bytes.{splice}
use Rattle.octets.specs.Laws.{Spliced}
use Rattle.octets.specs.Writing.{bytes_after, length_splice, take-splice_end, drop-splice_end, same_length}
use Rattle.octets.specs.Writing.{writes_nothing}
use Rattle.octets.specs.Cursor.{bytes, position, rest, Writes, IsUnchanged, Keeps, passed}
use Rattle.octets.specs.declared.cursor.buffer.Bytes.{Ghosts}
use Rattle.octets.specs.declared.cursor.Cursor.{Cursor}
use Rattle.octets.specs.Sinks.{SomeFront}
use Rattle.std.proofs.Math.Seq.{take-append_seam}
use Rattle.octets.specs.Loans.{SliceCursor}

-- a buffer is what holds its own bytes
rehold : {X : Type 0} (g : Ghosts X) (a b : X) → g.holding b [] ≡ g.holding a [] → b ≡ g.holding a (g.bytes b)
rehold g a b e = cc (g.holding_own b, g.holding_last b [] _, g.holding_last a [] _)

module _ {X : Type 0} {g : Ghosts X} where
  -- a splice at the position of a cursor, past which the cursor then is, is a write
  pub is_write : (a b : Cursor X g) (w : List ℕ) → length w ≤ length (rest a) → position b ≡ position a + length w
      → b.buf ≡ g.holding a.buf (splice (bytes a) (position a) w) → Writes a b w
  is_write a b w f p e = grind (arith, length_splice, length-drop, take-splice_end, drop-splice_end, drop-drop)

  pub write_fits : (a b : Cursor X g) (w : List ℕ) → Writes a b w → position a + length w ≤ length (bytes a)
  write_fits a b w h = grind (arith, common_steps)

  pub splice_of : (a b : Cursor X g) (w : List ℕ) → Writes a b w → Spliced a b w
  splice_of a b w h = grind (arith, write_fits, rehold, bytes_after)

  pub write_of : (a b : Cursor X g) (w : List ℕ) → Spliced a b w → Writes a b w
  write_of a b w h = is_write a b w (grind (arith, common_steps)) h.past h.buffer

  -- what a call leaves that wrote where it is Ok, as a splice
  pub splice_at_ok : {T E : Type 0} (r : Result T E) (a b : Cursor X g) (w : List ℕ) → OnOk r (Writes a b w)
      → OnOk r (bytes b ≡ splice (bytes a) (position a) w)
  splice_at_ok (Ok x) a b w h = bytes_after a b w h
  splice_at_ok (Err e) a b w h = h

-- What is unchanged, whatever was written.

module _ {X : Type 0} {g : Ghosts X} where
  pub keeps_unchanged : (a b : Cursor X g) → IsUnchanged a b → Keeps a b
  keeps_unchanged a b h = grind (arith, common_steps)

  pub keeps_writes : (a b : Cursor X g) (w : List ℕ) → Writes a b w → Keeps a b
  keeps_writes a b w h = grind (arith, common_steps, same_length)

  -- a call that writes t, or fails after a prefix of t
  pub keeps_gives : {T E : Type 0} (r : Result T E) (a b : Cursor X g) (t : List ℕ) → OnOk r (Writes a b t)
      → OnErr r (SomeFront t (Writes a b)) → Keeps a b
  keeps_gives (Ok x) a b t ok err = keeps_writes a b t ok
  keeps_gives (Err e) a b t ok err = keeps_writes a b _ err.1

  -- after one call the next
  pub keeps_more : (a b c : Cursor X g) → Keeps a b → Keeps b c → Keeps a c
  keeps_more a b c h k = grind (arith, common_steps, same_length)

  -- a write, and then a call that fails and changes nothing
  pub writes_then_stays : (a b c : Cursor X g) (w : List ℕ) → Writes a b w → IsUnchanged b c → Writes a c w
  writes_then_stays a b c w h u = grind (arith, common_steps)

  -- the first of several writes failed: no byte of them was written
  pub wrote_nothing : (a b : Cursor X g) (t : List ℕ) → IsUnchanged a b → SomeFront t (Writes a b)
  wrote_nothing a b t u = (0, writes_then_stays a a b [] (writes_nothing a) u)

  -- a later one failed: the writes before it are a prefix of all of them
  pub wrote_front : (a b c : Cursor X g) (w left t : List ℕ) → t ≡ w ++ left → Writes a b w → IsUnchanged b c
      → SomeFront t (Writes a c)
  wrote_front a b c w left t e h u = (
    length w,
    subst (Writes a c)
        (grind (arith, take_at)) (writes_then_stays a b c w h u),
  )

  -- the same if the last of them may have failed
  pub wrote_front_at : {T E : Type 0} (r : Result T E) (a b c : Cursor X g) (w left t : List ℕ) → t ≡ w ++ left
      → Writes a b w → OnErr r (IsUnchanged b c)
      → OnErr r (SomeFront t (Writes a c))
  wrote_front_at (Ok x) a b c w left t e h u = tt
  wrote_front_at (Err x) a b c w left t e h u = wrote_front a b c w left t e h u

-- What a write by a cursor leaves.

module _ {X : Type 0} {g : Ghosts X} where
  pub writes_unchanged : (a b : Cursor X g) → IsUnchanged a b → Writes a b []
  writes_unchanged a b h = writes_then_stays a a b [] (writes_nothing a) h

-- the buffer in the end, if all that was passed was written from the start on
pub over_front : (a b : SliceCursor) (l : List ℕ) → bytes a ≡ l → position a ≡ 0 → Writes a b (passed b)
    → (length (passed b) ≡ position b) × (bytes b ≡ passed b ++ drop (position b) l)
over_front a b l is start h = grind (arith, common_steps)

-- the part of a list before the rest
pub front_of : (w l x : List ℕ) (n : ℕ) → length w ≡ n → x ≡ w ++ l → take n x ≡ w
front_of w l x n e is = rw (is, ← e) (take-append_seam w l)
