-- Sets of lemmas that the calls of the cursor name, for `using(..)`.
use Rattle.std.proofs.Common.{◌≤◌, ℕ, length, take, append_assoc, length-append, arith}
use Rattle.std.proofs.lemmas.List.{length-take}
use Rattle.octets.specs.Bytes.{network, prefixed}
use Rattle.octets.specs.Varints.{BeginsVarint}
use Rattle.octets.specs.Octets.{Octets}
use Rattle.octets.specs.declared.cursor.buffer.Bytes.{Ghosts}
use Rattle.octets.specs.declared.cursor.Cursor.{Cursor}
use Rattle.octets.specs.Cursor.{bytes, rest, IsViewOf, Passes, Reads, ReadsVarint}
use Rattle.octets.proofs.CallerLemmas.{reads_varint}
use Rattle.octets.proofs.lemmas.Splices.{network_high}
use Rattle.octets.proofs.lemmas.Writes.{keeps_gives, splice_at_ok}
use Rattle.octets.proofs.lemmas.Varints.{begins_below}

module _ {X : Type 0} {g : Ghosts X} where
  -- a varint that begins what remains, and is passed, is one that is read
  pub some_varint : (a b : Cursor X g) (w n : ℕ) → BeginsVarint (rest a) w n → Passes a b w → ReadsVarint a b n
  unfolding ReadsVarint
  some_varint a b w n v h = (w, v, reads_varint a b w n v h)

  -- a run after its length
  pub some_run : (a b c : Cursor X g) (v : Octets) (n k : ℕ) → Reads a b (network n k) → k ≤ length (rest b)
      → IsViewOf (take k (rest b)) v → Reads b c (bytes v) → Reads a c (prefixed n (bytes v))
  unfolding Reads prefixed
  some_run a b c v n k read fits view run = grind (arith, append_assoc, length-append, length-take)

-- a number is written, or a text
pub ruleset numbers = (network_high)

pub ruleset texts = (keeps_gives, splice_at_ok)

-- a varint is read, and a run after its length
pub ruleset varints = (begins_below, reads_varint, some_varint)

pub ruleset runs = (some_run)
