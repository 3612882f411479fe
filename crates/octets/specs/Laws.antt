-- Laws of numbers in network order, of varints, and of what a cursor writes.
use Rattle.std.specs.Prelude.{◌≡◌, ◌↔◌, ℕ, ◌+◌, ◌*◌, ◌-◌, ◌^◌, ◌%◌, ◌<◌, ◌≤◌, List, length}
use Rattle.octets.specs.Bytes.{AreBytes, number, network, splice}
use Rattle.octets.specs.Varints.{IsVarint, BeginsVarint, IsWidth, shortest, varint}
use Rattle.octets.specs.declared.cursor.buffer.Bytes.{Ghosts}
use Rattle.octets.specs.declared.cursor.Cursor.{Cursor}
use Rattle.octets.specs.Cursor.{bytes, position, Writes}

-- the lowest n bytes of a number spell the number modulo 256 to the power n
abbrev pub NetworkIsNumber : Type 0
NetworkIsNumber = (n v : ℕ) → AreBytes (network n v) × (length (network n v) ≡ n) × (number (network n v) ≡ v % 256 ^ n)

-- bytes are those of the number that they spell, and n bytes spell less than 256 to the power n
abbrev pub NumberIsNetwork : Type 0
NumberIsNetwork = (b : List ℕ) → AreBytes b → (number b < 256 ^ length b) × (network (length b) (number b) ≡ b)

-- a list begins with at most one varint
abbrev pub BeginsOne : Type 0
BeginsOne = (l : List ℕ) (w n w' n' : ℕ) → BeginsVarint l w n → BeginsVarint l w' n' → (w ≡ w') × (n ≡ n')

-- each value has exactly one varint in each width that holds it
abbrev pub HasOneVarint : Type 0
HasOneVarint = (w n : ℕ) → IsWidth w → n < 2 ^ (8 * w - 2)
    → (b : List ℕ) × IsVarint b w n × ((c : List ℕ) → IsVarint c w n → c ≡ b)

-- each varint is the one that is written for its value and width
abbrev pub VarintIsWritten : Type 0
VarintIsWritten = (b : List ℕ) (w n : ℕ) → IsVarint b w n → b ≡ varint w n

-- a varint of the least width of a value holds the value
abbrev pub ShortestHolds : Type 0
ShortestHolds = (n : ℕ) → n < 2 ^ 62 → IsWidth (shortest n) × IsVarint (varint (shortest n) n) (shortest n) n

-- no varint of a smaller width holds it
abbrev pub ShortestIsLeast : Type 0
ShortestIsLeast = (b : List ℕ) (w n : ℕ) → IsVarint b w n → shortest n ≤ w

-- The bytes w fit into the buffer at the old position, where they replace as many bytes, and the cursor
-- is past them. The buffer is otherwise unchanged.
pub record Spliced {X : Type 0} {g : Ghosts X} (old new : Cursor X g) (w : List ℕ) : Type 0 where
  pub fits : position old + length w ≤ length (bytes old)
  pub past : position new ≡ position old + length w
  pub buffer : new.buf ≡ g.holding old.buf (splice (bytes old) (position old) w)

-- what Writes says and what Spliced says are the same, for every kind of buffer
abbrev pub WriteIsSplice : {X : Type 0} → Ghosts X → Type 0
WriteIsSplice {X} g = (old new : Cursor X g) (w : List ℕ) → Writes old new w ↔ Spliced old new w
