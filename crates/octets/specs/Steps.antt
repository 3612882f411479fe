-- What a list of commands replies, and what it leaves of a byte list l with a position p.
use Rattle.std.specs.Prelude.{◌≡◌, ◌⊎◌, ℕ, ◌+◌, ◌-◌, ◌==◌, nat_le}
use Rattle.std.specs.Prelude.{if◌then◌else◌, List, length, take, drop}
use Rattle.octets.specs.Bytes.{number, part, splice, over, network}
use Rattle.octets.specs.Varints.{BeginsVarint, HasNoVarint, shortest, varint}
use Rattle.octets.specs.Pieces.{kept_length}
use Rattle.octets_code.specs.Answers.{IsAnswer, IsRefusal}
use Rattle.octets_code.specs.Texts.{text, lower}
use Rattle.octets.specs.Calls.{Call, GetU8, GetU16, GetU24, GetU32, GetU64, PeekU8, GetVarint}
use Rattle.octets.specs.Calls.{GetVarintShortest, GetBytes, PeekBytes, GetBytesU8, GetBytesU16, GetBytesVarint}
use Rattle.octets.specs.Calls.{GetBytesMut, PeekBytesMut, PutU8, PutU16, PutU24, PutU32}
use Rattle.octets.specs.Calls.{PutU64, PutVarint, PutVarintWithLen, PutBytes, PutHuffman}
use Rattle.octets.specs.Calls.{PutHuffmanLower, Decode, Rewind, Skip, Slice, SliceLast, SplitAt}
use Rattle.octets.specs.Calls.{AsMut, Cap, Len, Off, IsEmpty, Buf, ToVec, Answer, Done, Number}
use Rattle.octets.specs.Calls.{Bytes, Two, Short, Overlong}

-- the reply to a command, and the bytes and the position that the command leaves
pub record Outcome : Type 0 where
  pub reply : Answer
  pub bytes : List ℕ
  pub position : ℕ

-- the outcome with the reply r, the bytes l and the position p
abbrev pub ends : Answer → List ℕ → ℕ → Outcome
ends r l p = record { reply = r; bytes = l; position = p }

-- the outcome of a command that fails as too short and changes nothing
abbrev pub short : List ℕ → ℕ → Outcome
short l p = ends Short l p

-- how many bytes remain
abbrev pub bytes_left : List ℕ → ℕ → ℕ
bytes_left l p = length (drop p l)

-- the outcome o if n bytes remain, and otherwise the failure as too short
abbrev pub needs : ℕ → List ℕ → ℕ → Outcome → Outcome
needs n l p o = if nat_le n (bytes_left l p) then o else short l p

-- l, of whose n bytes at position i the first were replaced by those of w, as many as both have
abbrev pub written_over : List ℕ → ℕ → ℕ → List ℕ → List ℕ
written_over l i n w = splice l i (over (part l i n) w)

-- a number of n bytes is read and passed
abbrev pub gets_number : ℕ → List ℕ → ℕ → Outcome
gets_number n l p = needs n l p (ends (Number (number (part l p n))) l (p + n))

-- n bytes are read
abbrev pub peeks_bytes : ℕ → List ℕ → ℕ → Outcome
peeks_bytes n l p = needs n l p (ends (Bytes (part l p n)) l p)

-- n bytes are read and passed
abbrev pub gets_bytes : ℕ → List ℕ → ℕ → Outcome
gets_bytes n l p = needs n l p (ends (Bytes (part l p n)) l (p + n))

-- n bytes after a complete length of w bytes are read and passed; if fewer remain, only the length is passed
abbrev pub gets_behind : ℕ → ℕ → List ℕ → ℕ → Outcome
gets_behind w n l p =
    if nat_le (w + n) (bytes_left l p) then ends (Bytes (part (drop p l) w n)) l (p + (w + n)) else ends Short l (p + w)

-- a number of w bytes and as many bytes as it says are read and passed
abbrev pub gets_prefixed : ℕ → List ℕ → ℕ → Outcome
gets_prefixed w l p = needs w l p (gets_behind w (number (part l p w)) l p)

-- n bytes are lent for writing and passed
abbrev pub lends_passed : ℕ → List ℕ → List ℕ → ℕ → Outcome
lends_passed n w l p = needs n l p (ends (Bytes (part l p n)) (written_over l p n w) (p + n))

-- n bytes are lent for writing
abbrev pub lends : ℕ → List ℕ → List ℕ → ℕ → Outcome
lends n w l p = needs n l p (ends (Bytes (part l p n)) (written_over l p n w) p)

-- the last n bytes of l are lent for writing, if as many remain
abbrev pub lends_last : ℕ → List ℕ → List ℕ → ℕ → Outcome
lends_last n w l p =
    let i = length l - n in
    needs n l p (ends (Bytes (drop i l)) (splice l i (over (drop i l) w)) p)

-- all bytes that remain are lent for writing
abbrev pub lends_rest : List ℕ → List ℕ → ℕ → Outcome
lends_rest w l p = ends (Bytes (drop p l)) (splice l p (over (drop p l) w)) p

-- the bytes b are written and passed, and then lent for writing
abbrev pub puts : List ℕ → List ℕ → List ℕ → ℕ → Outcome
puts b w l p = needs (length b) l p (ends Done (splice (splice l p b) p (over b w)) (p + length b))

-- the bytes b are written and passed
abbrev pub puts_bytes : List ℕ → List ℕ → ℕ → Outcome
puts_bytes b l p = needs (length b) l p (ends Done (splice l p b) (p + length b))

-- the Huffman text of v is written and passed; if it doesn't fit, a prefix of it is
abbrev pub puts_text : List ℕ → List ℕ → ℕ → Outcome
puts_text v l p =
    let t = text v in
    let front = take (kept_length (bytes_left l p) v) t in
    if nat_le (length t) (bytes_left l p) then ends Done (splice l p t) (p + length t) else ends Short
    (splice l p front) (p + length front)

-- the bytes before position i and those from it on are lent for writing, wherever p is
abbrev pub splits : ℕ → List ℕ → List ℕ → List ℕ → ℕ → Outcome
splits i v w l p =
    if nat_le i (length l) then ends (Two (take i l) (drop i l))
    (splice (splice l 0 (over (take i l) v)) i (over (drop i l) w)) p else short l p

-- How a command on l at p gets its outcome. The rest is what remains of l from p on.
pub data Step : Type 0 where
  -- the outcome depends only on l and p
  always : Outcome → Step
  -- the outcome depends on the varint with which the rest begins: it is f w n for a varint of n in w bytes, and x
  -- if there is none
  by_varint : (f : ℕ → ℕ → Outcome) (x : Outcome) → Step
  -- the outcome depends on the rest as a Huffman text under the limit m: it is f v for the value v, and g n if a
  -- decode fails that has passed n bytes
  by_decode : (m : ℕ) (f : List ℕ → Outcome) (g : ℕ → Outcome) → Step

-- the step of the command c on l at p
abbrev pub step : Call → List ℕ → ℕ → Step
step GetU8 l p = always (gets_number 1 l p)
step GetU16 l p = always (gets_number 2 l p)
step GetU24 l p = always (gets_number 3 l p)
step GetU32 l p = always (gets_number 4 l p)
step GetU64 l p = always (gets_number 8 l p)
step PeekU8 l p = always (needs 1 l p (ends (Number (number (part l p 1))) l p))
step GetVarint l p = by_varint (λ w n. ends (Number n) l (p + w)) (short l p)
step GetVarintShortest l p =
    by_varint (λ w n. if w == shortest n then ends (Number n) l (p + w) else ends Overlong l p) (short l p)
step (GetBytes n) l p = always (gets_bytes n l p)
step (PeekBytes n) l p = always (peeks_bytes n l p)
step GetBytesU8 l p = always (gets_prefixed 1 l p)
step GetBytesU16 l p = always (gets_prefixed 2 l p)
step GetBytesVarint l p = by_varint (λ w n. gets_behind w n l p) (short l p)
step (GetBytesMut n w) l p = always (lends_passed n w l p)
step (PeekBytesMut n w) l p = always (lends n w l p)
step (PutU8 v w) l p = always (puts (network 1 v) w l p)
step (PutU16 v w) l p = always (puts (network 2 v) w l p)
step (PutU24 v w) l p = always (puts (network 3 v) w l p)
step (PutU32 v w) l p = always (puts (network 4 v) w l p)
step (PutU64 v w) l p = always (puts (network 8 v) w l p)
step (PutVarint v w) l p = always (puts (varint (shortest v) v) w l p)
step (PutVarintWithLen v w) l p = always (puts (varint v.width v.value) w l p)
step (PutBytes v) l p = always (puts_bytes v l p)
step (PutHuffman v) l p = always (puts_text v l p)
step (PutHuffmanLower v) l p = always (puts_text (lower v) l p)
step (Decode m) l p = by_decode m (λ v. ends (Bytes v) l (p + bytes_left l p)) (λ n. ends Short l (p + n))
step (Rewind n) l p = always (if nat_le n p then ends Done l (p - n) else short l p)
step (Skip n) l p = always (needs n l p (ends Done l (p + n)))
step (Slice n w) l p = always (lends n w l p)
step (SliceLast n w) l p = always (lends_last n w l p)
step (SplitAt i v w) l p = always (splits i v w l p)
step (AsMut w) l p = always (lends_rest w l p)
step Cap l p = always (ends (Number (bytes_left l p)) l p)
step Len l p = always (ends (Number (length l)) l p)
step Off l p = always (ends (Number p) l p)
step IsEmpty l p = always (ends (Number (if length l == 0 then 1 else 0)) l p)
step Buf l p = always (ends (Bytes l) l p)
step ToVec l p = always (ends (Bytes (drop p l)) l p)

-- the outcome of the step is o, where the bytes t remain
abbrev pub ComesTo : Step → List ℕ → Outcome → Type 0
ComesTo (always x) t o = o ≡ x
ComesTo (by_varint f x) t o = ((w n : ℕ) × BeginsVarint t w n × (o ≡ f w n)) ⊎ (HasNoVarint t × (o ≡ x))
ComesTo (by_decode m f g) t o = ((v : List ℕ) × IsAnswer t m v × (o ≡ f v)) ⊎ ((n : ℕ) × IsRefusal t m n × (o ≡ g n))

-- the outcome of the command c on l at p is o
abbrev pub Performs : Call → List ℕ → ℕ → Outcome → Type 0
Performs c l p o = ComesTo (step c l p) (drop p l) o
