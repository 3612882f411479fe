-- QUIC STREAM frames (RFC 9000, section 19.8).
use Rattle.std.specs.Prelude.{◌≡◌, ◌≢◌, ℕ, ◌+◌, ◌-◌, ◌*◌, ◌/◌, ◌%◌, ◌^◌, ◌<◌, ◌≤◌, nat_lt, if◌then◌else◌}
use Rattle.std.specs.Prelude.{Bool, true, false, List, [], ◌++◌, length, take, drop}
use Rattle.octets.specs.Bytes.{network, number}
use Rattle.octets.specs.Varints.{marked_width, shortest, varint}
use Rattle.octets_formats.specs.declared.stream.StreamType.{StreamType}

-- a bit as a number
abbrev pub bit : Bool → ℕ
bit true = 1
bit false = 0

-- the byte of a type: whether the frame has an offset and a length, and whether the stream ends with it
abbrev pub type_byte : Bool → Bool → Bool → ℕ
type_byte offset len last = 8 + bit offset * 4 + bit len * 2 + bit last

-- the bytes b if the field is there, and otherwise no bytes
unfoldable pub optional : Bool → List ℕ → List ℕ
optional true b = b
optional false b = []

-- a varint of n in the least width, if it is there
abbrev pub least_if : Bool → ℕ → List ℕ
least_if there n = optional there (varint (shortest n) n)

-- a frame as it is written: its type, the number of the stream, the offset, the length, and the data
unfoldable pub stream_frame : Bool → Bool → Bool → ℕ → ℕ → List ℕ → List ℕ
stream_frame offset len last id at run = network 1 (type_byte offset len last) ++ varint (shortest id) id
    ++ least_if offset at ++ least_if len (length run) ++ run

-- a frame of this type
abbrev pub frame_of : StreamType → ℕ → ℕ → List ℕ → List ℕ
frame_of t id at run = stream_frame t.has_offset t.has_length t.is_last id at run

-- P is true of each frame with which l begins, and of the bytes after it, if each number is below 2 ^ 62, an offset
-- that isn't written is 0, and no byte follows data whose length isn't written
abbrev pub EachFrame : List ℕ → (Bool → ℕ → ℕ → List ℕ → List ℕ → Type 0) → Type 0
EachFrame l P = (offset len last : Bool) (id at : ℕ) (run after : List ℕ) → id < 2 ^ 62 → at < 2 ^ 62
    → length run < 2 ^ 62 → (offset ≡ false → at ≡ 0) → (len ≡ false → after ≡ [])
    → l ≡ stream_frame offset len last id at run ++ after → P last id at run after

-- All that follows is about any bytes l, whose varints may have any width.

-- the number of the varint with which l begins: all of its bits but the mark
abbrev pub marked_value : List ℕ → ℕ
marked_value l = number (take (marked_width l) l) % 2 ^ (8 * marked_width l - 2)

-- the width and the number of a varint, and the bytes after it; if it is absent, the number is `absent`
abbrev pub width_if : Bool → List ℕ → ℕ
width_if there l = if there then marked_width l else 0

abbrev pub value_if : Bool → ℕ → List ℕ → ℕ
value_if there absent l = if there then marked_value l else absent

abbrev pub after_if : Bool → List ℕ → List ℕ
after_if there l = drop (width_if there l) l

-- what the type says, by its bits
abbrev pub has_offset : List ℕ → Bool
has_offset l = nat_lt 0 (number (take 1 l) / 4 % 2)

abbrev pub has_length : List ℕ → Bool
has_length l = nat_lt 0 (number (take 1 l) / 2 % 2)

abbrev pub is_last : List ℕ → Bool
is_last l = nat_lt 0 (number (take 1 l) % 2)

-- the bytes from a field on
abbrev pub from_offset : List ℕ → List ℕ
from_offset l = after_if true (drop 1 l)

abbrev pub from_length : List ℕ → List ℕ
from_length l = after_if (has_offset l) (from_offset l)

-- what the fields say: the number of the stream, the offset, and how many data there are
abbrev pub id_of : List ℕ → ℕ
id_of l = marked_value (drop 1 l)

abbrev pub offset_of : List ℕ → ℕ
offset_of l = value_if (has_offset l) 0 (from_offset l)

-- how many data there are: as many as the length says, or all bytes if there is no length
abbrev pub count_if : Bool → List ℕ → ℕ
count_if there l = value_if there (length l) l

abbrev pub count_of : List ℕ → ℕ
count_of l = count_if (has_length l) (from_length l)

-- the data, and the bytes after them
abbrev pub data_of : List ℕ → List ℕ
data_of l = take (count_of l) (after_if (has_length l) (from_length l))

abbrev pub after_data : List ℕ → List ℕ
after_data l = drop (count_of l) (after_if (has_length l) (from_length l))

-- l lacks bytes of a varint, or of the data after a length; it has the varint, or the length and the data
abbrev pub Lacks : Bool → List ℕ → Type 0
Lacks there l = length l < width_if there l

abbrev pub Has : Bool → List ℕ → Type 0
Has there l = width_if there l ≤ length l

abbrev pub LacksRun : Bool → List ℕ → Type 0
LacksRun there l = Has there l × (length (after_if there l) < count_if there l)

abbrev pub HasRun : Bool → List ℕ → Type 0
HasRun there l = Has there l × (count_if there l ≤ length (after_if there l))

-- l has no type, or that of another frame
abbrev pub LacksType : List ℕ → Type 0
LacksType l = length l < 1

abbrev pub HasOtherType : List ℕ → Type 0
HasOtherType l = (1 ≤ length l) × (number (take 1 l) / 8 ≢ 1)

-- l has all bytes of a frame up to a field, this field included
abbrev pub HasType : List ℕ → Type 0
HasType l = number (take 1 l) / 8 ≡ 1

abbrev pub HasId : List ℕ → Type 0
HasId l = HasType l × Has true (drop 1 l)

abbrev pub HasOffset : List ℕ → Type 0
HasOffset l = HasId l × Has (has_offset l) (from_offset l)

abbrev pub HasData : List ℕ → Type 0
HasData l = HasOffset l × HasRun (has_length l) (from_length l)

-- l has all that is before a field, but fewer bytes than the field has
abbrev pub LacksId : List ℕ → Type 0
LacksId l = HasType l × Lacks true (drop 1 l)

abbrev pub LacksOffset : List ℕ → Type 0
LacksOffset l = HasId l × Lacks (has_offset l) (from_offset l)

abbrev pub LacksLength : List ℕ → Type 0
LacksLength l = HasOffset l × Lacks (has_length l) (from_length l)

abbrev pub LacksData : List ℕ → Type 0
LacksData l = HasOffset l × LacksRun (has_length l) (from_length l)

-- l is whole, and the data end within what a stream may have, or not
abbrev pub IsFrame : List ℕ → Type 0
IsFrame l = HasData l × (offset_of l + count_of l < 2 ^ 62)

abbrev pub EndsTooFar : List ℕ → Type 0
EndsTooFar l = HasData l × (2 ^ 62 ≤ offset_of l + count_of l)
