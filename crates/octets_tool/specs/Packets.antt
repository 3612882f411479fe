-- The bytes of a packet: a kind, a number of two bytes, and a payload after its length, which is a varint (RFC
-- 9000, section 16). There are two forms of packets, which differ in how the kind is spelled.
use Rattle.std.specs.Prelude.{◌≡◌, ℕ, ◌+◌, ◌<◌, ◌≤◌, List, [], ◌∷◌, ◌++◌, length, take, drop, Result, Ok, Err}
use Rattle.octets.specs.Bytes.{number}
use Rattle.octets.specs.Varints.{IsVarint, BeginsVarint, HasNoVarint, shortest}
use Rattle.octets.specs.Cursor.{bytes, position, rest}
use Rattle.octets.specs.Octets.{Octets}
use Rattle.octets_tool.specs.declared.packet.Packet.{Packet}
use Rattle.octets_tool.specs.declared.packet.PacketFault.{PacketFault}
use Rattle.octets_tool.specs.declared.packet.PacketFault.TheVariants.{Refused, Trailing}

-- the fields of a packet
pub record PacketFields : Type 0 where
  pub kind : ℕ
  pub number : ℕ
  pub payload : List ℕ

-- ---- what follows the kind

-- the bytes are the number n, the payload after its length, and then the bytes `after`
pub record IsBody (body : List ℕ) (n : ℕ) (payload after : List ℕ) : Type 0 where
  pub number_bytes : List ℕ
  pub length_bytes : List ℕ
  pub width : ℕ
  pub two_bytes : length number_bytes ≡ 2
  pub is_number : number number_bytes ≡ n
  pub is_length : IsVarint length_bytes width (length payload)
  pub joined : body ≡ number_bytes ++ length_bytes ++ payload ++ after

-- The bytes end before the packet does. The offset is where the first incomplete field begins: the number, the
-- length of the payload, or the payload.
pub data IsBodyRefusedAt (body : List ℕ) : ℕ → Type 0 where
  no_number : length body < 2 → IsBodyRefusedAt body 0
  no_length : 2 ≤ length body → HasNoVarint (drop 2 body) → IsBodyRefusedAt body 2
  no_payload : (width len : ℕ) → 2 ≤ length body → BeginsVarint (drop 2 body) width len → length body < 2 + width + len
      → IsBodyRefusedAt body (2 + width)

-- the result of reading the bytes at the offset `at`, after this kind
abbrev pub IsBodyResult : List ℕ → ℕ → ℕ → Result PacketFields PacketFault → Type 0
IsBodyResult body at kind (Ok fields) = (fields.kind ≡ kind) × IsBody body fields.number fields.payload []
IsBodyResult body at kind (Err (Trailing count)) =
    (n : ℕ) × (payload : List ℕ) × (after : List ℕ) × IsBody body n payload after × (length after ≡ count) × (0 < count)
IsBodyResult body at kind (Err (Refused offset)) = (n : ℕ) × IsBodyRefusedAt body n × (offset ≡ at + n)

-- the read of what follows the kind failed, and the cursor is at the first incomplete field
abbrev pub RefusesBody : Octets → Octets → Type 0
RefusesBody old new = (n : ℕ) × IsBodyRefusedAt (rest old) n × (position new ≡ position old + n)

-- ---- the packet, for each form of its kind

-- the first `width` bytes of the input spell the kind n
abbrev pub BeginsKind : (List ℕ → ℕ → Type 0) → List ℕ → ℕ → ℕ → Type 0
BeginsKind Kind input width n = (width ≤ length input) × Kind (take width input) n

-- the input is a packet with these fields, and then the bytes `after`
pub record IsPacketOf (Kind : List ℕ → ℕ → Type 0) (input : List ℕ) (fields : PacketFields)
    (after : List ℕ) : Type 0 where
  pub kind_bytes : List ℕ
  pub body : List ℕ
  pub is_kind : Kind kind_bytes fields.kind
  pub is_body : IsBody body fields.number fields.payload after
  pub joined : input ≡ kind_bytes ++ body

-- the input is a packet, followed by `count` bytes, at least one
pub record HasTrailingOf (Kind : List ℕ → ℕ → Type 0) (input : List ℕ) (count : ℕ) : Type 0 where
  pub fields : PacketFields
  pub after : List ℕ
  pub is_packet : IsPacketOf Kind input fields after
  pub as_many : length after ≡ count
  pub some : 0 < count

-- The input doesn't begin with a kind, or it ends before the packet does. The offset is where the first field
-- begins that is incomplete or not allowed.
pub data IsRefusedOf (Kind : List ℕ → ℕ → Type 0) (input : List ℕ) : ℕ → Type 0 where
  no_kind : ((width n : ℕ) → BeginsKind Kind input width n → ⊥) → IsRefusedOf Kind input 0
  no_body : {width n offset : ℕ} → BeginsKind Kind input width n → IsBodyRefusedAt (drop width input) offset
      → IsRefusedOf Kind input (width + offset)

-- the result of reading the input as a packet: its fields, or how many bytes follow it, or where the read failed
abbrev pub IsResultOf : (List ℕ → ℕ → Type 0) → List ℕ → Result PacketFields PacketFault → Type 0
IsResultOf Kind input (Ok fields) = IsPacketOf Kind input fields []
IsResultOf Kind input (Err (Trailing count)) = HasTrailingOf Kind input count
IsResultOf Kind input (Err (Refused offset)) = IsRefusedOf Kind input offset

-- ---- a kind of one byte

-- the bytes are the kind n alone
abbrev pub OneByte : List ℕ → ℕ → Type 0
OneByte b n = b ≡ n ∷ []

-- the input is a packet with these fields, and then the bytes `after`
abbrev pub IsPacket : List ℕ → PacketFields → List ℕ → Type 0
IsPacket input fields after = IsPacketOf OneByte input fields after

-- the input is a packet, followed by `count` bytes, at least one
abbrev pub HasTrailing : List ℕ → ℕ → Type 0
HasTrailing input count = HasTrailingOf OneByte input count

-- reading the input as a packet fails at this offset
abbrev pub IsRefusedAt : List ℕ → ℕ → Type 0
IsRefusedAt input offset = IsRefusedOf OneByte input offset

-- the result of reading the input as such a packet
abbrev pub IsPacketResult : List ℕ → Result PacketFields PacketFault → Type 0
IsPacketResult input r = IsResultOf OneByte input r

-- ---- a kind that is a varint of the least width that holds it

-- the bytes are the varint of the kind n in its least width
abbrev pub ShortestVarint : List ℕ → ℕ → Type 0
ShortestVarint b n = IsVarint b (shortest n) n

-- ---- a result of the program

-- the fields of a packet, with its payload as a list of bytes
abbrev pub fields_of : Packet → PacketFields
fields_of packet = record { kind = packet.kind; number = packet.number; payload = bytes packet.payload }

-- a result, with the fields of its packet
abbrev pub shown : Result Packet PacketFault → Result PacketFields PacketFault
shown (Ok packet) = Ok (fields_of packet)
shown (Err fault) = Err fault
