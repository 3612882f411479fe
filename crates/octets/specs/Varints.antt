-- Variable-length integers (RFC 9000, section 16).
use Rattle.std.specs.Prelude.{◌≡◌, ℕ, ◌+◌, ◌-◌, ◌*◌, ◌/◌, ◌^◌, ◌<◌, ◌≤◌, ◌⊎◌, nat_lt, List, length, take, if◌then◌else◌}
use Rattle.octets.specs.Bytes.{AreBytes, number, network}

-- The bytes b are a varint of n in w bytes. The top two bits of the first byte are the mark of the
-- width: 0, 1, 2 and 3 for the widths 1, 2, 4 and 8. All other bits are the number n.
pub record IsVarint (b : List ℕ) (w n : ℕ) : Type 0 where
  pub mark : ℕ
  pub is_mark : mark < 4
  pub has_width : w ≡ 2 ^ mark
  pub are_bytes : AreBytes b
  pub has_length : length b ≡ w
  pub is_held : n < 2 ^ (8 * w - 2)
  pub spells : number b ≡ mark * 2 ^ (8 * w - 2) + n

-- a prefix of l is a varint of n in w bytes
unfoldable pub BeginsVarint : List ℕ → ℕ → ℕ → Type 0
BeginsVarint l w n = (w ≤ length l) × IsVarint (take w l) w n

-- no prefix of l is a varint
abbrev pub HasNoVarint : List ℕ → Type 0
HasNoVarint l = (w n : ℕ) → BeginsVarint l w n → ⊥

-- the width that the mark in the first byte of l says
abbrev pub marked_width : List ℕ → ℕ
marked_width l = 2 ^ (number (take 1 l) / 64)

-- l has a first byte, and as many bytes as its mark says
abbrev pub HoldsVarint : List ℕ → Type 0
HoldsVarint l = (1 ≤ length l) × (marked_width l ≤ length l)

-- a prefix of l is a varint of len in width bytes, and as many bytes as it says follow
pub record HoldsPrefixed (l : List ℕ) : Type 0 where
  pub width : ℕ
  pub len : ℕ
  pub begins : BeginsVarint l width len
  pub within : width + len ≤ length l

-- No prefix of l is a varint, or fewer bytes follow the varint than it says.
pub data LacksPrefixed (l : List ℕ) : Type 0 where
  no_length : HasNoVarint l → LacksPrefixed l
  no_bytes : (width len : ℕ) → BeginsVarint l width len → length l < width + len → LacksPrefixed l

-- the least width that holds n
abbrev pub shortest : ℕ → ℕ
shortest n = if nat_lt n (2 ^ 6) then 1 else if nat_lt n (2 ^ 14) then 2 else if nat_lt n (2 ^ 30) then 4 else 8

-- a prefix of l is a varint that is wider than its value needs
pub record BeginsOverlong (l : List ℕ) : Type 0 where
  pub width : ℕ
  pub value : ℕ
  pub begins : BeginsVarint l width value
  pub wider : shortest value < width

-- the mark of a width
abbrev pub mark_of : ℕ → ℕ
mark_of w = if nat_lt w 2 then 0 else if nat_lt w 4 then 1 else if nat_lt w 8 then 2 else 3

-- w is a width of varints, in bytes
abbrev pub IsWidth : ℕ → Type 0
IsWidth w = (w ≡ 1) ⊎ ((w ≡ 2) ⊎ ((w ≡ 4) ⊎ (w ≡ 8)))

-- the varint of n in w bytes
unfoldable pub varint : ℕ → ℕ → List ℕ
varint w n = network w (mark_of w * 2 ^ (8 * w - 2) + n)
