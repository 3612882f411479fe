-- HTTP/3 frames (RFC 9114, section 7.1).
use Rattle.std.specs.Prelude.{◌≡◌, ℕ, ◌+◌, ◌<◌, ◌≤◌, List, ◌++◌, length, drop}
use Rattle.octets.specs.Bytes.{part}
use Rattle.octets.specs.Varints.{BeginsVarint, HasNoVarint}
use Rattle.octets_formats.specs.Varints.{least}

-- a frame as it is written: its type, the length of its payload, and the payload
abbrev pub frame : ℕ → List ℕ → List ℕ
frame kind payload = least kind ++ least (length payload) ++ payload

-- The first n bytes of l are a frame: a varint of its type, a varint of the length of its payload, and the payload.
pub record BeginsFrame (l : List ℕ) (kind : ℕ) (payload : List ℕ) (n : ℕ) : Type 0 where
  pub width : ℕ
  pub length_width : ℕ
  pub is_kind : BeginsVarint l width kind
  pub is_length : BeginsVarint (drop width l) length_width (length payload)
  pub is_payload : payload ≡ part (drop width l) length_width (length payload)
  pub whole : length_width + length payload ≤ length (drop width l)
  pub takes : n ≡ width + (length_width + length payload)

-- l doesn't begin with a frame. The first incomplete field begins at n: the type, the length or the payload.
pub data IsRefusedAt (l : List ℕ) : ℕ → Type 0 where
  no_type : HasNoVarint l → IsRefusedAt l 0
  no_length : (width kind : ℕ) → BeginsVarint l width kind → HasNoVarint (drop width l) → IsRefusedAt l width
  no_payload : (width kind length_width len : ℕ) → BeginsVarint l width kind
      → BeginsVarint (drop width l) length_width len
      → length (drop width l) < length_width + len → IsRefusedAt l (width + length_width)
