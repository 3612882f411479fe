-- What a decoder has read of an encoding that comes in pieces.
use Rattle.std.specs.Prelude.{◌≡◌, ◌⊎◌, ℕ, ◌<◌, ◌≤◌, Bool, List, [], ◌∷◌, ◌++◌, length, take, drop, get_or}
use Rattle.octets_code.specs.Bits.{bits_of}
use Rattle.octets_code.specs.Codes.{code}
use Rattle.octets_code.specs.Steps.{IsOpen}
use Rattle.octets_code.specs.Texts.{bits, codes, AreBytes}
use Rattle.octets_code.specs.States.{path}
use Rattle.octets_pieces.specs.declared.byte_step.ByteStep.{ByteStep}

-- the bits x are the codes of the bytes v, and then left, which is a prefix of a code but not a code
pub record AreRead (x : List Bool) (v : List ℕ) (left : List Bool) : Type 0 where
  pub bytes : AreBytes v
  pub open_left : IsOpen left
  pub parts : x ≡ codes v ++ left

-- the end code begins the bits x
abbrev pub BeginsEnd : List Bool → Type 0
BeginsEnd x = (r : List Bool) × (x ≡ code 256 ++ r)

-- The step from the path p over the bits x of half a byte leads to the state number index. It completes no code, or the
-- code of this byte, or the end code.
abbrev pub IsHalf : List Bool → List Bool → ℕ → ℕ → ℕ → Type 0
IsHalf p x index byte count =
    (index < 256) × (((count ≡ 0) × (path index ≡ p ++ x))
    ⊎ (((count ≡ 1) × (byte < 256) × (p ++ x ≡ code byte ++ path index))
    ⊎ ((count ≡ 3) × BeginsEnd (p ++ x))))

-- the bytes whose codes a byte completes
abbrev pub bytes_of_step : ByteStep → List ℕ
bytes_of_step s = take s.count (s.first ∷ s.second ∷ [])

-- the step from the path p over the bits x of a byte completes these bytes
abbrev pub IsByteStep : List Bool → List Bool → ByteStep → Type 0
IsByteStep p x s = AreRead (p ++ x) (bytes_of_step s) (path s.index)

-- A decoder that had the bits old, and now has the bits new, has read the first n bytes of the piece. They completed
-- k bytes, with which the slice begins now; its other bytes are unchanged.
pub record HasRead (old new : List Bool) (piece before after : List ℕ) (n k : ℕ) : Type 0 where
  pub inside : n ≤ length piece
  pub fits : k ≤ length before
  pub read : AreRead (old ++ bits (take n piece)) (take k after) new
  pub behind : drop k after ≡ drop k before

-- after the bits p, this byte completes the codes of more bytes than there is room for
pub record IsTooMuch (p : List Bool) (byte room : ℕ) : Type 0 where
  pub value : List ℕ
  pub left : List Bool
  pub read : AreRead (p ++ bits_of 8 byte) value left
  pub more : room < length value

-- a decode stops before byte number n of the piece, which completes more bytes than there is room for
abbrev pub StopsForRoom : List Bool → List ℕ → ℕ → ℕ → Type 0
StopsForRoom p piece n room = (n < length piece) × IsTooMuch p (get_or piece n 0) room

-- a decode stops before byte number n of the piece, in which the end code ends
abbrev pub StopsForEnd : List Bool → List ℕ → ℕ → Type 0
StopsForEnd p piece n = (n < length piece) × BeginsEnd (p ++ bits_of 8 (get_or piece n 0))
