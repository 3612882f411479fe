-- Bytes that don't begin with an integer of at most ten bytes (RFC 7541, section 5.1).
use Rattle.std.specs.Prelude.{◌≡◌, ℕ, ◌-◌, ◌%◌, ◌^◌, ◌<◌, ◌≤◌, ◌⊎◌, List, length, take, drop}
use Rattle.octets.specs.Bytes.{number, part}
use Rattle.octets_literal.specs.Faults.{GoOn}
use Rattle.octets_literal.specs.Lengths.{HasNoGroups as LacksGroups}
use Rattle.octets_literal.specs.declared.error.LiteralError.TheVariants as Reasons
use Rattle.octets_lists.specs.declared.integer.IntegerError.{IntegerError}
use Rattle.octets_lists.specs.declared.integer.IntegerError.TheVariants.{Short, Long}

-- each bit of the prefix of the first byte is 1, so the integer goes on after it
abbrev pub IsFull : List ℕ → ℕ → Type 0
IsFull l size = number (take 1 l) % 2 ^ size ≡ 2 ^ size - 1

-- l has fewer than ten bytes, and ends before the integer does
unfoldable pub EndsInInteger : List ℕ → ℕ → Type 0
EndsInInteger l size = (length l < 1) ⊎ (IsFull l size × (length l < 10) × GoOn (drop 1 l))

-- the integer has more than ten bytes
unfoldable pub IsLongInteger : List ℕ → ℕ → Type 0
IsLongInteger l size = IsFull l size × (10 ≤ length l) × GoOn (part l 1 9)

-- l doesn't begin with an integer of at most ten bytes, for the reason of this error
unfoldable pub HasNoInteger : List ℕ → ℕ → IntegerError → Type 0
HasNoInteger l size Short = EndsInInteger l size
HasNoInteger l size Long = IsLongInteger l size

-- l doesn't begin with at most `most` groups of seven bits, for the reason of this error
unfoldable pub HasNoGroups : List ℕ → ℕ → IntegerError → Type 0
HasNoGroups l most Short = LacksGroups l most Reasons.Short
HasNoGroups l most Long = LacksGroups l most Reasons.Length
