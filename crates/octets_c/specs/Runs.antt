-- Runs after a length.
use Rattle.std.specs.Prelude.{◌≡◌, ℕ, ◌+◌, ◌<◌, List, drop, length}
use Rattle.octets.specs.Varints.{BeginsVarint, HasNoVarint}

-- Either there is no complete varint in b at the offset, which is unchanged; or fewer bytes follow the varint than
-- it says, and the offset is past it.
pub data PassesLength (b : List ℕ) (old new : ℕ) : Type 0 where
  no_length : HasNoVarint (drop old b) → new ≡ old → PassesLength b old new
  no_bytes : (width len : ℕ) → BeginsVarint (drop old b) width len → length (drop old b) < width + len
      → new ≡ old + width → PassesLength b old new
