use Rattle.std.specs.Prelude.{◌≡◌, ◌+◌, ◌<◌, ◌≤◌, ℕ, List, length}
use Rattle.octets.specs.Bytes.{number, part}
use Rattle.octets.specs.Cursor.{IsViewOf}
use Rattle.octets.specs.Octets.{Octets}

-- after the version the token isn't complete, or its length is missing
abbrev pub LacksToken : List ℕ → Type 0
LacksToken l = (4 ≤ length l) × (length l < 5 + number (part l 4 1))

-- the version and the token with which l begins
abbrev pub IsToken : List ℕ → ℕ × Octets → Type 0
IsToken l r = (r.0 ≡ number (part l 0 4)) × IsViewOf (part l 5 (number (part l 4 1))) r.1
