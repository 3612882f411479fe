use Rattle.std.specs.Prelude.{ℕ, List}
use Rattle.octets.specs.Cursor.{IsViewOf}
use Rattle.octets.specs.Octets.{Octets}

-- `holds` is true of a cursor at the start of the bytes b
abbrev pub HoldsOfView : List ℕ → (Octets → Type 0) → Type 0
HoldsOfView b holds = (view : Octets) × IsViewOf b view × holds view
