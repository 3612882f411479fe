-- A DNS message as TCP carries it (RFC 1035, section 4.2.2).
use Rattle.std.specs.Prelude.{ℕ, List, ◌++◌, length}
use Rattle.octets.specs.Bytes.{network}

-- the message without its length: its identification, its flags, and everything after them
abbrev pub message : ℕ → ℕ → List ℕ → List ℕ
message id flags sections = network 2 id ++ network 2 flags ++ sections

-- the message after its length
unfoldable pub framed : List ℕ → List ℕ
framed message = network 2 (length message) ++ message
