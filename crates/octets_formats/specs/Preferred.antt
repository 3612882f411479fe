-- QUIC's transport parameter preferred_address (RFC 9000, section 18.2).
use Rattle.std.specs.Prelude.{◌≡◌, ◌≤◌, ◌<◌, ◌+◌, ◌⊎◌, ℕ, List, ◌++◌, length}
use Rattle.octets.specs.Bytes.{network, number, part}

-- an IPv4 address and a port
unfoldable pub four_bytes : ℕ → ℕ → List ℕ
four_bytes address port = network 4 address ++ network 2 port

-- an IPv6 address and a port
unfoldable pub six_bytes : List ℕ → ℕ → List ℕ
six_bytes address port = address ++ network 2 port

-- both
unfoldable pub addresses : ℕ → ℕ → List ℕ → ℕ → List ℕ
addresses four port six port6 = four_bytes four port ++ six_bytes six port6

-- the length of a connection ID in one byte, and the ID
unfoldable pub id_bytes : List ℕ → List ℕ
id_bytes id = network 1 (length id) ++ id

-- the whole parameter
unfoldable pub preferred : ℕ → ℕ → List ℕ → ℕ → List ℕ → List ℕ → List ℕ
preferred four port six port6 id token = addresses four port six port6 ++ id_bytes id ++ token

-- a length that a connection ID may have
abbrev pub IsIdLength : ℕ → Type 0
IsIdLength n = (1 ≤ n) × (n ≤ 20)

-- l begins with a length and an ID; or bytes are missing; or the length isn't allowed
unfoldable pub HasId : List ℕ → Type 0
HasId l = IsIdLength (number (part l 0 1)) × (1 + number (part l 0 1) ≤ length l)

unfoldable pub LacksId : List ℕ → Type 0
LacksId l = (length l < 1) ⊎ (IsIdLength (number (part l 0 1)) × (length l < 1 + number (part l 0 1)))

unfoldable pub HasBadId : List ℕ → Type 0
HasBadId l = (1 ≤ length l) × ((number (part l 0 1) ≡ 0) ⊎ (20 < number (part l 0 1)))

-- a parameter isn't complete, or its length isn't allowed. The length is at position 24, and the token has 16 bytes
unfoldable pub LacksPreferred : List ℕ → Type 0
LacksPreferred l = (length l < 25) ⊎ (IsIdLength (number (part l 24 1)) × (length l < 41 + number (part l 24 1)))

unfoldable pub HasBadLength : List ℕ → Type 0
HasBadLength l = (25 ≤ length l) × ((number (part l 24 1) ≡ 0) ⊎ (20 < number (part l 24 1)))
