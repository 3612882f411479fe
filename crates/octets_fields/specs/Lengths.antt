use Rattle.std.specs.Prelude.{ℕ, List, ◌++◌, nat_lt, if◌then◌else◌}
use Rattle.octets.specs.Bytes.{network}

-- a length below 128 in one byte, and a greater one as the byte 130 and then two bytes
unfoldable pub length_bytes : ℕ → List ℕ
length_bytes n = if nat_lt n 128 then network 1 n else network 1 130 ++ network 2 n
