use Rattle.std.specs.Prelude.{ℕ, Bool, true, false, Option, None, Some, List, [], ◌+◌, ◌*◌}
use Rattle.octets.specs.Bytes.{network}

-- 1 for true, 0 for false
unfoldable pub bit : Bool → ℕ
bit true = 1
bit false = 0

-- the byte of flags
unfoldable pub flags : Bool → Bool → ℕ → ℕ
flags urgent numbered station = bit urgent * 128 + bit numbered * 64 + station

-- the number of a sensor, if there is one
unfoldable pub sensor_bytes : Option ℕ → List ℕ
sensor_bytes None = []
sensor_bytes (Some sensor) = network 4 sensor
