-- Options of DHCP (RFC 2132, section 2).
use Rattle.std.specs.Prelude.{◌≡◌, ◌≢◌, ◌⊎◌, ℕ, ◌+◌, ◌<◌, ◌≤◌}
use Rattle.std.specs.Prelude.{Bool, true, false, List, length, take, drop, slice_index_or}
use Rattle.octets.specs.Bytes.{number, part}

-- l begins with n pad options, which are bytes of 0; after them comes another byte, or none
unfoldable pub BeginsPads : List ℕ → ℕ → Type 0
BeginsPads l n = ((k : ℕ) → k < n → slice_index_or l k 1 ≡ 0) × (slice_index_or l n 1 ≢ 0)

-- l begins with the end option
abbrev pub IsEnd : List ℕ → Type 0
IsEnd l = (1 ≤ length l) × (number (take 1 l) ≡ 255)

-- l begins with an option that has a value: its code, the length of the value, and the value
abbrev pub IsOption : List ℕ → ℕ → List ℕ → Type 0
IsOption l code value = (2 + length value ≤ length l) × (number (take 1 l) ≡ code)
    × (number (part l 1 1) ≡ length value) × (part l 2 (length value) ≡ value) × (code ≢ 255)

-- l has no byte, or ends within an option that has a value
abbrev pub IsCut : List ℕ → Type 0
IsCut l = (length l < 1) ⊎ ((number (take 1 l) ≢ 255) × (length l < 2 + number (part l 1 1)))

-- l begins with n pad options and the end option
unfoldable pub BeginsEnd : List ℕ → ℕ → Type 0
BeginsEnd l n = BeginsPads l n × IsEnd (drop n l)

-- l begins with n pad options, and an option of this code and this value
unfoldable pub BeginsOption : List ℕ → ℕ → ℕ → List ℕ → Type 0
BeginsOption l n code value = BeginsPads l n × IsOption (drop n l) code value × (code ≢ 0)

-- l begins with pad options, and ends before another option does
unfoldable pub EndsInOption : List ℕ → Type 0
EndsInOption l = (n : ℕ) × BeginsPads l n × IsCut (drop n l)

-- 1 until the last option was read, and then 0
unfoldable pub not_ended : Bool → ℕ
not_ended true = 0
not_ended false = 1
