use Rattle.std.specs.Prelude.{ℕ, Bool, true, false, Option, None, Some, List, []}
use Rattle.octets.specs.Bytes.{network}

-- 1 for true, 0 for false
unfoldable pub bit : Bool → ℕ
bit true = 1
bit false = 0

-- four bytes, if there is a number
unfoldable pub word_bytes : Option ℕ → List ℕ
word_bytes None = []
word_bytes (Some word) = network 4 word
