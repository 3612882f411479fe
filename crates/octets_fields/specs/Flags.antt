-- The flags of a TCP segment (RFC 9293, section 3.1).
use Rattle.std.specs.Prelude.{◌≡◌, ◌↔◌, ℕ, ◌/◌, ◌%◌, IsTrue}
use Rattle.octets_fields.specs.declared.flags.TcpFlags.{TcpFlags}

-- the flags are the lowest six bits of n
unfoldable pub AreFlags : TcpFlags → ℕ → Type 0
AreFlags f n = (IsTrue f.urg ↔ (n / 32 % 2 ≡ 1)) × (IsTrue f.ack ↔ (n / 16 % 2 ≡ 1))
    × (IsTrue f.psh ↔ (n / 8 % 2 ≡ 1)) × (IsTrue f.rst ↔ (n / 4 % 2 ≡ 1))
    × (IsTrue f.syn ↔ (n / 2 % 2 ≡ 1)) × (IsTrue f.fin ↔ (n % 2 ≡ 1))
