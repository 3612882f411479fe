-- The header of a TCP segment without options (RFC 9293, section 3.1).
use Rattle.std.specs.Prelude.{ℕ, List, ◌≡◌, ◌++◌}
use Rattle.octets.specs.Bytes.{network, number, part}
use Rattle.octets_lists.specs.declared.tcp.TcpHeader.{TcpHeader}

-- the bytes of a header
abbrev pub tcp_header : TcpHeader → List ℕ
tcp_header h = network 2 h.source ++ network 2 h.destination ++ network 4 h.sequence ++ network 4 h.acknowledgment
    ++ network 2 h.offset_and_flags ++ network 2 h.window ++ network 2 h.checksum ++ network 2 h.urgent

-- each number of the header h is the one at its position in l
abbrev pub IsHeaderAt : List ℕ → TcpHeader → Type 0
IsHeaderAt l h = (h.source ≡ number (part l 0 2)) × (h.destination ≡ number (part l 2 2))
    × (h.sequence ≡ number (part l 4 4)) × (h.acknowledgment ≡ number (part l 8 4))
    × (h.offset_and_flags ≡ number (part l 12 2)) × (h.window ≡ number (part l 14 2))
    × (h.checksum ≡ number (part l 16 2)) × (h.urgent ≡ number (part l 18 2))
