-- Extensions of TLS (RFC 8446, section 4.2).
use Rattle.std.specs.Prelude.{ℕ, ◌++◌, List, length}
use Rattle.octets.specs.Bytes.{network}
use Rattle.octets_lists.specs.declared.extensions.Extension.{Extension}

-- the bytes of an extension
abbrev pub extension : Extension → List ℕ
extension e = network 2 e.kind ++ network 2 (length e.value.now) ++ e.value.now
