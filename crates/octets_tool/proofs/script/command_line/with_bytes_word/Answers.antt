use Rattle.std.proofs.Common.{◌∷◌, [], refl}
use Rattle.octets_tool.specs.Names.{hex_word}
use Rattle.octets_tool.proofs.LineWords.{read_by}
use Rattle.octets_tool.proofs.script.command_line.with_bytes_word.Goals as goal

pub returns-in-Some : goal.returns-in-Some
returns-in-Some c =
    read_by _ c.args.name.now (hex_word c.in-Some.bytes.items ∷ []) (_ ∷ []) refl
    ((c.in_ok-bytes.ensures _).0 (rw c.in-Some.is), tt) _ c.with_bytes.ensures
