use Rattle.std.proofs.Common.{◌∷◌, [], refl}
use Rattle.octets_tool.specs.Names.{decimal_word, hex_word}
use Rattle.octets_tool.proofs.LineWords.{read_by}
use Rattle.octets_tool.proofs.script.command_line.with_parts.Goals as goal

pub returns-in-Some-3 : goal.returns-in-Some-3
returns-in-Some-3 c =
    read_by _ c.args.name.now (decimal_word c.in-Some.place ∷ hex_word c.in-Some-2.left.items
    ∷ hex_word c.in-Some-3.right.items ∷ []) (_ ∷ _ ∷ _ ∷ []) refl (
      (c.in-Some.ensures _).0 refl,
      ((c.in_ok-left.ensures _).0 (rw c.in-Some-2.is), ((c.in_ok-right.ensures _).0 (rw c.in-Some-3.is), tt)),
    ) _ c.with_two_byte_strings.ensures
