use Rattle.std.proofs.Common.{◌∷◌, [], refl}
use Rattle.octets_tool.specs.Names.{decimal_word, hex_word}
use Rattle.octets_tool.proofs.LineWords.{read_by}
use Rattle.octets_tool.proofs.script.command_line.with_width.Goals as goal

pub returns-in-Some-2 : goal.returns-in-Some-2
returns-in-Some-2 c =
    read_by _ c.args.name.now (decimal_word c.in-Some.value ∷ decimal_word c.in-Some-number_of.width
    ∷ hex_word c.in-Some-2.bytes.items ∷ []) (_ ∷ _ ∷ _ ∷ []) refl (
      (c.in-Some.ensures _).0 refl,
      ((c.in-Some-number_of.ensures _).0 refl, ((c.in_ok-bytes.ensures _).0 (rw c.in-Some-2.is), tt)),
    ) _ c.with_two_numbers.ensures
