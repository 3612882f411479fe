use Rattle.std.proofs.Common.{◌∷◌, [], refl}
use Rattle.octets_tool.specs.Names.{decimal_word}
use Rattle.octets_tool.proofs.LineWords.{read_by}
use Rattle.octets_tool.proofs.script.command_line.with_number_word.Goals as goal

pub returns : goal.returns
returns c =
    read_by _ c.args.name.now (decimal_word c.in_ok-number_of.field-0 ∷ []) (_ ∷ []) refl
    ((c.in_ok-number_of.ensures _).0 refl, tt) _ c.with_number.ensures
