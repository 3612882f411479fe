use Rattle.std.proofs.Common.{◌∷◌, [], refl}
use Rattle.octets_script.specs.Calls.{Call, SplitAt}
use Rattle.octets_tool.specs.Commands.{Values, count, bytes}
use Rattle.octets_tool.specs.Names.{decimal_word, hex_word}
use Rattle.octets_tool.proofs.NamedRows.{none_found}
use Rattle.octets_tool.proofs.Rows.{made_by}
use Rattle.octets_tool.proofs.script.names.with_two_byte_strings.Goals as goal

abbrev split : Values (count ∷ bytes ∷ bytes ∷ []) → Call
split v = SplitAt v.0 v.1.0 v.1.1.0

pub returns-in_ok-count-in-split_at : goal.returns-in_ok-count-in-split_at
returns-in_ok-count-in-split_at c =
    let a = c.args in
    made_by split (a.left.items, (a.right.items, tt)) _ a.place
    (decimal_word a.place ∷ hex_word a.left.items ∷ hex_word a.right.items ∷ [])
    c.in_ok-count-in-split_at.ensures c.in-split_at.is refl

pub returns-in_err-count-in-split_at : goal.returns-in_err-count-in-split_at
returns-in_err-count-in-split_at c =
    let a = c.args in
    rw c.from_residual.ensures
    (made_by split (a.left.items, (a.right.items, tt)) _ a.place
    (decimal_word a.place ∷ hex_word a.left.items ∷ hex_word a.right.items ∷ [])
    c.in_err-count-in-split_at.ensures c.in-split_at.is refl)

pub returns-in_default : goal.returns-in_default
returns-in_default c =
    let a = c.args in
    none_found a.name.now (decimal_word a.place ∷ hex_word a.left.items ∷ hex_word a.right.items ∷ []) search
