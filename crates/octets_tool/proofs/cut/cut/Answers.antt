use Rattle.std.proofs.Common.{ℕ, ◌+◌, ◌==◌, ◌∷◌, take, sym, ap, ◌∙◌}
use Rattle.std.specs.List.{slice_split}
use Rattle.std.proofs.lemmas.List.{take_rest}
use Rattle.octets_tool.proofs.Cutting.{cut_some}
use Rattle.octets_tool.proofs.cut.cut.Goals as goal

pub returns-in-Some-clause-parts : goal.returns-in-Some-clause-parts
returns-in-Some-clause-parts c =
    cut_some (λ b. b == c.args.byte) c.args.text.now c.in-Some.at (sym c.in-Some.ensures)
    ∙ ap (λ r. take c.in-Some.at c.args.text.now ∷ slice_split (λ (b : ℕ). b == c.args.byte) r)
    (sym (take_rest c.args.text.now (c.in-Some.at + 1)))
