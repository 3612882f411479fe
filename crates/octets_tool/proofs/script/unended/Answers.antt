use Rattle.std.proofs.Common.{◌≡◌, ◌++◌, codes, Some, None, ap, sym, ◌∙◌}
use Rattle.std.proofs.lemmas.Bool.Decides.{Decides-eqb}
use Rattle.std.proofs.lemmas.Slice.Eq.{strip_suffix_is}
use Rattle.octets_tool.specs.Scripts.{unended}
use Rattle.octets_tool.proofs.ScriptLines.{unended-feed, unended-same}
use Rattle.octets_tool.proofs.script.unended.Goals as goal

pub returns-in-Some : goal.returns-in-Some
returns-in-Some c =
    let ended : c.args.input.now ≡ c.in-Some.text.now ++ codes "\n" =
    strip_suffix_is Decides-eqb c.args.input.now c.as_slice.result.now (Some c.in-Some.text)
    c.in-Some.ensures.cases ∙ ap (λ p. c.in-Some.text.now ++ p) c.as_slice.ensures in
    sym (ap unended ended ∙ unended-feed c.in-Some.text.now)

pub returns-in-None : goal.returns-in-None
returns-in-None c =
    let never = strip_suffix_is Decides-eqb c.args.input.now c.as_slice.result.now None c.in-None.ensures.cases in
    sym (unended-same c.args.input.now (λ front e. never front (e ∙ ap (λ p. front ++ p) (sym c.as_slice.ensures))))
