-- The line by its pieces.
use Rattle.std.proofs.Common.{◌≡◌, ℕ, List, ◌++◌, codes, ◌∙◌, append_assoc, rules}
use Rattle.std.specs.Fmt.{decimal}
use Rattle.octets_literal.specs.Literals.{canon}
use Rattle.octets_tool.specs.Lines.{hex}
use Rattle.octets_tool.specs.Output.{Output, answered, literal_output}
use Rattle.octets_tool.specs.declared.output.Status.TheVariants.{Answered}
use Rattle.octets.specs.Requests.{may_refuse}
use Rattle.octets_tool.proofs.commands.literal_command.answered_literal.Goals as goal

pieces : (a n b text : List ℕ)
    → text ≡ codes "value " ++ (a ++ (codes " rest " ++ (n ++ (codes " canon " ++ (b ++ codes "\n")))))
    → ◌≡◌ {A = Output} (record { text = text; status = Answered })
    (answered (codes "value " ++ a ++ codes " rest " ++ n ++ codes " canon " ++ b))
pieces a n b text e = rw e (simp append_assoc)

told : (v a b d text : List ℕ) (n : ℕ) → a ≡ v → b ≡ canon d → d ≡ v
    → text ≡ codes "value " ++ (hex a ++ (codes " rest " ++ (decimal n ++ (codes " canon " ++ (hex b ++ codes "\n")))))
    → ◌≡◌ {A = Output} (record { text = text; status = Answered }) (literal_output v n)
told v a b d text n value literal same e =
    pieces (hex v) (decimal n) (hex (canon v)) text (rw (value, literal, same) at e)

pub returns : goal.returns
returns c =
    c.answered.ensures
    ∙ told _ _ _ _ _ _ c.deref-2.ensures.value (c.deref-3.ensures.value ∙ c.in_ok-literal.ensures)
    c.deref.ensures.value c.in_ok-text.ensures.ok

-- the line is formatted in memory for which this function asks
pub returns-in_err-text : goal.returns-in_err-text
returns-in_err-text c = search (rules, may_refuse)
