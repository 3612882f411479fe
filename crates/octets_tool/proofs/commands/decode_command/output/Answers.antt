-- A decode that fails has passed as many bytes as the offset says.
use Rattle.std.proofs.Common.{◌≡◌, ◌++◌, codes, ap, subst, ◌∙◌, inr, arith, rules}
use Rattle.std.specs.Fmt.{decimal}
use Rattle.octets_code.specs.Answers.{IsRefusal}
use Rattle.octets_tool.proofs.Fields.{whole_rest}
use Rattle.octets_tool.proofs.OutputLaws.{refused_line}
use Rattle.octets.specs.Requests.{may_refuse}
use Rattle.octets_tool.proofs.commands.decode_command.output.Goals as goal

pub returns-in_ok-text-in-Err-Short : goal.returns-in_ok-text-in-Err-Short
returns-in_ok-text-in-Err-Short c =
    let short = rw c.in-Err-Short.field-0-is at c.in-Err-Short.ensures in
    let start = c.with_slice-cursor.result in
    let n = short.ends.refused.0 in
    let whole = whole_rest start c.args.text.now c.with_slice-cursor.ensures.start c.with_slice-cursor.ensures.bytes in
    let offset : c.off-offset.result ≡ n =
    omega (arith, short.ends.refused.2.0, c.off-offset.ensures.position, c.with_slice-cursor.ensures.start) in
    let line = refused_line (codes "refused at ") _ n (c.in_ok-text-in-Err-Short.ensures.ok
    ∙ ap (λ k. codes "refused at " ++ (decimal k ++ codes "\n")) offset) in
    inr (n, subst (λ t. IsRefusal t c.args.limit n) whole (short.ends.refused.1), grind (arith, line))

-- the line is formatted in memory for which this function asks
pub returns-in_err-text-in-Ok : goal.returns-in_err-text-in-Ok
returns-in_err-text-in-Ok c = search (rules, may_refuse)

pub returns-in_err-text-in-Err-Short : goal.returns-in_err-text-in-Err-Short
returns-in_err-text-in-Err-Short c = search (rules, may_refuse)
