-- Each reply adds its line.
use Rattle.std.proofs.Common.{◌≡◌, ℕ, ◌+◌, ◌<◌, List, [], ◌∷◌, ◌++◌, length, take, map, flat_map, get_or, sym, ap, ◌∙◌}
use Rattle.std.proofs.Common.{arith, rules}
use Rattle.std.proofs.Math.Seq.{take-suc}
use Rattle.std.proofs.lemmas.List.{map_push, take_all}
use Rattle.std.proofs.lemmas.Result.{err_from_is_err_and}
use Rattle.octets_script.specs.Calls.{answer_of}
use Rattle.octets_script.specs.declared.reply.Reply.{Reply}
use Rattle.octets_tool.proofs.HexWords.{flat_more}
use Rattle.octets_tool.specs.Replies.{ended_line}
use Rattle.octets.specs.Requests.{may_refuse}
use Rattle.octets_tool.proofs.commands.script_command.lines_of.Goals as goal

more_lines : (rs : List Reply) (i : ℕ) (r : Reply) (text line : List ℕ) → i < length rs → r ≡ get_or rs i r
    → text ≡ flat_map ended_line (map answer_of (take i rs)) → line ≡ ended_line (answer_of r)
    → text ++ line ≡ flat_map ended_line (map answer_of (take (i + 1) rs))
more_lines rs i r text line below is e last =
    let front : take (i + 1) rs ≡ take i rs ++ r ∷ [] = grind (arith, take-suc) in
    let step = ap (λ l. flat_map ended_line (map answer_of l)) front
    ∙ ap (flat_map ended_line) (map_push answer_of (take i rs) r)
    ∙ flat_more ended_line (map answer_of (take i rs)) (answer_of r) in
    rw (e, last) (sym step)

pub loop-reply-preserved : goal.loop-reply-preserved
loop-reply-preserved c =
    c.in_ok-push_str.ensures.bytes
    ∙ more_lines c.args.replies.now c.loop-reply.reply-index c.reply-item.result _ _ c.loop-reply-test.true
    c.reply-item.is c.loop-reply.invariant (c.as_str.ensures.value ∙ c.in_ok-line.ensures.ok)

pub returns : goal.returns
returns c =
    c.loop-reply.invariant
    ∙ ap (λ (l : List Reply). flat_map ended_line (map answer_of l)) (take_all _ _ c.loop-reply-test.false)

-- the line is formatted in memory for which this function asks
pub returns-in_err-line : goal.returns-in_err-line
returns-in_err-line c =
    let p = err_from_is_err_and c.from_residual.result c.from_residual.ensures.1 in rw p.1 (0, may_refuse 0)

pub returns-in_err-push_str : goal.returns-in_err-push_str
returns-in_err-push_str c = search (rules, may_refuse)
