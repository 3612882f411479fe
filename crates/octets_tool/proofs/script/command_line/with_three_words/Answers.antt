use Rattle.std.proofs.Common.{◌∷◌, [], true, false, sym, ◌∙◌, lit≤}
use Rattle.octets_tool.proofs.LineWords.{by_kinds, wanted, words_wanted}
use Rattle.octets_tool.proofs.script.command_line.with_three_words.Goals as goal

pub returns-then-eq : goal.returns-then-eq
returns-then-eq c =
    let ws = c.args.first.now ∷ c.args.second.now ∷ c.args.third.now ∷ [] in
    by_kinds c.with_parts.result (wanted true 3) (c.args.name.now ∷ ws)
    (words_wanted c.args.name.now true ws (sym c.eq.ensures ∙ c.if-eq.true) (lit≤ tt)) c.with_parts.ensures

pub returns-else-eq : goal.returns-else-eq
returns-else-eq c =
    let ws = c.args.first.now ∷ c.args.second.now ∷ c.args.third.now ∷ [] in
    by_kinds c.with_width.result (wanted false 3) (c.args.name.now ∷ ws)
    (words_wanted c.args.name.now false ws (sym c.eq.ensures ∙ c.if-eq.false) (lit≤ tt)) c.with_width.ensures
