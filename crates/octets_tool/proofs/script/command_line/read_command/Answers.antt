-- The line is cut at its spaces, word by word.
use Rattle.std.proofs.Common.{[], ◌∷◌, codes, None, sym, refl, lit≤, ◌∙◌}
use Rattle.std.specs.Str.{bytes_eq}
use Rattle.std.specs.Option.{option_map}
use Rattle.octets_script.specs.Calls.{call_of}
use Rattle.octets_tool.specs.Cuts.{parts_of}
use Rattle.octets_tool.specs.Names.{number_word, bytes_word}
use Rattle.octets_tool.proofs.Cutting.{parts_of-some, parts_of-none}
use Rattle.octets_tool.proofs.LineWords.{by_words, by_line, by_kinds, first_text, words_alone, words_wanted, words_many}
use Rattle.octets_tool.proofs.script.command_line.read_command.Goals as goal

pub returns-in_default : goal.returns-in_default
returns-in_default c =
    λ d. (
      (λ e. cc),
      (λ is. absurd (c.in_default.ensures.cases.0
          (first_text c.args.line.now c.cut.result.0.now (parts_of 32 c.cut.result.1) d c.cut.ensures.parts is))),
    )

pub returns-in_default-rest : goal.returns-in_default-rest
returns-in_default-rest c =
    by_words c.args.line.now (c.in-Ok.name.now ∷ [])
    (simp (c.cut.ensures.parts, c.in_default-rest.is, ← c.in-Ok.ensures.cases.0)) _
    (words_alone c.in-Ok.name.now (option_map call_of c.plain.result) c.plain.ensures)

pub returns-in_default-rest-2 : goal.returns-in_default-rest-2
returns-in_default-rest-2 c =
    by_line c.with_one_word.result c.args.line.now (c.in-Ok.name.now ∷ c.cut-2.result.0.now ∷ []) (simp (
      c.cut.ensures.parts,
      c.in-Some.is,
      c.cut-2.ensures.parts,
      c.in_default-rest-2.is,
      ← c.in-Ok.ensures.cases.0,
    )) c.with_one_word.ensures

pub returns-in_default-rest-3 : goal.returns-in_default-rest-3
returns-in_default-rest-3 c =
    let ws = c.cut-2.result.0.now ∷ c.cut-3.result.0.now ∷ [] in
    by_line c.with_two_words.result c.args.line.now (c.in-Ok.name.now ∷ ws) (simp (
      c.cut.ensures.parts,
      c.in-Some.is,
      c.cut-2.ensures.parts,
      c.in-Some-rest.is,
      c.cut-3.ensures.parts,
      c.in_default-rest-3.is,
      ← c.in-Ok.ensures.cases.0,
    )) (by_kinds c.with_two_words.result (number_word ∷ bytes_word ∷ []) (c.in-Ok.name.now ∷ ws)
    (words_wanted c.in-Ok.name.now (bytes_eq c.in-Ok.name.now (codes "split_at")) ws refl (lit≤ tt))
    c.with_two_words.ensures)

pub returns-then-is_some : goal.returns-then-is_some
returns-then-is_some c =
    let more = parts_of-some 32 c.cut-4.result.1 (sym c.is_some.ensures ∙ c.if-is_some.true) in
    by_words c.args.line.now (c.cut.result.0.now ∷ c.cut-2.result.0.now ∷ c.cut-3.result.0.now ∷ c.cut-4.result.0.now
    ∷ more.0 ∷ more.1) (simp (
      c.cut.ensures.parts,
      c.in-Some.is,
      c.cut-2.ensures.parts,
      c.in-Some-rest.is,
      c.cut-3.ensures.parts,
      c.in-Some-rest-2.is,
      c.cut-4.ensures.parts,
      more.2,
    )) None (λ d. ((λ e. cc), (λ is. absurd (words_many d c.cut.result.0.now _ _ _ _ more.1 is))))

pub returns : goal.returns
returns c =
    let none = parts_of-none 32 c.cut-4.result.1 (sym c.is_some.ensures ∙ c.if-is_some.false) in
    by_line c.with_three_words.result c.args.line.now
    (c.in-Ok.name.now ∷ c.cut-2.result.0.now ∷ c.cut-3.result.0.now ∷ c.cut-4.result.0.now ∷ []) (simp (
      c.cut.ensures.parts,
      c.in-Some.is,
      c.cut-2.ensures.parts,
      c.in-Some-rest.is,
      c.cut-3.ensures.parts,
      c.in-Some-rest-2.is,
      c.cut-4.ensures.parts,
      none,
      ← c.in-Ok.ensures.cases.0,
    )) c.with_three_words.ensures
