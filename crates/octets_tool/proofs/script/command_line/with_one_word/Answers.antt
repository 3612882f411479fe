use Rattle.std.proofs.Common.{◌∷◌, [], refl}
use Rattle.octets_script.specs.Calls.{call_of}
use Rattle.octets_tool.specs.Names.{bytes_word}
use Rattle.octets_tool.proofs.LineWords.{by_kinds, word_is_number, word_is_bytes}
use Rattle.octets_tool.proofs.script.command_line.with_one_word.Goals as goal

pub returns-in-Some : goal.returns-in-Some
returns-in-Some c =
    let read = c.in-Some.ensures in
    λ d. (let same = word_is_number c.args.name.now c.args.word.now d (call_of c.in-Some.command)
    ((read (call_of c.in-Some.command)).0 refl) in
    ((λ e. same.0 ((read d).0 e)), (λ is. (read d).1 (same.1 is))))

pub returns-in-None : goal.returns-in-None
returns-in-None c =
    by_kinds c.with_bytes_word.result (bytes_word ∷ []) (c.args.name.now ∷ c.args.word.now ∷ [])
    (λ d. word_is_bytes c.args.name.now c.args.word.now d (λ a. (let there = (c.in-None.ensures d).1 a in cc)))
    c.with_bytes_word.ensures
