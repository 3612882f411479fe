-- Ok where the word is the decimal of a number, at each end by why
-- it is none: it is empty, no text, too large, or spelled otherwise.
use Rattle.octets_tool.proofs.Decimals.{no_text, IsUtf8-decimal}
use Rattle.octets_tool.proofs.decimal.number_of.Goals as goal
use Rattle.octets_tool.proofs.decimal.number_of.Goals.{in_default-via-in-48+else-word-gt1, in_default-via-in_default-1}

pub returns-in_err-ok-in_default : goal.returns-in_err-ok-in_default
returns-in_err-ok-in_default c =
    let word = c.args.word.now in
    λ n. (
      (λ e. let there = c.from_residual-in_err-ok-in_default.ensures in cc),
      (λ is. absurd (no_text c.from_utf8.result word _ c.from_utf8.ensures.cases c.in_err-ok-in_default.ensures.value
          (IsUtf8-decimal n word is.0 is.1))),
    )
