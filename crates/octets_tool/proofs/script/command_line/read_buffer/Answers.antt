-- After `buffer ` comes a hexadecimal word of a buffer that isn't too long. The proof goes in both directions.
use Rattle.std.proofs.Common.{◌≡◌, ◌≤◌, ◌++◌, codes, length, Some, sym, ap, ◌∙◌, arith}
use Rattle.std.proofs.lemmas.Bool.Decides.{Decides-eqb}
use Rattle.std.proofs.lemmas.List.{append_cancel_left}
use Rattle.std.proofs.lemmas.Slice.Eq.{strip_prefix_is}
use Rattle.std.specs.Option.{option_map}
use Rattle.std.specs.Prelude.{vec_items}
use Rattle.octets_tool.specs.Limits.{most_buffer}
use Rattle.octets_tool.specs.Lines.{hex}
use Rattle.octets_tool.proofs.script.command_line.read_buffer.Goals as goal

pub returns : goal.returns
returns c =
    let line = c.args.line.now in
    let word = c.in-Some.word.now in
    let v = c.in-Some-2.bytes.items in
    let begins : line ≡ codes "buffer " ++ word = strip_prefix_is Decides-eqb line c.as_slice.result.now
    (Some c.in-Some.word) c.in-Some.ensures.cases ∙ ap (λ p. p ++ word) c.as_slice.ensures in
    let read = (c.in_ok-bytes.ensures v).0 (rw c.in-Some-2.is) in
    let few : length v ≤ most_buffer =
    omega (arith, ap length c.as_slice-2.ensures.value, c.if-as_slice-gt-MOST_BUFFER.false) in
    λ b. (
      (λ e. let same : v ≡ b = cc in rw (← same) (read.0, few, begins ∙ ap (λ w. codes "buffer " ++ w) read.1)),
      (λ is. sym (ap (option_map vec_items) c.in-Some-2.is)
          ∙ (c.in_ok-bytes.ensures b).1 (is.0, append_cancel_left (codes "buffer ") word (hex b) (sym begins ∙ is.2))),
    )
