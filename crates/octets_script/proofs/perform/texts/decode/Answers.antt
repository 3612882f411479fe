-- The view that was decoded shows what remains, and the cursor passed as much as the view did.
use Rattle.std.proofs.Common.{◌∙◌, rules}
use Rattle.octets.specs.Does.{Does}
use Rattle.octets_script.specs.Calls.{Decode}
use Rattle.octets_script.proofs.TextEndings.{decoded, on_short}
use Rattle.octets_script.proofs.perform.texts.decode.Goals as goal

pub returns-in-Ok-clause-answers : goal.returns-in-Ok-clause-answers
returns-in-Ok-clause-answers c =
    let view = c.get_huffman_decoded_with_max_length-answer in
    decoded c.args.cursor.now c.skip.new.self c.with_slice-remaining.result view.new.self c.off-passed.result
    c.skip.result (c.with_slice-remaining.ensures.bytes ∙ c.as_ref.ensures) c.with_slice-remaining.ensures.start
    view.ensures.ends.same_bytes c.off-passed.ensures.position c.skip.ensures.fits
    c.skip.ensures.passes c.args.max_len _
    c.in-Ok.ensures.performs

pub returns-in-Err-Short-clause-answers : goal.returns-in-Err-Short-clause-answers
returns-in-Err-Short-clause-answers c =
    let view = c.get_huffman_decoded_with_max_length-answer in
    decoded c.args.cursor.now c.skip.new.self c.with_slice-remaining.result view.new.self c.off-passed.result
    c.skip.result (c.with_slice-remaining.ensures.bytes ∙ c.as_ref.ensures) c.with_slice-remaining.ensures.start
    view.ensures.ends.same_bytes c.off-passed.ensures.position c.skip.ensures.fits
    c.skip.ensures.passes c.args.max_len _
    (on_short (λ a. Does (Decode c.args.max_len) c.with_slice-remaining.result a view.new.self) view.result
    c.in-Err-Short.field-0-0 (search rules) view.ensures.performs)
