use Rattle.std.proofs.Common.{arith}
use Rattle.octets_code.specs.Texts.{text}
use Rattle.octets_code.proofs.Faults.{lengths_are_bounded}
use Rattle.octets_code.proofs.TextOf.{text_is_text}
use Rattle.octets.specs.Encodes.{cased}
use Rattle.octets.proofs.lemmas.CasedCodes.{cased_bytes, length-cased}
use Rattle.octets_c.proofs.laws.text_most.Goals as goal

pub returns : goal.returns
returns c = λ l v b. let w = cased l v in
    omega (arith, (lengths_are_bounded w (text w) (cased_bytes l v b) (text_is_text w)).1, length-cased l v)
