use Rattle.std.proofs.Common.{◌≡◌, ◌<◌, [], ◌∷◌, ◌/◌, arith}
use Rattle.octets.specs.Bytes.{number}
use Rattle.std.proofs.lemmas.List.Elements.{All-cons}
use Rattle.octets.proofs.lemmas.Varints.{parsed-width, marked-varint, one-shifted, width_cases}
use Rattle.octets.proofs.varint.varint_parse_len.Goals as goal

pub returns-clause-width : goal.returns-clause-width
returns-clause-width c =
    λ b w n v.
    let first : number (c.args.first ∷ []) ≡ c.args.first = omega arith in
    let e = one-shifted (c.args.first / 64) (omega arith) in
    cc (parsed-width _ w n v)

pub returns-clause-any : goal.returns-clause-any
returns-clause-any c =
    λ b h k.
    let f = c.args.first in let e = one-shifted (f / 64) (omega arith) in
    rw e (
      _,
      marked-varint (f ∷ b) (f / 64) (omega arith) (All-cons (λ x. x < 256) f b (omega arith) h) (omega arith)
          (omega arith),
    )

pub returns-clause-is_width : goal.returns-clause-is_width
returns-clause-is_width c = grind (arith, one-shifted, width_cases)
