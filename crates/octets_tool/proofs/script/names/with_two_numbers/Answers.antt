use Rattle.std.proofs.Common.{◌≤◌, ◌∷◌, [], None, sym, refl, ◌∙◌, arith}
use Rattle.octets_tool.specs.Limits.{most_count}
use Rattle.octets_tool.specs.Names.{decimal_word, hex_word}
use Rattle.octets_tool.proofs.NamedRows.{none_found}
use Rattle.octets_tool.proofs.Rows.{counted, wide_made, wide_refused}
use Rattle.octets_tool.proofs.script.names.with_two_numbers.Goals as goal

pub returns-in_err-count-in-put_varint_with_len : goal.returns-in_err-count-in-put_varint_with_len
returns-in_err-count-in-put_varint_with_len c =
    let w = c.args.width in
    rw c.from_residual.ensures
    (wide_refused c.args.name.now c.args.bytes.items c.args.value w c.in-put_varint_with_len.is (λ is.
    let few : w ≤ most_count = omega (arith, is.0) in
    cc ((counted w w None c.in_err-count-in-put_varint_with_len.ensures).1 (few, refl))))

pub returns-in_err-wide-in-put_varint_with_len : goal.returns-in_err-wide-in-put_varint_with_len
returns-in_err-wide-in-put_varint_with_len c =
    let w = c.args.width in
    let k = (counted w _ _ c.in_ok-count-in-put_varint_with_len.ensures).0 refl in
    rw c.from_residual-in_err-wide-in-put_varint_with_len.ensures
    (wide_refused c.args.name.now c.args.bytes.items c.args.value w c.in-put_varint_with_len.is (λ is.
    cc (c.in_err-wide-in-put_varint_with_len.ensures.held.1 (rw k.1 at is))))

pub returns-in_ok-wide-in-put_varint_with_len : goal.returns-in_ok-wide-in-put_varint_with_len
returns-in_ok-wide-in-put_varint_with_len c =
    let w = c.args.width in
    let k = (counted w _ _ c.in_ok-count-in-put_varint_with_len.ensures).0 refl in
    let h = c.in_ok-wide-in-put_varint_with_len.ensures in
    let fits = rw (← k.1) at (h.held.0 refl) in
    wide_made c.args.name.now c.args.bytes.items c.args.value w c.in-put_varint_with_len.is
    c.in_ok-wide-in-put_varint_with_len.wide fits.0 fits.1 h.value.0 (h.value.1 ∙ sym k.1)

pub returns-in_default : goal.returns-in_default
returns-in_default c =
    let a = c.args in
    none_found a.name.now (decimal_word a.value ∷ decimal_word a.width ∷ hex_word a.bytes.items ∷ []) search
