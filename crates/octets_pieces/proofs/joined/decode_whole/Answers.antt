use Rattle.std.proofs.Common.{◌≡◌, ℕ, List, drop, length, length-append, ap, arith, ◌∙◌}
use Rattle.octets.specs.Octets.{Octets}
use Rattle.octets.specs.Cursor.{bytes, position, rest}
use Rattle.octets_pieces.proofs.Joins.{whole_failure}
use Rattle.octets_pieces.proofs.joined.decode_whole.Goals as goal

-- what remains of a cursor at the start of its bytes
whole_view : (c : Octets) (d : List ℕ) → bytes c ≡ d → position c ≡ 0 → rest c ≡ d
whole_view c d e f = ap (λ n. drop n (bytes c)) f ∙ e

pub returns-in-Err-clause-failed : goal.returns-in-Err-clause-failed
returns-in-Err-clause-failed c =
    let start = c.with_slice-cursor.ensures.start in
    let view = whole_view c.with_slice-cursor.result c.args.text.now c.with_slice-cursor.ensures.bytes start in
    let f = c.in-Err.ensures.fault in
    let r = c.in-Err.ensures.refused in
    let len = ap length f.3 in (
      f.0,
      whole_failure _ c.args.text.now _ _ _ f.0 (length c.args.out.now) view r.1
          (omega (arith, c.off.ensures.position, r.2.0, start))
          f.1 f.2 (omega
          (arith, len, length-append f.0 (drop (length f.0) c.args.out.now), c.get_huffman_decoded_into.auto.out)),
      omega arith,
      f.3,
    )
