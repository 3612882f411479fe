-- What is put into a view, of the bytes that it shows.
use Rattle.std.proofs.Common.{◌≡◌, ℕ, ◌≤◌, List, length, take, drop, refl, ap, ◌∙◌, arith}
use Rattle.std.specs.Prelude.{◌↔◌, IsOk, IfOk}
use Rattle.std.specs.declared.result.Result.TheVariants.{Ok, Err}
use Rattle.octets.specs.Bytes.{splice}
use Rattle.octets.specs.Cursor.{IsViewOf}
use Rattle.octets.specs.Loans.{SliceCursor}
use Rattle.octets.proofs.loans.LentValues.{LentView}

-- a view of enough bytes has as many to write to
pub has_room : (t : LentView) (shown : List ℕ) (n : ℕ) (P : Type 0) → (IsOk t ↔ P) → (P → n ≤ length shown)
    → IfOk t (λ v. IsViewOf shown v) → IfOk t (λ v. n ≤ length (drop v.off v.buf.now))
has_room (Ok v) shown n P fits enough is =
    let e : length (drop v.off v.buf.now) ≡ length shown = ap (λ o. length (drop o v.buf.now)) is.1 ∙ ap length is.0 in
    let m = enough (fits.0 refl) in omega arith
has_room (Err e) shown n P fits enough is = tt

-- what is put at the start of a view
pub put_at_start : (v : SliceCursor) (shown w : List ℕ) → IsViewOf shown v → splice v.buf.now v.off w ≡ splice shown 0 w
put_at_start v shown w is = ap (λ o. splice v.buf.now o w) is.1 ∙ ap (λ b. splice b 0 w) is.0

-- what is put at the start of the first n bytes of a view
pub put_within_start : (v : SliceCursor) (shown w : List ℕ) (n : ℕ) → IsViewOf shown v
    → splice v.buf.now v.off (splice (take n (drop v.off v.buf.now)) 0 w) ≡ splice shown 0 (splice (take n shown) 0 w)
put_within_start v shown w n is = ap (λ o. splice v.buf.now o (splice (take n (drop o v.buf.now)) 0 w)) is.1
    ∙ ap (λ b. splice b 0 (splice (take n b) 0 w)) is.0
