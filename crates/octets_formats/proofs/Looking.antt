-- A view of all that remains.
use Rattle.std.proofs.Common.{◌≡◌, ℕ, take, drop, length, ap, sym, ◌∙◌, arith}
use Rattle.std.proofs.lemmas.List.{take_all}
use Rattle.octets.specs.Cursor.{bytes, position, rest, IsViewOf, Passes}
use Rattle.octets.specs.Octets.{Octets}

-- a view of as many bytes as remain shows what remains
pub whole_view : (a v : Octets) (n : ℕ) → n ≡ length (rest a) → IsViewOf (take n (rest a)) v → rest v ≡ rest a
whole_view a v n e h = ap (λ k. drop k (bytes v)) h.1 ∙ (h.0 ∙ take_all n (rest a) (omega (arith, e)))

-- a cursor that passes what was read from such a view is then where the view is
pub same_place : (a v w b : Octets) (m n k : ℕ) → m ≡ length (rest a) → IsViewOf (take m (rest a)) v → Passes v w n
    → k ≡ position w → Passes a b k → (k ≡ n) × (rest b ≡ rest w)
same_place a v w b m n k e view read off past =
    let count : k ≡ n = omega (arith, off, read.0, view.1) in (
      count,
      past.2 ∙ (ap (λ i. drop i (rest a)) count ∙ (ap (drop n) (sym (whole_view a v m e view)) ∙ sym read.2)),
    )
