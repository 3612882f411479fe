-- Laws of cuts and texts.
use Rattle.std.proofs.Common.{◌≡◌, ◌≢◌, ℕ, zero, suc, ◌+◌, ◌-◌, ◌<◌, ◌≤◌, ◌⊎◌, Bool, true, false, List, [], ◌∷◌}
use Rattle.std.proofs.Common.{◌++◌, length, replicate, get_or, refl, sym, ◌∙◌, ap, arith, length-append, append_assoc}
use Rattle.std.proofs.Common.{inl, inr, take, drop, take-append-drop, ◌||◌}
use Rattle.std.proofs.lemmas.Grind.{common_steps}
use Rattle.std.proofs.lemmas.List.{append_cancel_left, length-replicate}
use Rattle.std.proofs.lemmas.Bool.{cases_Bool, both_ways}
use Rattle.std.proofs.lemmas.Bool.Decides.{Decides-like, Decides-below_or}
use Rattle.std.proofs.Math.ListN.{replicate-append-replicate}
use Rattle.std.proofs.Math.Seq.{take-append_seam}
use Rattle.std.specs.Bool.{Decides}
use Rattle.std.specs.List.{All}
use Rattle.std.proofs.lemmas.List.Elements.{All-cons, All-head, All-tail, All-from_get_or}
use mathlib.Core.Bool.{beq}
use lib.Pointwise.{pointwise}
use Rattle.octets_code.specs.Bits.{bits_of}
use Rattle.octets_code.specs.Table.{groups}
use Rattle.octets_code.specs.Codes.{row_of, row_in, code}
use Rattle.octets_code.specs.Steps.{IsOpen}
use Rattle.octets_code.specs.Texts.{codes, ones, AreBytes, AreSymbols, IsText, HasNoCode, IsCut}
use Rattle.octets_code.specs.Laws.{TextsApart, EachHasOneCut, TextIsCut, OnlyEndIsOnes}
use Rattle.octets_code.proofs.CodesLemmas.{length-code}
use Rattle.octets_code.proofs.Paths.{same_path}
use Rattle.octets_code.proofs.Walks.{apart}
use Rattle.octets_code.proofs.ByteBits.{filled_length}
use Rattle.octets_code.proofs.BytesOf.{bits-injective}

-- of two prefixes of a list, one is a prefix of the other
pub two_fronts : (a b x y : List Bool) → a ++ x ≡ b ++ y
    → ((q : List Bool) × (b ≡ a ++ q)) ⊎ ((q : List Bool) × (a ≡ b ++ q))
two_fronts [] b x y e = inl (b, refl)
two_fronts (a ∷ r) [] x y e = inr (a ∷ r, refl)
two_fronts (a ∷ r) (b ∷ s) x y e =
    let h : a ≡ b = cc in
    let t : r ++ x ≡ s ++ y = cc in
    elim (two_fronts r s x y t) [
      | inl w ↦ inl (w.0, let f : s ≡ r ++ w.0 = w.1 in cc)
      | inr w ↦ inr (w.0, let f : r ≡ s ++ w.0 = w.1 in cc)
    ]

-- bits begin with one code at most
pub first_code : (c d : ℕ) (x y : List Bool) → c ≤ 256 → d ≤ 256 → code c ++ x ≡ code d ++ y → (c ≡ d) × (x ≡ y)
first_code c d x y hc hd e = grind (arith, two_fronts, apart, append_cancel_left)

-- bytes are symbols
pub are_symbols : (v : List ℕ) → AreBytes v → AreSymbols v
are_symbols v h k d l = let below : get_or v k d < 256 = h k d l in omega arith

-- symbols that are no end code are bytes
pub are_bytes : (s : List ℕ) → AreSymbols s → All (λ c. c ≢ 256) s → AreBytes s
are_bytes s h n k d l = grind (arith, common_steps)

-- a list whose element at each place is below 256 is bytes
pub each_byte : (l : List ℕ) → ((i : ℕ) → get_or l i 0 < 256) → AreBytes l
each_byte l h = All-from_get_or (λ b. b < 256) l 0 (λ i k. h i)

-- bits are cut in one way
pub one_cut : (s s' : List ℕ) (r r' : List Bool) → AreSymbols s → AreSymbols s' → HasNoCode r → HasNoCode r'
    → codes s ++ r ≡ codes s' ++ r' → (s ≡ s') × (r ≡ r')
unfolding codes
one_cut [] [] r r' hs hs' n n' e = (refl, e)
one_cut [] (c ∷ s') r r' hs hs' n n' e = grind (arith, All-head, append_assoc)
one_cut (c ∷ s) [] r r' hs hs' n n' e = grind (arith, All-head, append_assoc)
one_cut (c ∷ s) (d ∷ s') r r' hs hs' n n' e =
    let head = first_code c d (codes s ++ r) (codes s' ++ r') (All-head (λ z. z ≤ 256) c s hs)
    (All-head (λ z. z ≤ 256) d s' hs') (simp append_assoc at e) in
    let tail = one_cut s s' r r' (All-tail (λ z. z ≤ 256) c s hs) (All-tail (λ z. z ≤ 256) d s' hs') n n' head.1 in
    (rw (head.0, tail.0), tail.1)

-- x begins with a
begins_with : (x a : List Bool) → Decides (pointwise beq (take (length a) x) a) ((q : List Bool) × (x ≡ a ++ q))
begins_with x a = Decides-like _
    (λ e. (drop (length a) x, sym (take-append-drop (length a) x) ∙ ap (λ z. z ++ drop (length a) x) e))
    (λ w. rw (w.1, take-append_seam a w.0)) (same_path (take (length a) x) a)

-- x begins with the code of a symbol below n
unfoldable begins_below : List Bool → ℕ → Bool
begins_below x zero = false
begins_below x (suc n) = pointwise beq (take (length (code n)) x) (code n) || begins_below x n

first_or_none : (x : List Bool) → ((c : ℕ) × (c < 257) × ((q : List Bool) × (x ≡ code c ++ q))) ⊎ HasNoCode x
unfolding begins_below
first_or_none x =
    let d = Decides-below_or _ (λ c. (q : List Bool) × (x ≡ code c ++ q)) (begins_below x) (λ c. begins_with x (code c))
    refl (λ n. refl) 257 in
    elim (cases_Bool (begins_below x 257)) [
      | inl some ↦ inl (d.0 some)
      | inr none ↦ inr (λ c hc q e. both_ways (begins_below x 257) none (d.1 (c, omega arith, (q, e))))
    ]

cut_of : (k : ℕ) (x : List Bool) → length x ≤ k → (s : List ℕ) × (r : List Bool) × IsCut x s r
unfolding codes
cut_of zero x h = (
  [],
  x,
  (
    (λ k d l. absurd (omega arith)),
    (refl, λ c hc q e. omega (arith, length-code c hc, ap length e, length-append (code c) q)),
  ),
)
cut_of (suc k) x h = elim (first_or_none x) [
  | inr none ↦ ([], x, ((λ k d l. absurd (omega arith)), (refl, none)))
  | inl w ↦
      let hc : w.0 ≤ 256 = omega (arith, w.1) in
      let (q, e) = w.2 in
      let below : length q ≤ k = omega (arith, length-code w.0 hc, ap length e, length-append (code w.0) q) in
      let t = cut_of k q below in
      let parts : x ≡ codes (w.0 ∷ t.0) ++ t.1 = grind (arith, append_assoc) in
      (w.0 ∷ t.0, t.1, (All-cons (λ z. z ≤ 256) w.0 t.0 hc t.2.0, (parts, t.2.1.1)))
]

-- bits have just one cut
pub each_has_one_cut : EachHasOneCut
each_has_one_cut x =
    let c = cut_of (length x) x (omega arith) in
    (c.0, c.1, c.2, λ s' r' h. one_cut s' c.0 r' c.1 h.0 c.2.0 h.1.1 c.2.1.1 (sym h.1.0 ∙ c.2.1.0))

-- n ones and then m ones are n + m ones
pub more_ones : (n m : ℕ) → replicate n true ++ replicate m true ≡ replicate (n + m) true
more_ones n m = replicate-append-replicate n m true

-- the end code is thirty ones
pub end_code : code 256 ≡ replicate 30 true
unfolding code bits_of row_of row_in groups
end_code = refl

-- where a joined list is empty, so is its first part
pub nil_parts : (a b : List Bool) → a ++ b ≡ [] → a ≡ []
nil_parts [] b e = refl
nil_parts (x ∷ a) b e = cc

-- no code begins an open path
pub open_no_code : (p : List Bool) → IsOpen p → HasNoCode p
open_no_code p o c hc q e = grind (arith, append_assoc, apart, nil_parts)

-- no code begins 0 to 7 ones
pub few_ones : (n : ℕ) → n < 8 → HasNoCode (ones n)
few_ones n h =
    let sum : n + (30 - n) ≡ 30 = omega arith in
    open_no_code (ones n) (
      256,
      ones (30 - n),
      omega arith,
      (λ e. omega (arith, ap length e, length-replicate (30 - n) true)),
      rw (end_code, more_ones, sum),
    )

-- a code of one bits is a prefix of the end code
pub only_end_is_ones : OnlyEndIsOnes
only_end_is_ones s h =
    let n = length (code s) in
    let m : ℕ = 30 - n in (
      λ e.
          let sum : n + m ≡ 30 = omega (arith, length-code s h) in
          let long : code 256 ≡ code s ++ ones m = grind (arith, common_steps, end_code, more_ones) in
          (apart s 256 (ones m) h (omega arith) long).0,
      λ e. rw e (end_code ∙ ap (λ z. ones (length z)) (sym end_code)),
    )

-- a text is cut into its value and 0 to 7 ones
pub text_is_cut : TextIsCut
text_is_cut v t hv h = (h.1.0, h.1.1, (are_symbols v hv, (h.1.2, few_ones h.1.0 h.1.1)))

-- two values have two texts
pub texts_apart : TextsApart
texts_apart v w t hv hw a b = grind (arith, one_cut, text_is_cut, few_ones)

-- a value has one text at most
pub same_text : (v t u : List ℕ) → IsText v t → IsText v u → t ≡ u
same_text v t u a b =
    let long = filled_length (codes v) t a.1.0 a.1.2 in
    let same : a.1.0 ≡ b.1.0 = omega (arith, a.1.1, b.1.1, long, filled_length (codes v) u b.1.0 b.1.2) in
    bits-injective t u a.0 b.0 (rw (a.1.2, same, ← b.1.2))
