-- Laws of faults, of values, of the number of bytes that were passed, and of steps.
use Rattle.std.proofs.Common.{◌≡◌, ◌≢◌, ◌⊎◌, inl, inr, ℕ, suc, ◌+◌, ◌*◌, ◌/◌, ◌<◌, ◌≤◌, Some, Bool, true}
use Rattle.std.proofs.Common.{List, [], ◌∷◌, ◌++◌, length, take, drop, get_or, min, ◌==◌, refl, sym, ◌∙◌, ap, arith}
use Rattle.std.proofs.Common.{length-append, append_assoc}
use Rattle.std.specs.Prelude.{slice_get}
use Rattle.std.specs.List.{All, position_or_len}
use Rattle.std.proofs.lemmas.Grind.{common_steps}
use Rattle.std.proofs.lemmas.Bool.{cases_lt, cases_Bool, eqb-true, eqb-false}
use Rattle.std.proofs.lemmas.Bool.Decides.{not_from_Decides}
use Rattle.std.proofs.lemmas.List.{length-replicate, length-take-le, get_or-take, get_or_at, get_or_append_left}
use Rattle.std.proofs.lemmas.Option.{slice_get_within, slice_get-get_or, get_or_from_slice_get, slice_get_read}
use Rattle.std.proofs.lemmas.List.Sums.{passes_at_first, fails_before_first}
use Rattle.std.proofs.Math.Seq.{split_at, take-suc, take-append_seam}
use Rattle.std.proofs.lemmas.List.Elements.{All-cons, All-append, All-take}
use Rattle.octets_code.specs.Steps.{IsFill}
use Rattle.octets_code.specs.Texts.{bits, codes, ones, AreBytes, AreSymbols, HasNoCode}
use Rattle.octets_code.specs.Answers.{IsFault, HasNoFault, IsFaultRead, IsAnswer, IsPassed, IsRefusal}
use Rattle.octets_code.specs.Answers.{AreSteps}
use Rattle.octets_code.specs.Laws.{TextIsAnswered, TextHasNoFault, FaultOrNone, FaultIsOne, FaultEndsWithin}
use Rattle.octets_code.specs.Laws.{FaultIsRead, EachIsDecided, AnswersAreOne, WorkIsBounded, LengthsAreBounded}
use Rattle.octets_code.proofs.ByteBits.{length-bits, filled_length}
use Rattle.octets_code.proofs.CodesLemmas.{codes-around, codes-push, length-code, length-codes}
use Rattle.octets_code.proofs.Paths.{fill_test, fill_decides}
use Rattle.octets_code.proofs.TextLemmas.{are_symbols, are_bytes, each_has_one_cut, one_cut, few_ones}
use Rattle.octets_code.proofs.TextLemmas.{texts_apart}

-- a fault is met by a reader
pub read_from_fault : (x : List Bool) (m e : ℕ) → IsFault x m e → IsFaultRead x m e
read_from_fault x m e f =
    let s = f.symbols in
    let p = f.place in
    let c = f.symbol in
    let inside : p < length s = slice_get_within s p c f.there in
    let at : get_or s p c ≡ c = get_or_from_slice_get s p c c f.there in
    let whole : s ≡ take p s ++ c ∷ drop (suc p) s = rw at at (split_at s p c inside) in
    let front : take (suc p) s ≡ take p s ++ c ∷ [] = rw at at (take-suc s p c inside) in
    let len : length (take p s) ≡ p = length-take-le p s (omega arith) in
    let kept = λ (k d : ℕ) (l : k < p). f.least k (get_or s k d) l (slice_get-get_or s k d (omega arith)) in
    let other : All (λ z. z ≢ 256) (take p s) = λ k d l z.
    let here : k < p = omega (arith, len) in
    kept k d here (inr (sym (get_or-take p s k d here) ∙ z)) in (
      take p s,
      record {
        symbol = c;
        rest = codes (drop (suc p) s) ++ f.rest;
        bytes = are_bytes (take p s) (All-take (λ z. z ≤ 256) p s f.cut.0) other;
        is_symbol = grind (arith, common_steps);
        within = elim (cases_lt m p) [
          | inl over ↦ absurd (kept m 0 over (inl refl))
          | inr under ↦ omega arith
        ];
        refused = rw len f.refused;
        parts = grind (arith, common_steps, append_assoc, codes-around);
        ends = grind (arith, common_steps, codes-push, length-append);
      },
    )

-- what a reader meets is a fault
pub fault_from_read : (x : List Bool) (m e : ℕ) → IsFaultRead x m e → IsFault x m e
fault_from_read x m e (v, f) =
    let c = each_has_one_cut f.rest in
    let s : List ℕ = v ++ f.symbol ∷ c.0 in
    let are : AreSymbols s = All-append (λ z. z ≤ 256) v (f.symbol ∷ c.0) (are_symbols v f.bytes)
    (All-cons (λ z. z ≤ 256) f.symbol c.0 f.is_symbol c.2.0) in
    let inside : length v < length s = simp length-append (omega arith) in
    let at : get_or s (length v) f.symbol ≡ f.symbol = get_or_at v f.symbol c.0 f.symbol (length v) refl in
    let front : take (suc (length v)) s ≡ v ++ f.symbol ∷ [] =
    rw (take-suc s (length v) f.symbol inside, at, take-append_seam v (f.symbol ∷ c.0)) in
    let parts : x ≡ codes s ++ c.1 = grind (arith, common_steps, append_assoc, codes-around) in record {
      symbols = s;
      rest = c.1;
      cut = (are, (parts, c.2.1.1));
      place = length v;
      symbol = f.symbol;
      there = slice_get_read s (length s) (length v) f.symbol refl inside (sym at);
      refused = f.refused;
      least = λ j d l h r.
          let is : get_or s j 0 ≡ d = get_or_from_slice_get s j d 0 h in
          let same : get_or s j 0 ≡ get_or v j 0 = get_or_append_left v (f.symbol ∷ c.0) 0 j l in
          grind (arith, f.within, f.bytes j 0 l);
      ends = rw (front, codes-push v f.symbol, length-append) f.ends;
    }

-- the fault is the one that a reader meets
pub fault_is_read : FaultIsRead
fault_is_read x m e = (read_from_fault x m e, fault_from_read x m e)

-- if all bits are cut into bytes within the limit, there is no fault
pub no_fault : (x : List Bool) (m e : ℕ) (v : List ℕ) (p : List Bool) → IsFault x m e → AreBytes v → length v ≤ m
    → x ≡ codes v ++ p → HasNoCode p → ⊥
no_fault x m e v p f h within parts n =
    let same : f.symbols ≡ v = grind (arith, common_steps, one_cut, are_symbols) in
    let there : slice_get v f.place ≡ Some f.symbol = rw (← same, f.there) in
    let inside : f.place < length v = slice_get_within v f.place f.symbol there in
    let byte = rw (get_or_from_slice_get v f.place f.symbol 0 there) at (h f.place 0 inside) in
    elim f.refused [
      | inl full ↦ omega arith
      | inr end ↦ omega arith
    ]

-- where all was cut into bytes within the limit there is no fault
pub clear_at_end : (x : List Bool) (m : ℕ) (v : List ℕ) (r : List Bool) → AreBytes v → length v ≤ m → x ≡ codes v ++ r
    → HasNoCode r → HasNoFault x m
clear_at_end x m v r hv within parts none e f = no_fault x m e v r f hv within parts none

-- a text has no fault under a limit that holds its value
pub text_has_no_fault : TextHasNoFault
text_has_no_fault v t m hv h within e f = no_fault (bits t) m e v (ones h.1.0) f hv within h.1.2 (few_ones h.1.0 h.1.1)

-- a decoder returns the value of a text, under every limit that the value is within
pub text_is_answered : TextIsAnswered
text_is_answered v t m hv h within = ((hv, within, h), λ w a. texts_apart w v t a.0 hv a.2 h)

-- bits have one fault at most
pub fault_is_one : FaultIsOne
fault_is_one x m e e' f g =
    let same : f.symbols ≡ g.symbols = grind (arith, common_steps, one_cut) in
    let place : f.place ≡ g.place = grind (arith, common_steps, cases_lt) in rw (f.ends, place, same, ← g.ends)

-- a fault ends within the bits, after five of them at least
pub fault_ends_within : FaultEndsWithin
fault_ends_within x m e g =
    let f = (read_from_fault x m e g).1 in
    let one = length-code f.symbol f.is_symbol in
    grind (arith, length-append, f.parts, f.ends)

-- the fault of bits, or the bytes within the limit that they are cut into
pub fault_or_bytes : (x : List Bool) (m : ℕ)
    → ((e : ℕ) × IsFault x m e)
    ⊎ ((v : List ℕ) × (r : List Bool) × AreBytes v × (length v ≤ m) × (x ≡ codes v ++ r) × HasNoCode r)
fault_or_bytes x m =
    let c = each_has_one_cut x in
    let s : List ℕ = c.0 in
    let is_end : ℕ → Bool = λ z. z == 256 in
    let end = position_or_len is_end s in
    let p = min m end in
    elim (cases_lt p (length s)) [
      | inl inside ↦ inl (
        length (codes (take (suc p) s)),
        record {
          symbols = s;
          rest = c.1;
          cut = c.2;
          place = p;
          symbol = get_or s p 0;
          there = slice_get-get_or s p 0 inside;
          refused = elim (cases_lt end m) [
            | inl below ↦
                let same : min m end ≡ end = omega arith in
                inr (rw same (eqb-true _ 256 (passes_at_first is_end s 0 (omega arith))))
            | inr above ↦ inl (omega arith)
          ];
          least = λ j d l h r.
              let is : get_or s j 0 ≡ d = get_or_from_slice_get s j d 0 h in
              let other : get_or s j 0 ≢ 256 = eqb-false _ 256 (fails_before_first is_end s j 0 (omega arith)) in
              elim r [
                | inl full ↦ omega arith
                | inr e ↦ other (is ∙ e)
              ];
          ends = refl;
        },
      )
      | inr all ↦
          let other : All (λ z. z ≢ 256) s =
          λ k d l. eqb-false _ 256 (fails_before_first is_end s k d (omega arith)) in
          inr (s, c.1, are_bytes s c.2.0 other, omega arith, c.2.1.0, c.2.1.1)
    ]

-- there is a fault, or none
pub fault_or_none : FaultOrNone
fault_or_none x m = elim (fault_or_bytes x m) [
  | inl fault ↦ inl fault
  | inr w ↦ inr (clear_at_end x m w.0 w.1 w.2 w.3 w.4 w.5)
]

-- bits that are cut into bytes within the limit and 0 to 7 one bits have these bytes as their value
pub answered : (t : List ℕ) (m : ℕ) (v : List ℕ) (r : List Bool) → AreBytes t → AreBytes v → length v ≤ m
    → bits t ≡ codes v ++ r → IsFill r → IsAnswer t m v
answered t m v r ht hv within parts fill = (hv, within, (ht, (length r, fill.0, parts ∙ ap (λ z. codes v ++ z) fill.1)))

-- a decode of bytes with a fault fails, and has passed the byte in which the fault ends
pub refused_in_fault : (t : List ℕ) (m e : ℕ) → IsFault (bits t) m e → IsRefusal t m ((e + 7) / 8)
refused_in_fault t m e f = ((λ v a. text_has_no_fault v t m a.0 a.2 a.1 e f), inl (e, f, refl))

-- if the bits that remain are no padding, the decode fails at the end
pub refused_at_end : (t : List ℕ) (m : ℕ) (v : List ℕ) (r : List Bool) → AreBytes v → length v ≤ m
    → bits t ≡ codes v ++ r → HasNoCode r → ¬ IsFill r → IsRefusal t m (length t)
refused_at_end t m v r hv within parts none other = (
  (λ w a.
      let n : ℕ = a.2.1.0 in
      let few : n < 8 = a.2.1.1 in
      let left : r ≡ ones n = grind (arith, common_steps, one_cut, are_symbols, few_ones) in
      let same : length r ≡ n = ap length left ∙ length-replicate n true in
      other (omega (arith, same), left ∙ ap (λ k. ones k) (sym same))),
  inr (clear_at_end (bits t) m v r hv within parts none, refl),
)

-- under each limit, bytes have a value, or a decode of them fails after some number of bytes
pub each_is_decided : EachIsDecided
each_is_decided t m ht = elim (fault_or_bytes (bits t) m) [
  | inl fault ↦ inr ((fault.0 + 7) / 8, refused_in_fault t m fault.0 fault.1)
  | inr w ↦
      let fill = fill_decides w.1 in
      elim (cases_Bool (fill_test w.1)) [
        | inl is ↦ inl (w.0, answered t m w.0 w.1 ht w.2 w.3 w.4 (fill.0 is))
        | inr other ↦ inr (length t, refused_at_end t m w.0 w.1 w.2 w.3 w.4 w.5 (not_from_Decides _ fill other))
      ]
]

answer_is_one : (t : List ℕ) (m : ℕ) (v w : List ℕ) → IsAnswer t m v → IsAnswer t m w → v ≡ w
answer_is_one t m v w a b = texts_apart v w t a.0 b.0 a.2 b.2

-- a number that is computed from the fault, or from its absence, is unique
told_once : (x : List Bool) (m a : ℕ) (f : ℕ → ℕ) (n k : ℕ)
    → (((e : ℕ) × IsFault x m e × (n ≡ f e)) ⊎ (HasNoFault x m × (n ≡ a)))
    → (((e : ℕ) × IsFault x m e × (k ≡ f e)) ⊎ (HasNoFault x m × (k ≡ a))) → n ≡ k
told_once x m a f n k (inl p) (inl q) = p.2 ∙ ap f (fault_is_one x m p.0 q.0 p.1 q.1) ∙ sym q.2
told_once x m a f n k (inl p) (inr q) = absurd (q.0 p.0 p.1)
told_once x m a f n k (inr p) (inl q) = absurd (p.0 q.0 q.1)
told_once x m a f n k (inr p) (inr q) = p.1 ∙ sym q.1

-- the value, the number of bytes that a failure has passed, and the number of steps are each determined
pub answers_are_one : AnswersAreOne
answers_are_one t m = (
  answer_is_one t m,
  (λ n k p q. told_once (bits t) m (length t) (λ e. (e + 7) / 8) n k p q),
  (λ n k p q. told_once (bits t) m (2 * length t) (λ e. (e + 3) / 4) n k p q),
)

-- a decode that fails has passed at most all bytes
pub passed_within : (t : List ℕ) (m n : ℕ) → IsPassed t m n → n ≤ length t
passed_within t m n (inl p) = omega (arith, p.2, (fault_ends_within (bits t) m p.0 p.1).1, length-bits t)
passed_within t m n (inr p) = omega (arith, p.1)

-- a decode takes at most two steps for each byte
pub steps_within : (t : List ℕ) (m n : ℕ) → AreSteps t m n → n ≤ 2 * length t
steps_within t m n (inl p) = omega (arith, p.2, (fault_ends_within (bits t) m p.0 p.1).1, length-bits t)
steps_within t m n (inr p) = omega (arith, p.1)

-- a decode that fails has passed at most all bytes, and a decode takes at most two steps for each byte
pub work_is_bounded : WorkIsBounded
work_is_bounded t m n = (passed_within t m n, steps_within t m n)

-- a value has at most 1.6 times as many bytes as its text, and a text at most four for each of its value
pub lengths_are_bounded : LengthsAreBounded
lengths_are_bounded v t hv h = grind (arith, filled_length, length-codes, are_symbols)
