-- The contract of a decode of a piece determines its result.
use Rattle.std.proofs.Common.{◌≡◌, ℕ, ◌+◌, ◌-◌, ◌<◌, ◌≤◌, Bool, List, [], ◌∷◌, ◌++◌, length, take, drop, get_or}
use Rattle.std.proofs.Common.{ap, arith, sym, ◌∙◌, inl, inr, append_assoc, length-append, length-take}
use Rattle.std.proofs.lemmas.Grind.{common_steps}
use Rattle.std.proofs.lemmas.List.{take-append-drop}
use Rattle.std.proofs.lemmas.List.Elements.{All-head, All-tail, All-append}
use Rattle.octets_code.specs.Bits.{bits_of}
use Rattle.octets_code.specs.Codes.{code}
use Rattle.octets_code.specs.Texts.{bits, codes, AreBytes, HasNoCode}
use Rattle.octets_code.proofs.ByteBits.{bits-append, bits-push}
use Rattle.octets_code.proofs.CodesLemmas.{codes-append}
use Rattle.octets_code.proofs.TextLemmas.{first_code, open_no_code}
use Rattle.octets_pieces.specs.Pieces.{AreRead, BeginsEnd, HasRead}
use Rattle.octets_pieces.specs.Laws.{Stops, DecodeIsOne, StopIsOne}
use Rattle.octets_pieces.proofs.OneResult.{read_is_one}

-- bits that begin with the codes of v have at least as many bytes before the place at which no code follows
as_many : (v w : List ℕ) (x y : List Bool) → AreBytes v → AreBytes w → HasNoCode y → codes v ++ x ≡ codes w ++ y
    → length v ≤ length w
unfolding codes
as_many [] w x y hv hw ny e = omega arith
as_many (c ∷ v) [] x y hv hw ny e =
    let hc = All-head (λ z. z < 256) c v hv in
    absurd (ny c (omega (arith, hc)) (codes v ++ x) (sym e ∙ append_assoc (code c) (codes v) x))
as_many (c ∷ v) (d ∷ w) x y hv hw ny e =
    let hc = All-head (λ z. z < 256) c v hv in
    let hd = All-head (λ z. z < 256) d w hw in
    let head = first_code c d (codes v ++ x) (codes w ++ y) (omega (arith, hc)) (omega (arith, hd))
    (simp append_assoc at e) in
    let tail = as_many v w x y (All-tail (λ z. z < 256) c v hv) (All-tail (λ z. z < 256) d w hw) ny head.1 in
    omega (arith, tail)

-- the end code is not among the codes of bytes
no_end_among : (v w : List ℕ) (x y : List Bool) → AreBytes v → AreBytes w → HasNoCode y
    → codes v ++ (code 256 ++ x) ≡ codes w ++ y → ⊥
unfolding codes
no_end_among [] [] x y hv hw ny e = ny 256 (omega arith) x (sym e)
no_end_among [] (d ∷ w) x y hv hw ny e =
    let hd = All-head (λ z. z < 256) d w hw in
    let head = first_code 256 d x (codes w ++ y) (omega arith) (omega (arith, hd))
    (e ∙ append_assoc (code d) (codes w) y) in
    omega (arith, head.0, hd)
no_end_among (c ∷ v) [] x y hv hw ny e =
    let hc = All-head (λ z. z < 256) c v hv in
    ny c (omega (arith, hc)) (codes v ++ (code 256 ++ x)) (sym e ∙ append_assoc (code c) (codes v) (code 256 ++ x))
no_end_among (c ∷ v) (d ∷ w) x y hv hw ny e =
    let hc = All-head (λ z. z < 256) c v hv in
    let hd = All-head (λ z. z < 256) d w hw in
    let head = first_code c d (codes v ++ (code 256 ++ x)) (codes w ++ y) (omega (arith, hc)) (omega (arith, hd))
    (sym (append_assoc (code c) (codes v) (code 256 ++ x)) ∙ e ∙ append_assoc (code d) (codes w) y) in
    no_end_among v w x y (All-tail (λ z. z < 256) c v hv) (All-tail (λ z. z < 256) d w hw) ny head.1

-- the bits of a longer front
longer_front : (t : List ℕ) (n i : ℕ) → n < i → i ≤ length t
    → bits (take i t) ≡ bits (take n t) ++ (bits_of 8 (get_or t n 0) ++ bits (drop (n + 1) (take i t)))
longer_front t n i l h =
    let same : take (n + 1) (take i t) ≡ take (n + 1) t = grind (arith, common_steps) in
    let parts : take i t ≡ take (n + 1) t ++ drop (n + 1) (take i t) =
    sym (take-append-drop (n + 1) (take i t)) ∙ ap (λ u. u ++ drop (n + 1) (take i t)) same in
    let more : bits (take (n + 1) t) ≡ bits (take n t) ++ bits_of 8 (get_or t n 0) = grind
    (arith, common_steps, bits-push) in
    ap bits parts ∙ bits-append (take (n + 1) t) (drop (n + 1) (take i t))
    ∙ ap (λ z. z ++ bits (drop (n + 1) (take i t))) more
    ∙ append_assoc (bits (take n t)) (bits_of 8 (get_or t n 0)) (bits (drop (n + 1) (take i t)))

-- what was read first, and the bits behind it, are what was read later
both_parts : (p q r y z f g : List Bool) (v w : List ℕ) → AreRead (p ++ f) v q → AreRead (p ++ g) w r
    → g ≡ f ++ (y ++ z) → codes v ++ (q ++ (y ++ z)) ≡ codes w ++ r
both_parts p q r y z f g v w first last e =
    sym (append_assoc (codes v) q (y ++ z)) ∙ ap (λ h. h ++ (y ++ z)) (sym first.parts) ∙ append_assoc p f (y ++ z)
    ∙ ap (λ h. p ++ h) (sym e) ∙ last.parts

-- a decode that stops before byte n read no more than n bytes
no_more : (p q r : List Bool) (t a b c : List ℕ) (n i k j : ℕ) → HasRead p q t a b n k → HasRead p r t a c i j
    → length b ≡ length a → length c ≡ length a → Stops q t n (length a - k) → ¬ (n < i)
no_more p q r t a b c n i k j one two lb lc stop less =
    let y = bits_of 8 (get_or t n 0) in
    let z = bits (drop (n + 1) (take i t)) in
    let both = both_parts p q r y z _ _ (take k b) (take j c) one.read two.read (longer_front t n i less two.inside) in
    let none = open_no_code r two.read.open_left in
    elim stop [
      | inl end ↦ omega (arith, end, less, two.inside)
      | inr more ↦ elim more [
        | inl room ↦
            let much = room.1 in
            let u = much.value in
            let all : codes (take k b ++ u) ++ (much.left ++ z) ≡ codes (take j c) ++ r =
            rw (
              codes-append,
              append_assoc,
              ← append_assoc (codes u) much.left z,
              ← much.read.parts,
              append_assoc,
            ) both in
            let many = as_many (take k b ++ u) (take j c) (much.left ++ z) r
            (All-append (λ x. x < 256) (take k b) u one.read.bytes much.read.bytes) two.read.bytes none all in
            omega (
              arith,
              many,
              length-append (take k b) u,
              length-take k b,
              length-take j c,
              much.more,
              one.fits,
              two.fits,
              lb,
              lc,
            )
        | inr end ↦
            let w = end.1 in
            let all : codes (take k b) ++ (code 256 ++ (w.0 ++ z)) ≡ codes (take j c) ++ r =
            rw (← append_assoc (code 256) w.0 z, ← w.1, append_assoc) both in
            no_end_among (take k b) (take j c) (w.0 ++ z) r one.read.bytes two.read.bytes none all
      ]
    ]

-- a slice by its two parts
by_parts : (k : ℕ) (a b c : List ℕ) → take k b ≡ take k c → drop k b ≡ drop k a → drop k c ≡ drop k a → b ≡ c
by_parts k a b c e f g =
    let same : drop k b ≡ drop k c = f ∙ sym g in
    sym (take-append-drop k b) ∙ ap (λ u. u ++ drop k b) e ∙ ap (λ u. take k c ++ u) same ∙ take-append-drop k c

-- bits that were read don't begin with the end code
pub no_end_read : (x p : List Bool) (v : List ℕ) → AreRead x v p → BeginsEnd x → ⊥
unfolding codes
no_end_read x p v r e =
    no_end_among [] v e.0 p (λ k d l. absurd (omega arith)) r.bytes (open_no_code p r.open_left) (sym e.1 ∙ r.parts)

pub stop_is_one : StopIsOne
stop_is_one q t n room much end = no_end_read _ _ _ much.1.read end.1

pub decode_is_one : DecodeIsOne
decode_is_one p q r t a b c n i k j lb lc one two s w =
    let place : n ≡ i = omega
    (arith, no_more p q r t a b c n i k j one two lb lc s, no_more p r q t a c b i n j k two one lc lb w) in
    let read = read_is_one _ q r (take k b) (take j c) one.read (rw (← place) at two.read) in
    let len = ap length read.0 in
    let count : k ≡ j = omega (arith, len, length-take k b, length-take j c, one.fits, two.fits, lb, lc) in (
      place,
      count,
      read.1,
      by_parts k a b c (read.0 ∙ ap (λ m. take m c) (sym count)) one.behind (rw (← count) at two.behind),
    )
