-- Whether bytes begin a varint.
use Rattle.std.proofs.Common.{◌≡◌, ℕ, zero, suc, ◌^◌, ◌/◌, ◌%◌, ◌-◌, ◌*◌, ◌≤◌, ◌<◌, List, [], ◌∷◌, length, take, refl}
use Rattle.std.proofs.Common.{ap, subst, inl, inr, arith}
use Rattle.std.specs.Prelude.{◌⊎◌}
use Rattle.std.proofs.Math.Decide.{dec_le, dec_lt, map_dec}
use Rattle.std.proofs.lemmas.Nat.{pow_pos}
use Rattle.std.proofs.lemmas.List.{take-take, length-take-le}
use Rattle.std.proofs.lemmas.List.Elements.{All-nil, All-cons, All-head, All-tail}
use Rattle.octets.specs.Bytes.{AreBytes, number}
use Rattle.octets.specs.Varints.{BeginsVarint, IsVarint, HasNoVarint}
use Rattle.octets.proofs.lemmas.Varints.{begins_marked, begins_none, begins_width}

-- whether two facts hold together
pub both_decided : {P Q : Type 0} → Dec P → Dec Q → Dec (P × Q)
both_decided (yes p) (yes q) = yes (p, q)
both_decided (yes p) (no n) = no (λ h. n h.1)
both_decided (no n) d = no (λ h. n h.0)

-- whether numbers are bytes
pub AreBytes_decided : (b : List ℕ) → Dec (AreBytes b)
AreBytes_decided [] = yes (All-nil (λ b. b < 256))
AreBytes_decided (x ∷ b) =
    map_dec (λ h. All-cons (λ b. b < 256) x b h.0 h.1) (λ h.
    (All-head (λ b. b < 256) x b h, All-tail (λ b. b < 256) x b h)) (both_decided (dec_lt x 256) (AreBytes_decided b))

-- the first byte of a prefix of bytes is a byte
first_byte : (w f : ℕ) (r : List ℕ) → 0 < w → AreBytes (take w (f ∷ r)) → f < 256
first_byte zero f r h bytes = absurd (omega arith)
first_byte (suc w) f r h bytes = All-head (λ b. b < 256) f (take w r) bytes

first_of_front : (w : ℕ) (l : List ℕ) → 0 < w → take 1 (take w l) ≡ take 1 l
first_of_front zero l h = absurd (omega arith)
first_of_front (suc w) [] h = refl
first_of_front (suc w) (x ∷ l) h = refl

small_mark : (l : List ℕ) (w : ℕ) → 0 < w → w ≤ length l → AreBytes (take w l) → number (take 1 l) / 64 < 4
small_mark [] w h k bytes = absurd (omega arith)
small_mark (f ∷ r) w h k bytes = grind (arith, first_byte)

-- bytes begin a varint, or they don't
pub varint_or_none : (l : List ℕ) → ((w n : ℕ) × BeginsVarint l w n) ⊎ HasNoVarint l
unfolding BeginsVarint
varint_or_none l =
    let m = number (take 1 l) / 64 in
    let w = 2 ^ m in
    let some : 0 < w = pow_pos m in
    elim (dec_le w (length l)) [
      | no short ↦ inr (begins_none m l refl (λ h. absurd (short h)))
      | yes fits ↦ elim (AreBytes_decided (take w l)) [
        | no no_bytes ↦ inr
            (λ w' n v. no_bytes (subst (λ k. AreBytes (take k l)) (begins_width l w' n v) v.1.are_bytes))
        | yes bytes ↦
            let whole : length (take w l) ≡ w = length-take-le w l fits in
            let front = begins_marked m (take w l) (small_mark l w some fits bytes) bytes (omega arith)
            (ap (λ x. number x / 64) (first_of_front w l some)) in
            let n = number (take w (take w l)) % 2 ^ (8 * w - 2) in
            inl (w, n, (fits, subst (λ x. IsVarint x w n) (take-take w w l (omega arith)) front.1))
      ]
    ]
