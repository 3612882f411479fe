use Rattle.std.proofs.Common.{◌≡◌, ℕ, suc, ◌+◌, ◌-◌, ◌∙◌, ◌<◌, ◌≤◌, Bool, List, [], ◌∷◌, ◌++◌, length}
use Rattle.std.proofs.Common.{length-take, take, slice_set, ap, arith, sym}
use Rattle.std.proofs.lemmas.Grind.{common_steps}
use Rattle.octets_pieces.specs.Pieces.{AreRead}
use Rattle.octets_pieces.proofs.OneDecode.{no_end_read}
use Rattle.octets_pieces.proofs.OneResult.{read_is_one}
use Rattle.octets_pieces.proofs.decoder.Decoder.fill.Goals as goal

-- the last byte of the slice o became a
last_set : (o : List ℕ) (at a : ℕ) → length o ≡ at + 1 → slice_set o at a ≡ take at o ++ (a ∷ [])
last_set o at a e =
    let all : take (at + 1) (slice_set o at a) ≡ slice_set o at a = grind (arith, common_steps) in
    let front : take (at + 1) (slice_set o at a) ≡ take at o ++ (a ∷ []) = grind (arith, common_steps) in
    sym all ∙ front

-- the first of two bytes fills the slice
filled : (o : List ℕ) (at n a b : ℕ) (x p q : List Bool) (v : List ℕ) → AreRead x v p → AreRead x
    (take n (a ∷ b ∷ [])) q
    → length o - at < length v → at < length o → slice_set o at a ≡ take at o ++ take (length o - at) v
filled o at n a b x p q v r s more inside =
    let same = (read_is_one x p q v (take n (a ∷ b ∷ [])) r s).0 in
    let few = ap length same in
    let one : length o - at ≡ 1 = omega (arith, few, more, inside, length-take n (a ∷ b ∷ [])) in
    let two : n ≡ suc (suc (n - 2)) = omega (arith, few, more, inside, length-take n (a ∷ b ∷ [])) in
    let first : take 1 v ≡ a ∷ [] = ap (take 1) same ∙ ap (λ k. take 1 (take k (a ∷ b ∷ []))) two in
    last_set o at a (omega arith) ∙ ap (λ z. take at o ++ z) (sym (ap (λ k. take k v) one ∙ first))

pub returns-then-at-out : goal.returns-then-at-out
returns-then-at-out c = λ m.
    filled c.args.out.now c.args.at _ _ _ _ _ _ m.value m.read (rw c.self.view_is at c.in-Some.ensures.step) m.more
    c.if-at-out.true

-- there is no room
none_left : (o v : List ℕ) (at : ℕ) → at ≤ length o → length o ≤ at → o ≡ take at o ++ take (length o - at) v
none_left o v at h n = grind (arith, common_steps)

pub returns-in_default : goal.returns-in_default
returns-in_default c = λ m. absurd (no_end_read _ _ _ m.read (rw c.self.view_is at c.in_default.ensures.end))

pub returns-else-at-out : goal.returns-else-at-out
returns-else-at-out c = λ m. none_left c.args.out.now m.value c.args.at c.requires.inside c.if-at-out.false
