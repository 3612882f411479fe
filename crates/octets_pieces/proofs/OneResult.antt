-- The laws of pieces.
use Rattle.std.proofs.Common.{◌≡◌, ℕ, ◌<◌, ◌≤◌, Bool, List, [], ◌∷◌, ◌++◌, length, take, drop, ap, arith, refl}
use Rattle.std.proofs.Common.{sym, ◌∙◌}
use Rattle.std.proofs.Common.{append_assoc, inl, inr, length-take}
use Rattle.std.proofs.lemmas.List.Elements.{All-head, All-tail}
use Rattle.octets.specs.Stops.{IsStoppedBy, HasNoByteBehind}
use Rattle.octets.specs.declared.error.IntoError.{IntoError}
use Rattle.octets.specs.declared.error.IntoError.TheVariants.{NotText, NoRoom}
use Rattle.octets_code.specs.Codes.{code}
use Rattle.octets_code.specs.Texts.{bits, codes, AreBytes}
use Rattle.octets_code.proofs.TextLemmas.{first_code, one_cut, are_symbols, open_no_code, texts_apart}
use Rattle.octets_code.proofs.TextOf.{text_from}
use Rattle.octets_code.proofs.Faults.{answers_are_one}
use Rattle.octets_pieces.specs.Laws.{NothingIsRead, ReadsJoin, ReadIsCut, ReadIsOne, EndIsText}
use Rattle.octets_pieces.specs.Laws.{FailureIsOne, AnswerIsOne}
use Rattle.octets_pieces.specs.Laws.{NeverBoth}
use Rattle.octets_pieces.proofs.ByteReads.{nothing}
use Rattle.octets_pieces.proofs.Joins.{read_on}

pub nothing_is_read : NothingIsRead
unfolding bits
nothing_is_read = nothing [] refl

pub reads_join : ReadsJoin
reads_join x y p q v w = read_on x y p q v w

pub read_is_cut : ReadIsCut
read_is_cut x q v r = (are_symbols v r.bytes, (r.parts, open_no_code q r.open_left))

pub read_is_one : ReadIsOne
read_is_one x p q v w r s =
    one_cut v w p q (are_symbols v r.bytes) (are_symbols w s.bytes) (open_no_code p r.open_left)
    (open_no_code q s.open_left) (sym r.parts ∙ s.parts)

pub end_is_text : EndIsText
end_is_text t v q h r f = text_from v t (h, (length q, f.0, r.parts ∙ ap (λ z. codes v ++ z) f.1))

-- no byte's code begins the bits x
abbrev NoByte : List Bool → Type 0
NoByte x = (b : ℕ) (r : List Bool) → b < 256 → x ≡ code b ++ r → ⊥

-- the bytes before the place at which no byte follows are determined
same_before : (v w : List ℕ) (x y : List Bool) → AreBytes v → AreBytes w → NoByte x → NoByte y
    → codes v ++ x ≡ codes w ++ y → v ≡ w
unfolding codes
same_before [] [] x y hv hw nx ny e = refl
same_before [] (d ∷ w) x y hv hw nx ny e =
    absurd (nx d (codes w ++ y) (All-head (λ z. z < 256) d w hw) (e ∙ append_assoc (code d) (codes w) y))
same_before (c ∷ v) [] x y hv hw nx ny e =
    absurd (ny c (codes v ++ x) (All-head (λ z. z < 256) c v hv) (sym e ∙ append_assoc (code c) (codes v) x))
same_before (c ∷ v) (d ∷ w) x y hv hw nx ny e =
    let hc = All-head (λ z. z < 256) c v hv in
    let hd = All-head (λ z. z < 256) d w hw in
    let head = first_code c d (codes v ++ x) (codes w ++ y) (omega arith) (omega arith) (simp append_assoc at e) in
    let tail = same_before v w x y (All-tail (λ z. z < 256) c v hv) (All-tail (λ z. z < 256) d w hw) nx ny head.1 in
    rw (head.0, tail) refl

-- bytes that a byte follows are fewer than those before the place at which none follows
fewer_before : (v w : List ℕ) (b : ℕ) (x y : List Bool) → AreBytes v → AreBytes w → b < 256 → NoByte y
    → codes v ++ (code b ++ x) ≡ codes w ++ y → length v < length w
unfolding codes
fewer_before [] [] b x y hv hw hb ny e = absurd (ny b x hb (sym e))
fewer_before [] (d ∷ w) b x y hv hw hb ny e = omega arith
fewer_before (c ∷ v) [] b x y hv hw hb ny e =
    absurd (ny c (codes v ++ (code b ++ x)) (All-head (λ z. z < 256) c v hv)
    (sym e ∙ append_assoc (code c) (codes v) (code b ++ x)))
fewer_before (c ∷ v) (d ∷ w) b x y hv hw hb ny e =
    let hc = All-head (λ z. z < 256) c v hv in
    let hd = All-head (λ z. z < 256) d w hw in
    let head = first_code c d (codes v ++ (code b ++ x)) (codes w ++ y) (omega arith) (omega arith)
    (sym (append_assoc (code c) (codes v) (code b ++ x)) ∙ e ∙ append_assoc (code d) (codes w) y) in
    let tail = fewer_before v w b x y (All-tail (λ z. z < 256) c v hv) (All-tail (λ z. z < 256) d w hw) hb ny head.1 in
    omega (arith, tail)

no_byte : (v : List ℕ) (x : List Bool) → HasNoByteBehind v x → (y : List Bool) × NoByte y × (x ≡ codes v ++ y)
no_byte v x (inl w) = (
  code 256 ++ w.0,
  (λ b r h e. let same = first_code 256 b w.0 r (omega arith) (omega arith) e in omega (arith, same.0)),
  w.1,
)
no_byte v x (inr w) = (w.0, (λ b r h e. w.1 b (omega arith) r e), w.2)

same_why : (a b : IntoError) (t v w : List ℕ) (m : ℕ) → AreBytes v → AreBytes w → length v ≤ m → length w ≤ m
    → IsStoppedBy a v t m → IsStoppedBy b w t m → a ≡ b
unfolding IsStoppedBy
same_why NoRoom NoRoom t v w m hv hw lv lw p q = refl
same_why (NotText n) (NotText k) t v w m hv hw lv lw p q =
    let x = no_byte v (bits t) p.1 in
    let y = no_byte w (bits t) q.1 in
    let same = same_before v w x.0 y.0 hv hw x.1 y.1 (sym x.2 ∙ y.2) in
    ap NotText (sym p.0 ∙ ap length same ∙ q.0)
same_why NoRoom (NotText k) t v w m hv hw lv lw p q =
    let y = no_byte w (bits t) q.1 in
    let few = fewer_before v w p.1.0 p.1.1 y.0 hv hw p.1.2 y.1 (sym p.1.3 ∙ y.2) in
    absurd (omega (arith, few, p.0))
same_why (NotText n) NoRoom t v w m hv hw lv lw p q =
    let x = no_byte v (bits t) p.1 in
    let few = fewer_before w v q.1.0 q.1.1 x.0 hw hv q.1.2 x.1 (sym q.1.3 ∙ x.2) in
    absurd (omega (arith, few, q.0))

-- as many bytes, whose codes begin the same bits, are the same
same_many : (v w : List ℕ) (x y : List Bool) → AreBytes v → AreBytes w → length v ≡ length w → codes v ++ x
    ≡ codes w ++ y
    → v ≡ w
unfolding codes
same_many [] [] x y hv hw l e = refl
same_many [] (d ∷ w) x y hv hw l e = absurd (omega (arith, l))
same_many (c ∷ v) [] x y hv hw l e = absurd (omega (arith, l))
same_many (c ∷ v) (d ∷ w) x y hv hw l e =
    let hc = All-head (λ z. z < 256) c v hv in
    let hd = All-head (λ z. z < 256) d w hw in
    let head = first_code c d (codes v ++ x) (codes w ++ y) (omega arith) (omega arith) (simp append_assoc at e) in
    let tail = same_many v w x y (All-tail (λ z. z < 256) c v hv) (All-tail (λ z. z < 256) d w hw)
    (omega (arith, l)) head.1 in
    rw (head.0, tail) refl

-- what was decoded before a decode stopped is determined by the reason
same_value : (a : IntoError) (t v w : List ℕ) (m : ℕ) → AreBytes v → AreBytes w → IsStoppedBy a v t m
    → IsStoppedBy a w t m
    → v ≡ w
unfolding IsStoppedBy
same_value NoRoom t v w m hv hw p q =
    same_many v w (code p.1.0 ++ p.1.1) (code q.1.0 ++ q.1.1) hv hw (p.0 ∙ sym q.0) (sym p.1.3 ∙ q.1.3)
same_value (NotText n) t v w m hv hw p q =
    let x = no_byte v (bits t) p.1 in
    let y = no_byte w (bits t) q.1 in
    same_before v w x.0 y.0 hv hw x.1 y.1 (sym x.2 ∙ y.2)

pub failure_is_one : FailureIsOne
failure_is_one f g t a b c p q =
    let r = p.1 in
    let s = q.1 in
    let m = length a in
    let passed = (answers_are_one t m).1 f.passed g.passed r.refusal.1 s.refusal.1 in
    let why = same_why f.why g.why t p.0 q.0 m r.read.are_bytes s.read.are_bytes r.within s.within r.why s.why in
    let value = same_value g.why t p.0 q.0 m r.read.are_bytes s.read.are_bytes (rw why at r.why) s.why in
    (rw (passed, why) refl, p.3 ∙ ap (λ v. v ++ drop (length v) a) value ∙ sym q.3)

pub answer_is_one : AnswerIsOne
answer_is_one t a b c d n k p q la lb ld =
    let same = texts_apart (take n b) (take k d) t p.answer.0 q.answer.0 p.answer.2 q.answer.2 in
    let len = ap length same in
    (omega (arith, len, length-take n b, length-take k d, p.fits, q.fits), same)

pub never_both : NeverBoth
never_both f t a b c n p r = r.1.refusal.0 (take n b) p.answer
