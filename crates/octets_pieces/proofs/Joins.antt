-- A read that is continued in the next piece.
use Rattle.std.proofs.Common.{◌≡◌, ℕ, zero, suc, Fits, w8, inl, inr, append-nil, ◌+◌, ◌-◌, ◌<◌, ◌≤◌, Bool, List}
use Rattle.std.proofs.Common.{[], ◌∷◌, ◌++◌, length, ap, arith}
use Rattle.std.proofs.Common.{append_assoc, length-append, length-take, length-drop, take, ◌⊎◌, drop, get_or}
use Rattle.std.proofs.Common.{refl, sym, ◌∙◌}
use Rattle.std.proofs.lemmas.Grind.{common_steps, flat_map-append}
use Rattle.std.proofs.lemmas.List.Concat.{flat_map-cons}
use Rattle.std.specs.List.{flat_map}
use Rattle.std.proofs.lemmas.List.{take-append-le, take-append-drop, drop-drop, drop_all, take_all}
use Rattle.std.proofs.lemmas.List.Elements.{All-append}
use Rattle.std.proofs.lemmas.Slice.{take-put_mid}
use Rattle.std.proofs.Math.Seq.{take-append-add, drop-append-add, split_at, take-suc}
use borrow.Rule.Slice.PartMut.{put_mid}
use Rattle.octets_code.specs.Texts.{bits, AreBytes}
use Rattle.octets_code.proofs.ByteBits.{bits-append}
use Rattle.octets_code.proofs.CodesLemmas.{codes-append}
use Rattle.octets.specs.declared.error.IntoError.TheVariants.{NotText, NoRoom}
use Rattle.octets.specs.declared.error.IntoError.{IntoError}
use Rattle.octets.specs.Reading.{IsReadBefore}
use Rattle.octets.specs.Stops.{IsStoppedBy}
use Rattle.octets_pieces.specs.Pieces.{AreRead, IsTooMuch, StopsForEnd}
use Rattle.octets_pieces.specs.Joined.{Fails, FailsFrom, FailsInto}
use Rattle.octets_pieces.specs.declared.error.PiecesError.{PiecesError}
use Rattle.octets_code.specs.Answers.{IsAnswer, IsRefusal}
use Rattle.octets_pieces.proofs.Faulty.{end_at, full_at}

-- what was read after what was read before
pub read_on : (x y s q : List Bool) (w v : List ℕ) → AreRead x w s → AreRead (s ++ y) v q → AreRead (x ++ y) (w ++ v) q
read_on x y s q w v r e = record {
  bytes = All-append (λ b. b < 256) w v r.bytes e.bytes;
  open_left = e.open_left;
  parts = rw (r.parts, append_assoc, e.parts, codes-append, append_assoc);
}

-- the slice o after its part from a on became y
pub put_end : (a k : ℕ) (o y : List ℕ) → a ≤ length o → k ≡ length o - a → length y ≡ k → put_mid a k o y
    ≡ take a o ++ y
put_end a k o y h e l = grind (arith, common_steps, take-put_mid)

-- the front of a slice whose part from a on became y
pub part_taken : (a k n : ℕ) (o y : List ℕ) → a ≤ length o → k ≡ length o - a → length y ≡ k → n ≤ k
    → take (a + n) (put_mid a k o y) ≡ take a o ++ take n y
part_taken a k n o y h e l f =
    let len : length (take a o) ≡ a = omega (arith, length-take a o, h) in
    rw (put_end a k o y h e l)
    (ap (λ j. take (j + n) (take a o ++ y)) (sym len) ∙ take-append-add (take a o) y n)

-- and what comes after this front
pub part_dropped : (a k n : ℕ) (o y : List ℕ) → a ≤ length o → k ≡ length o - a → length y ≡ k → n ≤ k
    → drop n y ≡ drop n (take k (drop a o))
    → drop (a + n) (put_mid a k o y) ≡ drop (a + n) o
part_dropped a k n o y h e l f d =
    let len : length (take a o) ≡ a = omega (arith, length-take a o, h) in
    let rest : length (drop a o) ≤ k = omega (arith, length-drop a o, e) in
    rw (put_end a k o y h e l)
    (ap (λ j. drop (j + n) (take a o ++ y)) (sym len) ∙ drop-append-add (take a o) y n ∙ d
    ∙ ap (drop n) (take_all k (drop a o) rest) ∙ drop-drop n a o)

-- what was read within the joined bytes
in_joined : (a b c : List ℕ) (r : ℕ) (w v : List ℕ) (s q : List Bool) → AreRead (bits a) w s
    → AreRead (s ++ bits (take r b)) v q → r ≤ length b
    → AreRead (bits (take (length a + r) (a ++ (b ++ c)))) (w ++ v) q
in_joined a b c r w v s q f g h =
    let t : take (length a + r) (a ++ (b ++ c)) ≡ a ++ take r b =
    rw (take-append-add a (b ++ c) r, take-append-le r b c h) in
    rw (t, bits-append a (take r b)) (read_on _ _ s q w v f g)

at_joined : (a b c : List ℕ) (r : ℕ) → r < length b → get_or (a ++ (b ++ c)) (length a + r) 0 ≡ get_or b r 0
at_joined a b c r h = grind (arith, common_steps)

-- of two cases, the one that is left
pub other : (r n : ℕ) (P : Type 0) → r < n → (r ≡ n) ⊎ P → P
other r n P h w = elim w [
  | inl e ↦ absurd (omega arith)
  | inr p ↦ p
]

-- a decode stops in a piece for want of room
pub full_joined : (a b c : List ℕ) (r n m place room : ℕ) (w v : List ℕ) (s q : List Bool) → AreRead (bits a) w s
    → AreRead (s ++ bits (take r b)) v q → r < length b → (much : IsTooMuch q (get_or b r 0) room)
    → length w + length v + room ≡ m → place ≡ length a
    → n ≡ place + r + 1
    → Fails record { passed = n; why = NoRoom } ((w ++ v) ++ take room much.value) (a ++ (b ++ c)) m
full_joined a b c r n m place room w v s q f g inside much sum is e =
    let short : r ≤ length b = omega (arith, inside) in
    let there : IsTooMuch q (get_or (a ++ (b ++ c)) (length a + r) 0) room = record {
      value = much.value;
      left = much.left;
      read = rw (at_joined a b c r inside) much.read;
      more = much.more;
    } in
    full_at (a ++ (b ++ c)) (length a + r) m n room (w ++ v) q (in_joined a b c r w v s q f g short)
    (omega (arith, length-append w v, sum)) (omega (arith, inside, length-append a (b ++ c), length-append b c)) there
    (omega arith)

-- a decode stops in a piece at the end code
pub end_joined : (a b c : List ℕ) (r n m place k : ℕ) (w v : List ℕ) (s q : List Bool) → AreRead (bits a) w s
    → AreRead (s ++ bits (take r b)) v q → StopsForEnd q b r → length w + length v ≤ m → place ≡ length a
    → n ≡ place + r + 1 → k ≡ length w + length v
    → Fails record { passed = n; why = NotText k } (w ++ v) (a ++ (b ++ c)) m
end_joined a b c r n m place k w v s q f g stop within is e same =
    let short : r ≤ length b = omega (arith, stop.0) in
    end_at (a ++ (b ++ c)) (length a + r) m n k (w ++ v) q (in_joined a b c r w v s q f g short)
    (omega (arith, length-append w v, within))
    (omega (arith, stop.0, length-append a (b ++ c), length-append b c)) (rw (at_joined a b c r stop.0) stop.1)
    (omega arith) (omega (arith, length-append w v, same))

-- the joined bytes around one of the pieces
pub split_joined : {X : Type 0} (f : X → List ℕ) (xs : List X) (i : ℕ) (d : X) → i < length xs
    → flat_map f xs ≡ flat_map f (take i xs) ++ (f (get_or xs i d) ++ flat_map f (drop (suc i) xs))
split_joined f xs i d h =
    ap (flat_map f) (split_at xs i d h) ∙ flat_map-append f (take i xs) (get_or xs i d ∷ drop (suc i) xs)
    ∙ ap (λ z. flat_map f (take i xs) ++ z) (flat_map-cons f (get_or xs i d) (drop (suc i) xs))

-- the joined bytes up to one more piece
pub more_joined : {X : Type 0} (f : X → List ℕ) (xs : List X) (i : ℕ) (d : X) → i < length xs
    → flat_map f (take (i + 1) xs) ≡ flat_map f (take i xs) ++ f (get_or xs i d)
more_joined f xs i d h =
    let one : i + 1 ≡ suc i = omega arith in
    ap (λ j. flat_map f (take j xs)) one ∙ ap (flat_map f) (take-suc xs i d h)
    ∙ flat_map-append f (take i xs) (get_or xs i d ∷ [])
    ∙ ap (λ z. flat_map f (take i xs) ++ z) (flat_map-cons f (get_or xs i d) [] ∙ append-nil (f (get_or xs i d)))

-- what is the same from one place on is the same from a later place on
pub later : (a b : ℕ) (x y : List ℕ) → a ≤ b → drop a x ≡ drop a y → drop b x ≡ drop b y
later a b x y h e =
    let sum : a + (b - a) ≡ b = omega arith in
    rw (← sum, ← drop-drop (b - a) a x, e, drop-drop (b - a) a y) refl

-- a failure after a slice had been filled so far
pub failed_from : (e : PiecesError) (t u before middle after : List ℕ) (n : ℕ) → t ≡ u → length before ≡ length middle
    → drop n middle ≡ drop n before → FailsFrom n e u middle after → FailsInto e t before after
failed_from e t u before middle after n same len behind p = (
  p.0,
  rw (same, len) p.1,
  omega arith,
  p.3 ∙ ap (λ z. p.0 ++ z) (later n (length p.0) middle before p.2 behind),
)

-- a failure at the end
pub failed_at_end : (e : PiecesError) (t u before after : List ℕ) (n : ℕ) → t ≡ u → length before ≡ length after
    → n ≤ length before → drop n after ≡ drop n before → Fails e (take n after) u (length after)
    → FailsInto e t before after
failed_at_end e t u before after n same len fits behind p = (
  take n after,
  rw (same, len) p,
  omega arith,
  let front : length (take n after) ≡ n = omega (arith, length-take n after, fits, len) in
      sym (take-append-drop n after) ∙ ap (λ z. take n after ++ z) (behind ∙ ap (λ j. drop j before) (sym front)),
)

-- an element that is there
there : (l : List ℕ) (k d : ℕ) → k < length l → get_or l k d ≡ get_or l k 0
there [] k d h = absurd (omega arith)
there (x ∷ l) zero d h = refl
there (x ∷ l) (suc k) d h = there l k d (omega arith)

-- the elements of a slice of bytes
pub all_bytes : (l : List ℕ) → ((k : ℕ) → Fits w8 (get_or l k 0)) → AreBytes l
all_bytes l f = λ k d h.
    let byte : get_or l k 0 < 256 = (f k).fits in
    rw (there l k d h) byte

-- a slice by its front
pub by_front : (n : ℕ) (v before after : List ℕ) → length v ≡ n → take n after ≡ v → drop n after ≡ drop n before
    → after ≡ v ++ drop (length v) before
by_front n v before after len front behind =
    sym (take-append-drop n after) ∙ ap (λ z. z ++ drop n after) front
    ∙ ap (λ z. v ++ z) (behind ∙ ap (λ j. drop j before) (sym len))

-- the slice o after its part from a on became y, and was then filled behind the first k bytes of y
pub filled : (o y : List ℕ) (a k room : ℕ) (u : List ℕ) (v p after : List ℕ) → a ≤ length o → length y ≡ length o - a
    → k ≤ length y → room ≡ length o - a - k → room < length u → v ≡ (take a o ++ take k y) ++ take room u
    → p ≡ put_mid a (length o - a) o y → after ≡ take (a + k) p ++ take (length p - (a + k)) u
    → (a ≤ length v) × (after ≡ v ++ drop (length v) o)
filled o y a k room u v p after h l f e more is mid out =
    let front : take (a + k) p ≡ take a o ++ take k y = ap (take (a + k)) mid ∙ part_taken a
    (length o - a) k o y h refl l (omega arith) in
    let whole : length p ≡ length o = ap length (mid ∙ put_end a (length o - a) o y h refl l) ∙ omega
    (arith, length-append (take a o) y, length-take a o, h, l) in
    let same : length p - (a + k) ≡ room = omega (arith, whole, e) in
    let full : length v ≡ length o =
    omega (
      arith,
      ap length is,
      length-append (take a o ++ take k y) (take room u),
      length-append (take a o) (take k y),
      length-take a o,
      length-take k y,
      length-take room u,
      more,
      h,
      l,
      f,
      e,
    ) in (
      omega (arith, full, h),
      out ∙ ap (λ z. z ++ take (length p - (a + k)) u) front ∙ ap (λ j. (take a o ++ take k y) ++ take j u) same
          ∙ sym is
          ∙ sym (append-nil v) ∙ ap (λ z. v ++ z) (sym (drop_all (length v) o (omega (arith, full)))),
    )

-- an answer under the same limit
pub same_answer : (t v : List ℕ) (m n : ℕ) → m ≡ n → IsAnswer t n v → IsAnswer t m v
same_answer t v m n g r = rw g r

-- the place after one more piece
pub placed : (new old : ℕ) (a b j : List ℕ) → new ≡ old + length b → old ≡ length a → j ≡ a ++ b → new ≡ length j
placed new old a b j e f g = rw (g, length-append) (omega arith)

-- one decode of the bytes t that fails
pub whole_failure : (r t : List ℕ) (why : IntoError) (n k : ℕ) (v : List ℕ) (m : ℕ) → r ≡ t → IsRefusal r m n → k ≡ n
    → IsReadBefore v r m → IsStoppedBy why v r m → length v ≤ m
    → Fails record { passed = k; why = why } v t m
whole_failure r t why n k v m e a p b s l = record {
  refusal = rw (p, ← e) a;
  within = l;
  read = rw (← e) b;
  why = rw (← e) s;
}
