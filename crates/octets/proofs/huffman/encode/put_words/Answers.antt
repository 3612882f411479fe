-- The waiting bits and the codes of the pairs that follow are the rest of the text. A complete word of them is the
-- next piece, and the bits that wait at the end are the last bytes.
use Rattle.std.proofs.Common.{◌≡◌, ℕ, ◌+◌, ◌-◌, ◌*◌, ◌/◌, ◌%◌, ◌<◌, ◌≤◌, ◌++◌, [], ◌∷◌, List, Bool, length, take, drop}
use Rattle.std.proofs.Common.{zero, suc, length-drop, get_or, refl, sym, ap, ◌∙◌, arith, append-nil, append_assoc}
use Rattle.std.proofs.Common.{length-append, rules}
use Rattle.std.specs.Int.{to_be_bytes, w64}
use Rattle.octets_code.specs.Bits.{bits_of, value_of}
use Rattle.octets_code.specs.Codes.{code}
use Rattle.octets_code.specs.Texts.{codes, bytes_of, text, ones}
use Rattle.octets_code.proofs.BitLemmas.{length-bits_of}
use Rattle.octets_code.proofs.BytesOf.{bytes_of-word, length-bytes_of, last_bytes}
use Rattle.octets_code.proofs.ByteBits.{bits_of-value_of}
use Rattle.octets.specs.Encodes.{cased, cased_byte}
use Rattle.octets.specs.Pieces.{pieces_of_bits, tail_pieces}
use Rattle.octets.proofs.lemmas.Giving.{pieces-word, pieces-last, done, next, stop}
use Rattle.octets.proofs.lemmas.CasedCodes.{codes-at, codes-end}
use Rattle.std.specs.Simd.{first_chunks}
use Rattle.std.proofs.lemmas.List.{get_or-drop, take_rest}
use Rattle.octets.proofs.huffman.encode.put_words.Goals as goal
use Rattle.octets.proofs.huffman.encode.put_words.Goals.{then-odd-eq1, else-odd-eq1, in-Some+in_ok-put_piece}
use Rattle.octets.proofs.huffman.encode.put_words.Goals.{in_default}

two_codes : (to_lower : Bool) (v : List ℕ) (n a b : ℕ) (p : List Bool) → n < length v / 2
    → a ≡ cased_byte to_lower (get_or v (length v % 2 + 2 * n) 0)
    → b ≡ cased_byte to_lower (get_or v (length v % 2 + 2 * n + 1) 0)
    → p ++ codes (drop (length v % 2 + 2 * n) (cased to_lower v))
    ≡ (p ++ (code a ++ code b)) ++ codes (drop (length v % 2 + 2 * (n + 1)) (cased to_lower v))
two_codes to_lower v n a b p h first second = grind (arith, codes-at, append_assoc)

two-more : (i : ℕ) → 2 * suc i ≡ suc (suc (2 * i))
two-more i = omega arith

two-next : (i : ℕ) → suc (suc (2 * i)) + 1 ≡ suc (suc (2 * i + 1))
two-next i = omega arith

-- the bytes of a pair
chunk-at : (v : List ℕ) (k i : ℕ) (d : List ℕ) → i < k → 2 * k ≤ length v
    → (get_or (get_or (first_chunks 2 k v) i d) 0 0 ≡ get_or v (2 * i) 0)
    × (get_or (get_or (first_chunks 2 k v) i d) 1 0 ≡ get_or v (2 * i + 1) 0)
chunk-at (a ∷ b ∷ v) (suc k) zero d h l = (refl, refl)
chunk-at (a ∷ b ∷ v) (suc k) (suc i) d h l = rw (two-more, two-next) (chunk-at v k i d (omega arith) (omega arith))
chunk-at v zero i d h l = absurd (omega arith)
chunk-at [] (suc k) i d h l = absurd (omega arith)
chunk-at (a ∷ []) (suc k) i d h l = absurd (omega arith)

-- what is left of v from its first pair on, as the slice that is cut off v
abbrev from_pairs : (v : List ℕ) → List ℕ
from_pairs v = take (length v - length v % 2) (drop (length v % 2) v)

-- there are half as many pairs as bytes
pair_count : (v : List ℕ) → length (from_pairs v) / 2 ≡ length v / 2
pair_count v =
    rw (take_rest v (length v % 2), length-drop (length v % 2) v) (omega arith)

-- what waits, the pair n, and then the next ones
pair_codes : (to_lower : Bool) (v : List ℕ) (cs : List (List ℕ)) (n a b : ℕ) (p : List Bool) → n < length cs
    → length cs ≡ length (from_pairs v) / 2
    → cs ≡ first_chunks 2 (length (from_pairs v) / 2) (from_pairs v)
    → a ≡ cased_byte to_lower (get_or (get_or cs n []) 0 0)
    → b ≡ cased_byte to_lower (get_or (get_or cs n []) 1 0)
    → p ++ codes (drop (length v % 2 + 2 * n) (cased to_lower v))
    ≡ (p ++ (code a ++ code b)) ++ codes (drop (length v % 2 + 2 * (n + 1)) (cased to_lower v))
pair_codes to_lower v cs n a b p h len is first second =
    let s : List ℕ = from_pairs v in
    let few : n < length s / 2 = omega (arith, h, len) in
    let x = chunk-at s (length s / 2) n [] few (omega arith) in
    let at : (m : ℕ) → get_or s m 0 ≡ get_or v (length v % 2 + m) 0 =
    λ m. rw (take_rest v (length v % 2)) (get_or-drop (length v % 2) v m 0) in
    let q : length v % 2 + (2 * n + 1) ≡ length v % 2 + 2 * n + 1 = omega arith in
    let i : a ≡ cased_byte to_lower (get_or v (length v % 2 + 2 * n) 0) =
    first ∙ ap (λ y. cased_byte to_lower (get_or (get_or y n []) 0 0)) is
    ∙ ap (cased_byte to_lower) (x.0 ∙ at (2 * n)) in
    let j : b ≡ cased_byte to_lower (get_or v (length v % 2 + 2 * n + 1) 0) =
    second ∙ ap (λ y. cased_byte to_lower (get_or (get_or y n []) 1 0)) is
    ∙ ap (cased_byte to_lower) (x.1 ∙ at (2 * n + 1) ∙ ap (λ m. get_or v m 0) q) in
    two_codes to_lower v n a b p (rw (← pair_count v) few) i j

-- a complete word is the next piece
next_word : (x y q left : List Bool) (w : ℕ) (word : List ℕ) → x ≡ y ++ left → y ≡ bits_of 64 w ++ q
    → word ≡ to_be_bytes w64 w
    → (bytes_of x ≡ word ++ bytes_of (q ++ left))
    × (pieces_of_bits (length x) ≡ length word ∷ pieces_of_bits (length (q ++ left)))
next_word x y q left w word e f is = rw (e, f, is, append_assoc (bits_of 64 w))
    (bytes_of-word w (q ++ left), rw (length-append (bits_of 64 w), length-bits_of) (pieces-word (length (q ++ left))))

-- the last word has the last bytes
last_piece : (p : List Bool) (w m : ℕ) → length p < 64 → bits_of 64 w ≡ p ++ ones (64 - length p)
    → m ≡ (length p + 7) / 8
    → (bytes_of p ≡ take m (to_be_bytes w64 w))
    × (pieces_of_bits (length p) ≡ tail_pieces (length (take m (to_be_bytes w64 w))))
last_piece p w m few is e =
    let v = bits_of-value_of p in let b =
    last_bytes (length p) (value_of p) w few (is ∙ ap (λ y. y ++ ones (64 - length p)) (sym v)) ∙ ap bytes_of v in
    rw (e, b) (refl, pieces-last (length p) few ∙ ap tail_pieces (sym (length-bytes_of p)))

-- at the end only what waits is left
waits : (to_lower : Bool) (v : List ℕ) (n : ℕ) (p : List Bool) → length v / 2 ≤ n
    → p ++ codes (drop (length v % 2 + 2 * n) (cased to_lower v)) ≡ p
waits to_lower v n p h = rw (codes-end to_lower v (length v % 2 + 2 * n) (omega arith)) (append-nil p)

pub loop-pair-init : goal.loop-pair-init
unfolding text
loop-pair-init g c = elim c.if-odd-eq1.branch [
  | then-odd-eq1 w ↦
      let i : length c.args.v.now % 2 + 2 * 0 ≡ 0 + 1 = omega (arith, w.if-odd-eq1.true) in
      rw (
        w.pending-is,
        w.of_byte-pending.ensures,
        w.cased_byte.ensures,
        i,
        ← codes-at c.args.to_lower c.args.v.now 0 (omega (arith, w.if-odd-eq1.true)),
      )
      (record {
        gives = λ after r h. h;
        empty = λ y. let l = ap length y in
            absurd (omega (arith, w.if-odd-eq1.true));
        named = refl;
      })
  | else-odd-eq1 w ↦
      let i : length c.args.v.now % 2 + 2 * 0 ≡ 0 = omega (arith, w.if-odd-eq1.false) in
      rw (w.pending-is, w.new-pending.ensures, i)
      (record { gives = λ after r h. h; empty = λ _. (refl, refl); named = refl })
]

pub loop-pair-preserved : goal.loop-pair-preserved
loop-pair-preserved g c =
    let e =
    pair_codes c.args.to_lower c.args.v.now _ c.loop-pair.pair-index _ _ c.loop-pair.pending c.loop-pair-test.true
    c.as_chunks.ensures.front_len c.as_chunks.ensures.front c.cased_byte-first.ensures c.cased_byte-second.ensures in
    let i = c.loop-pair.invariant in
    let some : c.args.v.now ≡ [] → ⊥ = λ y. let l = ap length y in omega (arith, c.loop-pair-test.true) in
    elim c.match-push_pair.branch [
      | in-Some+in_ok-put_piece w ↦ rw w.target-is
          (let x = next_word _ _ _ _ _ _ e w.in-Some.ensures.word w.word_bytes.ensures in record {
            gives = λ after r h. i.gives after r (next g.met.T.Target.law _ x.0 x.1 w.in_ok-put_piece.ensures.ok h);
            empty = λ y. absurd (some y);
            named = g.met.T.Target.same_name _ _ _ w.in_ok-put_piece.ensures.ok ∙ i.named;
          })
      | in_default w ↦ rw w.target-is (record {
        gives = rw (e, ← w.in_default.ensures.none) at i.gives;
        empty = λ y. absurd (some y);
        named = i.named;
      })
    ]

pub returns-in_err-put_piece-clause-gives : goal.returns-in_err-put_piece-clause-gives
returns-in_err-put_piece-clause-gives g c =
    let e =
    pair_codes c.args.to_lower c.args.v.now _ c.loop-pair.pair-index _ _ c.loop-pair.pending c.loop-pair-test.true
    c.as_chunks.ensures.front_len c.as_chunks.ensures.front c.cased_byte-first.ensures c.cased_byte-second.ensures in
    let x = next_word _ _ _ _ _ _ e c.in-Some.ensures.word c.word_bytes.ensures in let k = c.in_err-put_piece.ensures in
    c.loop-pair.invariant.gives _ _
    (stop g.met.T.Target.law _ _ _ c.from_residual.ensures.0 x.0 x.1 k.err k.nothing_where_whole k.fits)

pub returns-then-is_empty-clause-gives : goal.returns-then-is_empty-clause-gives
unfolding bytes_of pieces_of_bits tail_pieces
returns-then-is_empty-clause-gives g c =
    let e = waits c.args.to_lower c.args.v.now c.loop-pair.pair-index c.loop-pair.pending
    (rw (← pair_count c.args.v.now) (rw (← c.as_chunks.ensures.front_len) c.loop-pair-test.false)) in
    c.loop-pair.invariant.gives _ _ (rw (e, c.is_empty.ensures.0 c.if-is_empty.true) (done g.met.T.Target.law _ _))

pub returns-clause-gives : goal.returns-clause-gives
returns-clause-gives g c =
    let e = waits c.args.to_lower c.args.v.now c.loop-pair.pair-index c.loop-pair.pending
    (rw (← pair_count c.args.v.now) (rw (← c.as_chunks.ensures.front_len) c.loop-pair-test.false)) in
    let l = last_piece c.loop-pair.pending _ _ c.byte_len.ensures.few c.last_word.ensures c.byte_len.ensures.bytes in
    c.loop-pair.invariant.gives _ _ (rw (e, l.0, l.1) c.put_last.ensures.gives)

pub returns-in_err-put_piece-clause-empty : goal.returns-in_err-put_piece-clause-empty
returns-in_err-put_piece-clause-empty g c = λ y.
    let l = ap length y in
    absurd (omega (arith, c.loop-pair-test.true))

pub returns-then-is_empty-clause-empty : goal.returns-then-is_empty-clause-empty
returns-then-is_empty-clause-empty g c = λ y. (search rules, (c.loop-pair.invariant.empty y).1)

pub returns-clause-empty : goal.returns-clause-empty
returns-clause-empty g c = λ y.
    let none = c.is_empty.ensures.1 (c.loop-pair.invariant.empty y).0 in
    cc (none, c.if-is_empty.false)
