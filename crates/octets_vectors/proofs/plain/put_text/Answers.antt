-- Byte by byte: the waiting bits and the codes to come are the rest of the text, and a complete byte of them goes
-- next.
use Rattle.std.proofs.Common.{◌≡◌, ℕ, ◌+◌, ◌%◌, ◌<◌, ◌≤◌, ◌++◌, [], ◌∷◌, List, Bool, length, drop}
use Rattle.std.proofs.Common.{refl, ap, ◌∙◌, arith, append-nil, append_assoc, length-append}
use Rattle.octets_code.specs.Bits.{bits_of}
use Rattle.octets_code.specs.Texts.{codes, bytes_of, text}
use Rattle.octets_code.proofs.BitLemmas.{length-bits_of}
use Rattle.octets.specs.Encodes.{cased}
use Rattle.octets_code.proofs.BytesOf.{bytes_of-byte_low}
use Rattle.octets.proofs.lemmas.CasedCodes.{codes-at, codes-end}
use Rattle.octets.proofs.lemmas.Giving.{done, next}
use Rattle.octets_vectors.proofs.Singles.{singles}
use Rattle.octets_vectors.proofs.PlainSteps.{lawful, refused}
use Rattle.octets_vectors.proofs.plain.put_text.Goals as goal
use Rattle.octets_vectors.proofs.plain.put_text.Goals.{then-not-is_empty+in_ok-put_bytes-2, else-not-is_empty}

-- the first byte of what waits
first_byte : (b : ℕ) (p q r : List Bool) → b < 256 → p ≡ bits_of 8 b ++ q
    → bytes_of (p ++ r) ≡ (b ∷ []) ++ bytes_of (q ++ r)
first_byte b p q r h e =
    let m : b % 256 ≡ b = omega arith in
    ap (λ l. bytes_of (l ++ r)) e ∙ ap bytes_of (append_assoc (bits_of 8 b) q r) ∙ bytes_of-byte_low b (q ++ r)
    ∙ ap (λ n. n ∷ bytes_of (q ++ r)) m

-- at the end only what waits is left
last_left : (to_lower : Bool) (v : List ℕ) (i : ℕ) (p : List Bool) → length v ≤ i
    → p ++ codes (drop i (cased to_lower v)) ≡ p
last_left to_lower v i p h = rw (codes-end to_lower v i h) (append-nil p)

pub loop-byte-init : goal.loop-byte-init
unfolding text
loop-byte-init g c = rw c.new-waiting.ensures (record { gives = λ after r h. h; few = omega arith; empty = λ _. refl })

pub loop-whole-init : goal.loop-whole-init
loop-whole-init g c =
    let e = codes-at c.args.to_lower c.args.v.now c.loop-byte.byte-index c.loop-byte-test.true in
    record { gives = rw (e, ← append_assoc, ← c.cased_byte.ensures, ← c.push.ensures) at c.loop-byte.invariant.gives }

pub loop-whole-smaller : goal.loop-whole-smaller
loop-whole-smaller g c = omega (
  arith,
  ap length c.in-Some.ensures.byte,
  length-append (bits_of 8 c.in-Some.whole) c.take_byte.new.self,
  length-bits_of 8 c.in-Some.whole,
)

pub returns-in_err-put_bytes-clause-gives : goal.returns-in_err-put_bytes-clause-gives
returns-in_err-put_bytes-clause-gives g c =
    let W = g.W.OctetsWriter in let k = c.in_err-put_bytes.ensures in
    let left = codes (drop (c.loop-byte.byte-index + 1) (cased c.args.to_lower c.args.v.now)) in
    let e =
    first_byte c.in-Some.whole c.loop-whole.waiting c.take_byte.new.self left (omega arith) c.in-Some.ensures.byte in
    c.loop-whole.invariant.gives _ _ (refused W.written W.room W.whole _ _ c.from_residual.ensures.0 e k.err
    k.nothing_where_whole k.fits k.capacity k.same_kind)

pub loop-whole-preserved : goal.loop-whole-preserved
loop-whole-preserved g c =
    let W = g.W.OctetsWriter in let k = c.in_ok-put_bytes.ensures in
    let left = codes (drop (c.loop-byte.byte-index + 1) (cased c.args.to_lower c.args.v.now)) in
    let e =
    first_byte c.in-Some.whole c.loop-whole.waiting c.take_byte.new.self left (omega arith) c.in-Some.ensures.byte in
    record {
      gives =
          λ after r h. c.loop-whole.invariant.gives after r (next (lawful W.written W.room W.whole) _ e (ap singles e)
          (record { bytes = k.ok; capacity = k.capacity; kind = k.same_kind }) h);
    }

pub returns-in_err-put_bytes-2-clause-gives : goal.returns-in_err-put_bytes-2-clause-gives
returns-in_err-put_bytes-2-clause-gives g c =
    let W = g.W.OctetsWriter in let k = c.in_err-put_bytes-2.ensures in
    let e = ap bytes_of (last_left c.args.to_lower c.args.v.now c.loop-byte.byte-index c.loop-byte.waiting
    c.loop-byte-test.false) ∙ c.last_byte.ensures in
    c.loop-byte.invariant.gives _ _ (refused W.written W.room W.whole _ []
    c.from_residual-in_err-put_bytes-2.ensures.0 e k.err k.nothing_where_whole k.fits k.capacity k.same_kind)

pub returns-clause-gives : goal.returns-clause-gives
unfolding bytes_of
returns-clause-gives g c =
    let W = g.W.OctetsWriter in let law = lawful W.written W.room W.whole in
    let e = last_left c.args.to_lower c.args.v.now c.loop-byte.byte-index c.loop-byte.waiting c.loop-byte-test.false in
    c.loop-byte.invariant.gives _ _ (rw e (elim c.if-not-is_empty.branch [
      | then-not-is_empty+in_ok-put_bytes-2 w ↦ let k = w.in_ok-put_bytes-2.ensures in
          rw (w.sink-is, w.last_byte.ensures)
          (next law _ refl refl (record { bytes = k.ok; capacity = k.capacity; kind = k.same_kind }) (done law _ _))
      | else-not-is_empty w ↦ rw (w.sink-is, c.is_empty.ensures.0 w.if-not-is_empty.false) (done law _ _)
    ]))
