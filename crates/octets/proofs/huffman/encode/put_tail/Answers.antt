-- If there are at least four bytes, the first four are one piece. The loop gives each other byte as a piece.
use Rattle.std.proofs.Common.{◌≡◌, ℕ, ◌+◌, ◌-◌, ◌<◌, ◌≤◌, ◌++◌, [], ◌∷◌, List, length, take, drop, replicate, get_or}
use Rattle.std.proofs.Common.{refl, arith, add-one, drop-cons}
use Rattle.std.proofs.lemmas.Grind.{common_steps}
use Rattle.octets.specs.Pieces.{tail_pieces}
use Rattle.octets.proofs.lemmas.Giving.{tail_pieces-long, tail_pieces-short, done, next, stop, sole}
use Rattle.octets.proofs.huffman.encode.put_tail.Goals as goal
use Rattle.octets.proofs.huffman.encode.put_tail.Goals.{then-tail-ge4+in_ok-put_piece, else-tail-ge4}

-- four bytes, and then the other ones
four : (t : List ℕ) → 4 ≤ length t → (t ≡ take 4 t ++ take (length t - 4) (drop 4 t))
    × (tail_pieces (length t) ≡ length (take 4 t) ∷ replicate (length (take (length t - 4) (drop 4 t))) 1)
four t h = grind (arith, common_steps, tail_pieces-long)

-- a byte, and then the next ones
one : (r : List ℕ) (i : ℕ) → i < length r → (drop i r ≡ (get_or r i 0 ∷ []) ++ drop (i + 1) r)
    × (replicate {A = ℕ} (length (drop i r)) 1 ≡ 1 ∷ replicate {A = ℕ} (length (drop (i + 1) r)) 1)
one r i h = rw (add-one, drop-cons r i 0) (refl, refl)

one_piece : (n : ℕ) → n ≡ 1 → tail_pieces n ≡ n ∷ []
unfolding tail_pieces
one_piece n e = rw e refl

pub returns-then-tail-eq1-clause-gives : goal.returns-then-tail-eq1-clause-gives
returns-then-tail-eq1-clause-gives g c =
    let k = c.put_piece.ensures in rw (one_piece _ c.if-tail-eq1.true)
    (sole g.met.T.Target.law _ _ k.ok k.err k.nothing_where_whole k.fits)

pub returns-in_err-put_piece-clause-gives : goal.returns-in_err-put_piece-clause-gives
returns-in_err-put_piece-clause-gives g c =
    let e = four c.args.tail.now c.if-tail-ge4.true in let k = c.in_err-put_piece.ensures in
    stop g.met.T.Target.law _ _ _ c.from_residual.ensures.0 e.0 e.1 k.err k.nothing_where_whole k.fits

pub loop-byte-init : goal.loop-byte-init
loop-byte-init g c =
    elim c.if-tail-ge4.branch [
      | then-tail-ge4+in_ok-put_piece w ↦ rw (w.target-is, w.rest-is)
          (let e = four c.args.tail.now w.if-tail-ge4.true in record {
            gives = λ after r h. next g.met.T.Target.law _ e.0 e.1 w.in_ok-put_piece.ensures.ok h;
            named = grind arith;
          })
      | else-tail-ge4 w ↦ grind (arith, tail_pieces-short)
    ]

pub loop-byte-preserved : goal.loop-byte-preserved
loop-byte-preserved g c =
    let e = one c.if-tail-ge4.rest.now c.loop-byte.byte-index c.loop-byte-test.true in record {
      gives = λ after r h. c.loop-byte.invariant.gives after r
          (next g.met.T.Target.law _ e.0 e.1 c.in_ok-put_piece-2.ensures.ok h);
      named = grind arith;
    }

pub returns-in_err-put_piece-2-clause-gives : goal.returns-in_err-put_piece-2-clause-gives
returns-in_err-put_piece-2-clause-gives g c =
    let e = one c.if-tail-ge4.rest.now c.loop-byte.byte-index c.loop-byte-test.true in
    let k = c.in_err-put_piece-2.ensures in
    c.loop-byte.invariant.gives _ _ (stop g.met.T.Target.law _ _ _ c.from_residual-in_err-put_piece-2.ensures.0 e.0 e.1
    k.err k.nothing_where_whole k.fits)

pub returns-clause-gives : goal.returns-clause-gives
returns-clause-gives g c =
    let e : drop c.loop-byte.byte-index c.if-tail-ge4.rest.now ≡ [] = grind (arith, common_steps) in
    c.loop-byte.invariant.gives _ _ (rw e (done g.met.T.Target.law _ _))
