use Rattle.std.specs.List.{flat_map}
use Rattle.std.proofs.Common.{◌<◌, ap, arith, refl, sym, ◌∙◌}
use Rattle.std.proofs.lemmas.List.{take_all}
use Rattle.std.proofs.lemmas.List.Elements.{All-append}
use Rattle.std.proofs.lemmas.Result.{err_from_is_err_and}
use Rattle.octets_code.proofs.ByteBits.{bits-append}
use Rattle.octets_pieces.proofs.ByteReads.{nothing}
use Rattle.octets_pieces.proofs.Joins.{split_joined, more_joined, later, failed_from, failed_at_end}
use Rattle.octets_pieces.proofs.Joins.{same_answer, placed}
use Rattle.octets_pieces.proofs.joined.decode_pieces.Goals as goal

pub loop-piece-init : goal.loop-piece-init
loop-piece-init c = record {
  read = nothing _ c.new-decoder.ensures;
  bytes = (λ k d l. absurd (omega arith));
  place = refl;
  few = omega arith;
  len = refl;
  fits = omega arith;
  behind = refl;
}

pub returns-in_err-decode_next-clause-failed : goal.returns-in_err-decode_next-clause-failed
returns-in_err-decode_next-clause-failed c =
    let i = c.loop-piece.invariant in
    let p = err_from_is_err_and c.from_residual.result c.from_residual.ensures.1 in
    rw (p.1, p.2)
    (failed_from _ _ _ _ _ _ _
    (split_joined (λ p. p.now) c.args.pieces.now c.loop-piece.piece-index _ c.loop-piece-test.true)
    (sym i.len) i.behind (c.in_err-decode_next.ensures.failed _ _ i.place i.read))

pub returns-in_err-end-clause-failed : goal.returns-in_err-end-clause-failed
returns-in_err-end-clause-failed c =
    let all = take_all c.loop-piece.piece-index c.args.pieces.now c.loop-piece-test.false in
    let i = c.loop-piece.invariant in
    let p = err_from_is_err_and c.from_residual-in_err-end.result c.from_residual-in_err-end.ensures.1 in
    rw (p.1, p.2)
    (failed_at_end _ _ _ _ _ _ (ap (flat_map (λ p. p.now)) (sym all)) (sym i.len) i.fits i.behind
    (c.in_err-end.ensures.failed _ c.loop-piece.out i.read (rw i.len i.fits) i.place))

pub loop-piece-preserved : goal.loop-piece-preserved
loop-piece-preserved c =
    let i = c.loop-piece.invariant in
    let e = c.in_ok-decode_next.ensures in
    let more = more_joined (λ p. p.now) c.args.pieces.now c.loop-piece.piece-index _ c.loop-piece-test.true in record {
      read = rw (more, bits-append) (e.read _ i.read);
      bytes = rw more (All-append (λ b. b < 256) _ _ i.bytes e.bytes);
      place = placed _ _ _ _ _ e.place i.place more;
      few = omega arith;
      len = e.len ∙ i.len;
      fits = rw (← i.len) e.fits;
      behind = e.behind ∙ later _ _ _ _ e.more i.behind;
    }

pub returns-clause-value : goal.returns-clause-value
returns-clause-value c =
    let all = take_all c.loop-piece.piece-index c.args.pieces.now c.loop-piece-test.false in
    let i = c.loop-piece.invariant in record {
      fits = i.fits;
      answer = same_answer _ _ _ _ (sym i.len) (c.in_ok-end.ensures.answer _ c.loop-piece.out (rw all at i.read)
          (rw (i.len) i.fits) (rw all at i.bytes));
      behind = i.behind;
    }
