use Rattle.std.proofs.Common.{◌≡◌, ◌+◌, ◌++◌, drop, length, take, ◌-◌, arith, refl}
use Rattle.std.proofs.lemmas.Grind.{common_steps}
use Rattle.octets_pieces.proofs.Joins.{read_on, part_taken, part_dropped, full_joined, end_joined, other, filled}
use Rattle.octets_pieces.proofs.Joins.{by_front, all_bytes}
use Rattle.octets_pieces.proofs.joined.decode_next.Goals as goal

pub returns-then-progress-piece-clause-failed : goal.returns-then-progress-piece-clause-failed
returns-then-progress-piece-clause-failed c = λ before after e f.
    let r = c.in-Ok.ensures.read in
    let stop = other _ _ _ c.if-progress-piece.true c.in-Ok.ensures.stopped in
    let much = stop.1 in
    let o = c.args.out.now in
    let a = c.args.so_far.now.written in
    let room = length (take (length o - a) (drop a o)) - c.in-Ok.progress.written in
    let out = c.fill.ensures record {
      value = much.value;
      left = much.left;
      read = much.read;
      more = grind
          (arith, common_steps, much.more);
    } in
    let there = filled o c.decode.new.out a c.in-Ok.progress.written room much.value _ _ _
    c.requires.fits (grind (arith, common_steps)) (grind (arith, common_steps)) (grind (arith, common_steps))
    (grind (arith, common_steps, much.more)) refl refl out in (
      _,
      full_joined before c.args.piece.now after c.in-Ok.progress.read _
          (length c.args.out.now) c.args.so_far.now.read _ _ _ _ _
          f r.read c.if-progress-piece.true much (grind (arith, common_steps)) e refl,
      there.0,
      there.1,
    )

pub returns-else-progress-piece-clause-bytes : goal.returns-else-progress-piece-clause-bytes
returns-else-progress-piece-clause-bytes c = all_bytes _ c.type_inv.piece

pub returns-in-Err-clause-bytes : goal.returns-in-Err-clause-bytes
returns-in-Err-clause-bytes c = all_bytes _ c.type_inv.piece

pub returns-else-progress-piece-clause-behind : goal.returns-else-progress-piece-clause-behind
returns-else-progress-piece-clause-behind c =
    let r = c.in-Ok.ensures.read in
    part_dropped c.args.so_far.now.written _ c.in-Ok.progress.written c.args.out.now c.decode.new.out
    c.requires.fits refl
    (grind (arith, common_steps)) (grind (arith, common_steps)) r.behind

pub returns-else-progress-piece-clause-read : goal.returns-else-progress-piece-clause-read
returns-else-progress-piece-clause-read c = λ x r.
    let e = c.in-Ok.ensures.read in
    let all : take c.in-Ok.progress.read c.args.piece.now ≡ c.args.piece.now = grind (arith, common_steps) in
    rw (part_taken c.args.so_far.now.written _ c.in-Ok.progress.written c.args.out.now c.decode.new.out
    c.requires.fits refl
    (grind (arith, common_steps)) (grind (arith, common_steps)))
    (read_on x _ c.args.decoder.now _ _ _ r (rw all at e.read))

pub returns-in-Err-clause-failed : goal.returns-in-Err-clause-failed
returns-in-Err-clause-failed c = λ a after e f.
    let r = c.in-Err.ensures.before in
    let w = c.args.so_far.now.written in
    let n = c.in-Err.end.written in
    let o = c.args.out.now in
    let y = c.decode.new.out in
    let len : length (take w o ++ take n y) ≡ w + n = grind (arith, common_steps, r.fits) in (
      _,
      end_joined a c.args.piece.now after c.in-Err.end.read _ (length o) c.args.so_far.now.read _ _ _ _ _
          f r.read c.in-Err.ensures.end (grind (arith, common_steps)) e refl (grind (arith, common_steps)),
      omega (arith, len),
      by_front (w + n) _ o _ len
          (part_taken w _ n o y c.requires.fits refl (grind (arith, common_steps)) (grind (arith, common_steps)))
          (part_dropped w _ n o y c.requires.fits refl (grind (arith, common_steps))
          (grind (arith, common_steps)) r.behind),
    )
