use Rattle.std.proofs.Common.{◌≡◌, take, length, arith, refl}
use Rattle.std.proofs.lemmas.Grind.{common_steps}
use Rattle.octets_code.proofs.ByteBits.{bits-append}
use Rattle.octets_pieces.proofs.Joins.{read_on, part_taken, full_joined, end_joined, other}
use Rattle.header_value.proofs.add_piece.Goals as goal

pub returns-in_default-clause-refused : goal.returns-in_default-clause-refused
returns-in_default-clause-refused c = λ t more h.
    let e = c.in_default.ensures in
    let fails = end_joined t c.args.piece.now more c.in_default.field-0.read _ (length c.args.out.now)
    (length t) _ _ _ _ _
    h.read e.before.read e.end (grind (arith, common_steps, h.within, e.before.fits)) refl refl refl in
    fails.refusal.0

pub returns-then-progress-piece-clause-refused : goal.returns-then-progress-piece-clause-refused
returns-then-progress-piece-clause-refused c = λ t more h.
    let e = c.in-Ok.ensures in
    let stop = other _ _ _ c.if-progress-piece.true e.stopped in
    let fails = full_joined t c.args.piece.now more c.in-Ok.progress.read _ (length c.args.out.now) (length t) _ _ _ _ _
    h.read e.read.read c.if-progress-piece.true stop.1 (grind (arith, common_steps, h.within, e.read.fits)) refl refl in
    fails.refusal.0

pub returns-clause-come : goal.returns-clause-come
returns-clause-come c = λ t h.
    let r = c.in-Ok.ensures.read in
    let all : take c.in-Ok.progress.read c.args.piece.now ≡ c.args.piece.now = grind (arith, common_steps) in record {
      within = grind (arith, common_steps, h.within, r.fits);
      read = rw (
        bits-append,
        part_taken c.args.value.now.len _ c.in-Ok.progress.written c.args.out.now c.decode.new.out
            c.requires.fits refl (grind (arith, common_steps)) (grind (arith, common_steps)),
      )
          (read_on _ _ _ _ _ _ h.read (rw all at r.read));
    }
