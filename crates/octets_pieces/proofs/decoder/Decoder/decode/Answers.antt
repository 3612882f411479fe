use Rattle.std.proofs.Common.{arith, sym}
use Rattle.octets_code.proofs.Walks.{path_open}
use Rattle.octets_pieces.proofs.ByteReads.{begun, grown_by}
use Rattle.octets_pieces.proofs.decoder.Decoder.decode.Goals as goal

pub loop-read-init : goal.loop-read-init
loop-read-init c = record {
  has = begun _ _ _ _ (sym c.self.view_is) (path_open _ c.self.invariant);
  few = omega arith;
  state = c.self.invariant;
}

pub loop-read-preserved : goal.loop-read-preserved
loop-read-preserved c =
    let i = c.loop-read.invariant in
    let step = c.in-Some.ensures in
    let put = c.put_step.ensures in
    let done = c.if-not-put_step.false in record {
      has = grown_by _ _ _ _ _ _ _ _ _ _ _ _ c.loop-read-test.true i.has step.step step.few c.loop-read.auto.out
          (put.fits done) (put.taken done) (put.behind done);
      few = omega (arith, i.few, step.few);
      state = omega arith;
    }
