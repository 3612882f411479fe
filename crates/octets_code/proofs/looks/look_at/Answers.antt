use Rattle.octets_code.proofs.LooksFit.{look_fits}
use Rattle.octets_code.proofs.looks.look_at.Goals as goal

-- src/looks.rt:19:1
pub returns : goal.returns
returns c = look_fits c.args.index c.requires
