-- `look` was called with the view
use Rattle.std.proofs.Common.{refl}
use Rattle.octets_vectors.proofs.laws.moves.get_bytes_and_rewind_mut.Goals as goal

pub returns-clause-shown : goal.returns-clause-shown
returns-clause-shown g c = (c.in_ok-view.view, c.in_ok-view.ensures.view, (_, c.look-seen.ensures, refl))
