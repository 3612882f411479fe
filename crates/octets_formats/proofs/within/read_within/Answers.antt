-- `read` was called with the view
use Rattle.octets_formats.proofs.within.read_within.Goals as goal

pub returns-clause-read : goal.returns-clause-read
returns-clause-read g c fits = (c.in_ok-view.view, c.in_ok-view.ensures.view, c.read.ensures)
