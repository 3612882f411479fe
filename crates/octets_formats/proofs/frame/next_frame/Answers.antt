use Rattle.octets_formats.proofs.frame.next_frame.Goals as goal

-- a frame at the offset was read
pub returns-in_ok-rewind-clause-every : goal.returns-in_ok-rewind-clause-every
returns-in_ok-rewind-clause-every c = λ kind n payload begins.
    (c.read_frame-frame.ensures.every kind n payload begins).0

pub returns-else-is_err-clause-every : goal.returns-else-is_err-clause-every
returns-else-is_err-clause-every c = λ kind n payload begins. (c.read_frame-frame.ensures.every kind n payload begins).0
