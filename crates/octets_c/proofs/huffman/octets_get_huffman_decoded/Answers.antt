use Rattle.octets_c.proofs.Places.{rest_at, refused_at}
use Rattle.octets_c.proofs.huffman.octets_get_huffman_decoded.Goals as goal

pub returns-in-Err-clause-every : goal.returns-in-Err-clause-every
returns-in-Err-clause-every c =
    λ v _ a. absurd (c.in-Err.ensures.every v
    (rw (rest_at c.in-Ok.cursor _ _ c.in-Ok.ensures.stands) a))

pub returns-in-Err-clause-refused : goal.returns-in-Err-clause-refused
returns-in-Err-clause-refused c =
    λ _ _. refused_at c.in-Ok.cursor c.get_huffman_decoded_into-answer.new.self _ _ _ _ c.in-Ok.ensures.stands
    c.off.ensures.position c.in-Err.ensures.refused
