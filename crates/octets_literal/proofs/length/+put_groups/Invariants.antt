use Rattle.octets_literal.proofs.length.+put_groups.Given as goal

abbrev pub decreases-put_groups : goal.decreases-put_groups
decreases-put_groups g l = l.number
