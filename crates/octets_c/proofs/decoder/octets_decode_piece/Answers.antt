use Rattle.std.proofs.Common.{◌≡◌, ℕ, [], refl}
use Rattle.octets_code.specs.Bits.{bits_of}
use Rattle.octets_code.specs.States.{row, row_of_state, state_rows, path}
use Rattle.octets_c.proofs.decoder.octets_decode_piece.Goals as goal

-- no bits were read yet
starts : (n : ℕ) → n ≡ 0 → path n ≡ []
unfolding path row_of_state state_rows row bits_of
starts n e = rw e refl

pub returns-then-bytes-off-clause-starts : goal.returns-then-bytes-off-clause-starts
returns-then-bytes-off-clause-starts c = starts _

pub returns-then-piece-eq1-clause-starts : goal.returns-then-piece-eq1-clause-starts
returns-then-piece-eq1-clause-starts c = starts _

pub returns-else-piece-eq1-clause-starts : goal.returns-else-piece-eq1-clause-starts
returns-else-piece-eq1-clause-starts c = starts _
