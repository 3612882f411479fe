use Rattle.std.proofs.Common.{refl}
use Rattle.octets_code.specs.Bits.{bits_of}
use Rattle.octets_code.specs.States.{row, row_of_state, state_rows, path}
use Rattle.octets_pieces.proofs.decoder.Decoder.new.Goals as goal

pub returns : goal.returns
unfolding path row_of_state state_rows row bits_of
returns c = refl
