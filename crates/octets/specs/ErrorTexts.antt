-- The messages of the errors.
use Rattle.std.specs.Prelude.{ℕ, List, codes}
use Rattle.octets.specs.declared.error.DecodeError.{DecodeError}
use Rattle.octets.specs.declared.error.DecodeError.TheVariants as Decode
use Rattle.octets.specs.declared.error.IntoError.{IntoError}
use Rattle.octets.specs.declared.error.IntoError.TheVariants as Into
use Rattle.octets.specs.declared.error.VarintError.{VarintError}
use Rattle.octets.specs.declared.error.VarintError.TheVariants as Varint

-- the message of an error of a decode
abbrev pub decode_error_text : DecodeError → List ℕ
decode_error_text (Decode.Short e) = codes "the bytes are no Huffman text of a value within the limit"
decode_error_text (Decode.Memory e) = codes "out of memory"

-- the message of an error of a read of a varint in its least width
abbrev pub varint_error_text : VarintError → List ℕ
varint_error_text Varint.Short = codes "fewer bytes remain than the varint has"
varint_error_text Varint.Overlong = codes "the varint is wider than its value needs"

-- the message of an error of a decode into a slice
abbrev pub into_error_text : IntoError → List ℕ
into_error_text (Into.NotText n) = codes "the bytes are no Huffman text"
into_error_text Into.NoRoom = codes "the value is longer than the slice"
