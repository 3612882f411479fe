-- What has come of a value.
use Rattle.std.specs.Prelude.{ℕ, ◌≤◌, List, length, take}
use Rattle.octets_code.specs.Texts.{bits}
use Rattle.octets_pieces.specs.Pieces.{AreRead}
use Rattle.header_value.specs.declared.HeaderValue.{HeaderValue}

-- the pieces that have come are t, joined, and what they complete is the beginning of the slice
pub record HasCome (t out : List ℕ) (value : HeaderValue) : Type 0 where
  pub within : value.len ≤ length out
  pub read : AreRead (bits t) (take value.len out) value.decoder
