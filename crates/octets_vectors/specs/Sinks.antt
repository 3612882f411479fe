-- What the contracts of the sinks are stated in.
use Rattle.std.specs.Prelude.{ℕ, ◌-◌, List, length, take}
use base.Fml.{GName}
use Rattle.octets_vectors.specs.declared.sinks.byte_at_a_time.ByteAtATimeSink.{ByteAtATimeSink}

-- the buffer of a sink over one
abbrev pub buffer : ByteAtATimeSink → List ℕ
buffer s = s.buf.now

-- how many bytes of the buffer were written
abbrev pub count : ByteAtATimeSink → ℕ
count s = s.off

-- the bytes that were written
abbrev pub front : ByteAtATimeSink → List ℕ
front s = take (count s) (buffer s)

-- how many more bytes fit
abbrev pub room : ByteAtATimeSink → ℕ
room s = length (buffer s) - count s

-- the name of the caller's slice, which is the buffer
abbrev pub reference : ByteAtATimeSink → GName
reference s = s.buf.ghost_name

-- the pieces that a sink holds, and its limits
pub record Pieces : Type 0 where
  pub bytes : List ℕ
  pub lengths : List ℕ
  pub most_bytes : ℕ
  pub most_pieces : ℕ
