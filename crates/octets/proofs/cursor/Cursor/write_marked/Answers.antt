use Rattle.std.proofs.Common.{◌%◌}
use Rattle.std.specs.Int.Bits.{or_zero_r}
use Rattle.octets.proofs.cursor.Cursor.write_marked.Goals as goal

pub returns-in-1-clause-writes : goal.returns-in-1-clause-writes
returns-in-1-clause-writes g c = rw (c.in-1.is, or_zero_r (c.args.v % 256)) c.write_u8.ensures.writes

pub returns-in-1-clause-bytes : goal.returns-in-1-clause-bytes
returns-in-1-clause-bytes g c = rw (c.in-1.is, or_zero_r (c.args.v % 256)) c.write_u8.ensures.bytes
