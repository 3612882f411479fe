-- as many bytes were written as the loop has passed
use Rattle.std.proofs.Common.{◌≡◌, ◌+◌, length, take, drop, ◌++◌}
use Rattle.octets_vectors.proofs.sinks.byte_at_a_time.ByteAtATimeSinkOctetsWriter.put_bytes.Given as goal

abbrev pub invariant-loop-byte : goal.invariant-loop-byte
invariant-loop-byte l = record {
  off : l.self.off ≡ l.fn.self.off + l.byte-index;
  same : length l.self.buf.now ≡ length l.fn.self.buf.now;
  written : take l.self.off l.self.buf.now ≡ take l.fn.self.off l.fn.self.buf.now ++ take l.byte-index l.v;
  beyond : drop l.self.off l.self.buf.now ≡ drop l.self.off l.fn.self.buf.now;
  name : l.self.buf.ghost_name ≡ l.fn.self.buf.ghost_name;
}
