-- the bytes that the loop has passed were kept, and nothing else changed
use Rattle.std.proofs.Common.{◌≡◌, ◌+◌, ◌≤◌, vec_len, vec_capacity, length, take, ◌++◌}
use Rattle.octets_vectors.proofs.sinks.pieces.PieceSinkOctetsWriter.put_bytes.Given as goal

abbrev pub invariant-loop-byte : goal.invariant-loop-byte
invariant-loop-byte l = record {
  kept : l.self-inside.bytes.items ≡ l.fn.self.bytes ++ take l.byte-index l.v;
  count : vec_len l.self-inside.bytes ≡ length l.fn.self.bytes + l.byte-index;
  most_bytes : l.self-inside.most_bytes ≡ l.fn.self.most_bytes;
  most_pieces : l.self-inside.most_pieces ≡ l.fn.self.most_pieces;
  room : l.self-inside.most_bytes ≤ vec_capacity l.self-inside.bytes;
  pieces : l.self-inside.pieces ≡ l.initial.self-inside.pieces;
}
