use Rattle.std.proofs.Common.{arith}
use Rattle.octets.proofs.lemmas.Stopping.{no_room, no_text, no_text_full, inside_text}
use Rattle.octets.proofs.huffman.decode.fault.first_fault.Goals as goal

pub begins_byte-requires : goal.begins_byte-requires
begins_byte-requires c = record { inside = inside_text _ _ _ _ c.requires.read c.bit_len.ensures.bits }

pub returns-then-written-room : goal.returns-then-written-room
returns-then-written-room c = no_text _ _ _ c.requires.read (λ e. omega arith)

pub returns-then-begins_byte : goal.returns-then-begins_byte
returns-then-begins_byte c =
    no_room _ _ _ _ c.requires.read (omega arith) c.bit_len.ensures.bits (grind arith)

pub returns-else-begins_byte : goal.returns-else-begins_byte
returns-else-begins_byte c = no_text_full _ _ _ _ c.requires.read c.bit_len.ensures.bits (grind arith)
