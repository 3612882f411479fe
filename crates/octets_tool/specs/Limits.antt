-- The limits of the program.
use Rattle.std.specs.Prelude.{ℕ}

-- the greatest length of an input in bytes
abbrev pub most_input : ℕ
most_input = 65536

-- the greatest length of the buffer of a script in bytes
abbrev pub most_buffer : ℕ
most_buffer = 4096

-- the greatest number of commands of a script
abbrev pub most_commands : ℕ
most_commands = 4096

-- the greatest limit, position or number of bytes that a word may spell
abbrev pub most_count : ℕ
most_count = 4294967295
