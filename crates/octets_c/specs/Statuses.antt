-- The statuses that the exported functions return, with their names in octets.h.
use Rattle.std.specs.Prelude.{ℕ}

-- the call succeeded
abbrev pub done : ℕ
done = 0

-- too few bytes remain, or too little space; or a text is longer than its value
abbrev pub short : ℕ
short = 1

-- a varint is wider than its value needs
abbrev pub overlong : ℕ
overlong = 2

-- no varint holds the number, or no varint of that width does
abbrev pub unfit : ℕ
unfit = 3

-- a reader doesn't take the length of a literal, or a value has more bytes than any that is written
abbrev pub long : ℕ
long = 4

-- the bytes aren't a Huffman text
abbrev pub not_text : ℕ
not_text = 5

-- a value has more bytes than the caller's buffer
abbrev pub no_room : ℕ
no_room = 6
