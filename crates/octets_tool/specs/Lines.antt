-- The text of an output: hexadecimal bytes and decimal numbers, in lines that end with a line feed.
use Rattle.std.specs.Prelude.{ℕ, ◌/◌, ◌%◌, List, [], ◌∷◌, ◌++◌, codes, slice_index, flat_map}

-- a hexadecimal digit, with lower-case letters
abbrev pub hex_digit : ℕ → ℕ
hex_digit value = slice_index (codes "0123456789abcdef") value

-- the two digits of a byte, the higher four bits first
abbrev pub byte_digits : ℕ → List ℕ
byte_digits byte = hex_digit (byte / 16) ∷ hex_digit (byte % 16) ∷ []

-- two digits for each byte, and `-` for no bytes
abbrev pub hex : List ℕ → List ℕ
hex [] = codes "-"
hex (byte ∷ bytes) = byte_digits byte ++ flat_map byte_digits bytes

-- a text and the line feed that ends it
abbrev pub line : List ℕ → List ℕ
line text = text ++ codes "\n"
