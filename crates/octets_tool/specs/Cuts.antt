-- A text that is cut at a byte.
use Rattle.std.specs.Prelude.{ℕ, ◌==◌, List, [], Option, Some, None}
use Rattle.std.specs.Borrow.{Bor}
use Rattle.std.specs.List.{slice_split}

-- the pieces of a text between the bytes that are equal to `byte`; no text has no pieces
abbrev pub parts_of : ℕ → Option (Bor (List ℕ)) → List (List ℕ)
parts_of byte None = []
parts_of byte (Some text) = slice_split (λ b. b == byte) text.now
