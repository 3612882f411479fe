-- The words of a command line.
use Rattle.std.specs.Prelude.{◌≡◌, ℕ, ◌≤◌, List, [], ◌∷◌, codes, ⊤}
use Rattle.std.specs.Fmt.{decimal}
use Rattle.octets_tool.specs.declared.arguments.Task.{Task}
use Rattle.octets_tool.specs.declared.arguments.Task.TheVariants.{Packet, Packet2, Encode, EncodeLower}
use Rattle.octets_tool.specs.declared.arguments.Task.TheVariants.{Decode, Literal, Script}
use Rattle.octets_tool.specs.Limits.{most_count}

-- the words of the command line for a task
abbrev pub words_of : Task → List (List ℕ)
words_of Packet = codes "packet" ∷ []
words_of Packet2 = codes "packet2" ∷ []
words_of Encode = codes "encode" ∷ []
words_of EncodeLower = codes "encode-lower" ∷ []
words_of Script = codes "script" ∷ []
words_of (Decode limit) = codes "decode" ∷ decimal limit ∷ []
words_of (Literal limit) = codes "string" ∷ decimal limit ∷ []

-- the limit of the task is one that a word may spell
abbrev pub IsWithinLimits : Task → Type 0
IsWithinLimits (Decode limit) = limit ≤ most_count
IsWithinLimits (Literal limit) = limit ≤ most_count
IsWithinLimits _ = ⊤

-- the words of the command line are those of the task
abbrev pub IsCommandLine : List (List ℕ) → Task → Type 0
IsCommandLine words task = IsWithinLimits task × (words ≡ words_of task)
