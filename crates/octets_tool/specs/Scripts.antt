-- The text of a script.
use Rattle.std.specs.Prelude.{◌≡◌, ◌⊎◌, ◌==◌, ℕ, zero, suc, ◌+◌, ◌<◌, ◌≤◌, if◌then◌else◌, List}
use Rattle.std.specs.Prelude.{[], ◌∷◌, ◌++◌, length, map, flat_map, codes, Result, Ok, Err, ⊤}
use Rattle.std.specs.List.{All, slice_split}
use Rattle.octets.specs.Bytes.{AreBytes}
use Rattle.octets_script.specs.Calls.{Call, call_of}
use Rattle.octets_tool.specs.Limits.{most_buffer, most_commands}
use Rattle.octets_tool.specs.declared.script.Script.{Script}
use Rattle.octets_tool.specs.declared.script.ScriptFault.{ScriptFault}
use Rattle.octets_tool.specs.declared.script.ScriptFault.TheVariants.{Line, Memory}
use Rattle.octets_tool.specs.Commands.{spelled, MayBeSpelled, IsLineOf}
use Rattle.octets_tool.specs.Lines.{hex, line}

-- a buffer and commands
pub record ScriptText : Type 0 where
  pub buffer : List ℕ
  pub commands : List Call

-- the first line of a script
abbrev pub buffer_line : List ℕ → List ℕ
buffer_line b = codes "buffer " ++ hex b

-- the lines of a script
abbrev pub script_lines : ScriptText → List (List ℕ)
script_lines s = buffer_line s.buffer ∷ map spelled s.commands

-- the text of a script: its lines, each with a line feed
abbrev pub script_text : ScriptText → List ℕ
script_text s = flat_map line (script_lines s)

-- the line is a first line of a script, for the buffer b
abbrev pub IsBufferLine : List ℕ → List ℕ → Type 0
IsBufferLine l b = AreBytes b × (length b ≤ most_buffer) × (l ≡ buffer_line b)

-- the script is within the limits
abbrev pub MayBeWritten : ScriptText → Type 0
MayBeWritten s = AreBytes s.buffer × (length s.buffer ≤ most_buffer) × (length s.commands ≤ most_commands)
    × All MayBeSpelled s.commands

-- the input is the text of the script, with or without the last line feed
abbrev pub IsScript : List ℕ → ScriptText → Type 0
IsScript input s = MayBeWritten s × ((input ≡ script_text s) ⊎ (input ++ codes "\n" ≡ script_text s))

-- The first line that breaks a rule.

-- an input without the line feed that ends its last line
abbrev pub unended : List ℕ → List ℕ
unended [] = []
unended (b ∷ []) = if b == 10 then [] else b ∷ []
unended (b ∷ c ∷ bs) = b ∷ unended (c ∷ bs)

-- the lines of an input, of which there is at least one
abbrev pub lines_of : List ℕ → List (List ℕ)
lines_of input = slice_split (λ b. b == 10) (unended input)

-- the line l follows the rules after k other lines
abbrev pub MayStand : ℕ → List ℕ → Type 0
MayStand zero l = (b : List ℕ) × IsBufferLine l b
MayStand (suc k) l = (k < most_commands) × ((c : Call) × IsLineOf l c)

-- all these lines follow the rules after k other lines
abbrev pub AllStand : ℕ → List (List ℕ) → Type 0
AllStand k [] = ⊤
AllStand k (l ∷ ls) = MayStand k l × AllStand (suc k) ls

-- line n, counted from 1, is the first that breaks a rule
abbrev pub IsFaultLine : List ℕ → ℕ → Type 0
IsFaultLine input n =
    (front : List (List ℕ)) × (l : List ℕ) × (after : List (List ℕ))
    × (lines_of input ≡ front ++ l ∷ after) × AllStand 0 front × (¬ MayStand (length front) l) × (n ≡ length front + 1)

-- a result, with its script as lists
abbrev pub shown : Result Script ScriptFault → Result ScriptText ScriptFault
shown (Ok s) = Ok (record { buffer = s.buffer.items; commands = map call_of s.commands.items })
shown (Err fault) = Err fault

-- P holds unless an allocation failed
abbrev pub UnlessMemory : Result Script ScriptFault → Type 0 → Type 0
UnlessMemory (Ok s) P = P
UnlessMemory (Err (Line n)) P = P
UnlessMemory (Err Memory) P = ⊤
