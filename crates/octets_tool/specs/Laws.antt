-- An input spells one script, or has one first line that breaks a rule; and each task has one output for an input.
use Rattle.std.specs.Prelude.{◌≡◌, ◌⊎◌, ℕ, List}
use Rattle.octets.specs.Bytes.{AreBytes}
use Rattle.octets_script.specs.Calls.{Call}
use Rattle.octets_tool.specs.declared.arguments.Task.{Task}
use Rattle.octets_tool.specs.Commands.{said, MayBeSpelled, spelled}
use Rattle.octets_tool.specs.Output.{Output, IsOutput}
use Rattle.octets_tool.specs.Scripts.{ScriptText, MayBeWritten, script_text, IsScript, IsFaultLine}

-- the name of a command determines the kinds of the values after it
abbrev pub NamesAreApart : Type 0
NamesAreApart = (c d : Call) → (said c).name ≡ (said d).name → (said c).kinds ≡ (said d).kinds

-- two different commands have different lines
abbrev pub LinesAreApart : Type 0
LinesAreApart = (c d : Call) → MayBeSpelled c → MayBeSpelled d → spelled c ≡ spelled d → c ≡ d

-- the text of a script within the limits spells this script
abbrev pub TextIsScript : Type 0
TextIsScript = (s : ScriptText) → MayBeWritten s → IsScript (script_text s) s

-- an input spells a script, or has a first line that breaks a rule
abbrev pub ScriptOrFault : Type 0
ScriptOrFault = (input : List ℕ) → ((s : ScriptText) × IsScript input s) ⊎ ((n : ℕ) × IsFaultLine input n)

-- an input spells at most one script
abbrev pub ScriptsAreOne : Type 0
ScriptsAreOne = (input : List ℕ) (s t : ScriptText) → IsScript input s → IsScript input t → t ≡ s

-- if an input spells a script, none of its lines breaks a rule
abbrev pub ScriptHasNoFault : Type 0
ScriptHasNoFault = (input : List ℕ) (s : ScriptText) (n : ℕ) → IsScript input s → ¬ IsFaultLine input n

-- at most one line is the first that breaks a rule
abbrev pub FaultsAreOne : Type 0
FaultsAreOne = (input : List ℕ) (n m : ℕ) → IsFaultLine input n → IsFaultLine input m → m ≡ n

-- each task has an output for all bytes
abbrev pub EachHasAnOutput : Type 0
EachHasAnOutput = (task : Task) (input : List ℕ) → AreBytes input → (o : Output) × IsOutput task input o

-- no task has two outputs for the same bytes
abbrev pub OutputsAreOne : Type 0
OutputsAreOne = (task : Task) (input : List ℕ) (o p : Output) → AreBytes input → IsOutput task input o
    → IsOutput task input p → p ≡ o
