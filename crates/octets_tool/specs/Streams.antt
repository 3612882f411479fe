-- What was read, and what a run writes, for readers and writers whose bytes are known to contracts.
use Rattle.std.specs.Prelude.{ℕ, ◌<◌, List, length, Option}
use Rattle.std.specs.Io.KnownBytes.{Appends, Consumes}
use Rattle.octets_tool.specs.declared.output.Status.{Status}
use Rattle.octets_tool.specs.declared.arguments.Task.{Task}
use Rattle.octets_tool.specs.Output.{IsOutput}

-- more than n bytes were read
abbrev pub ReadsMoreThan : ℕ → Option (List ℕ) → Option (List ℕ) → Type 0
ReadsMoreThan n old new = (input : List ℕ) × (n < length input) × Consumes old new input

-- the output of the task for the input has this status, and its text was written
abbrev pub WritesOutput : Task → List ℕ → Status → Option (List ℕ) → Option (List ℕ) → Type 0
WritesOutput task input status old new =
    (text : List ℕ) × IsOutput task input (record { text = text; status = status }) × Appends old new text
