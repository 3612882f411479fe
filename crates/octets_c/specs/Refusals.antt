-- The statuses of failed decodes and of failed reads of literals.
use Rattle.std.specs.Prelude.{◌≡◌, ◌⊎◌, ℕ, Bool, List, ◌++◌, drop, length}
use Rattle.octets.specs.Reading.{IsReadBefore}
use Rattle.octets.specs.Stops.{IsStoppedBy}
use Rattle.octets.specs.declared.error.IntoError.{IntoError}
use Rattle.octets.specs.declared.error.IntoError.TheVariants.{NotText, NoRoom}
use Rattle.octets_literal.specs.Faults.{IsRefused}
use Rattle.octets_literal.specs.Values.{IsFaultOf}
use Rattle.octets_literal.specs.declared.error.LiteralError.{LiteralError}
use Rattle.octets_literal.specs.declared.error.LiteralError.TheVariants.{Short, Length, Value, OutOfMemory}
use Rattle.octets_literal.specs.declared.error.ValueError.{ValueError}
use Rattle.octets_literal.specs.declared.error.ValueError.TheVariants.{Text, Long}
use Rattle.octets_c.specs.Statuses.{short, long, not_text, no_room}

-- the status for what stopped a decode
abbrev pub status_of_stop : IntoError → ℕ
status_of_stop (NotText n) = not_text
status_of_stop NoRoom = no_room

-- how many bytes a decode into m bytes had written when it stopped
abbrev pub written_at : IntoError → ℕ → ℕ
written_at (NotText n) m = n
written_at NoRoom m = m

-- A decode of the text t over the bytes old stopped, and left the bytes new. The status says what stopped it, and n
-- how many bytes it had written.
abbrev pub TellsStop : ℕ → ℕ → List ℕ → List ℕ → List ℕ → Type 0
TellsStop status n t old new =
    (why : IntoError) × (v : List ℕ) × IsReadBefore v t (length old) × IsStoppedBy why v t (length old)
    × (new ≡ v ++ drop (length v) old) × (status ≡ status_of_stop why) × (n ≡ written_at why (length old))

-- the status for a fault of a value
abbrev pub status_of_fault : ValueError → ℕ
status_of_fault (Text e) = status_of_stop e
status_of_fault Long = no_room

abbrev pub written_by : ValueError → ℕ → ℕ
written_by (Text e) m = written_at e m
written_by Long m = 0

-- The data d, which are a text if huffman is true, have no value that fits into old, and old became new. The status
-- says the fault, and n how many bytes were written.
abbrev pub TellsFault : ℕ → ℕ → Bool → List ℕ → List ℕ → List ℕ → Type 0
TellsFault status n huffman d old new =
    (why : ValueError) × IsFaultOf why huffman d old new × (status ≡ status_of_fault why)
    × (n ≡ written_by why (length old))

-- the status is one for this error; no status is one for OutOfMemory
abbrev pub HasStatus : ℕ → LiteralError → Type 0
HasStatus status Short = status ≡ short
HasStatus status Length = status ≡ long
HasStatus status Value = (status ≡ not_text) ⊎ (status ≡ no_room)
HasStatus status OutOfMemory = ⊥

-- l doesn't begin with a literal of a value of at most m bytes, and the status is the one for its first fault
abbrev pub RefusesLiteral : List ℕ → ℕ → ℕ → Type 0
RefusesLiteral l m status = (why : LiteralError) × IsRefused l m why × HasStatus status why
