-- What a call that allocates returns.
use Rattle.std.specs.Prelude.{ℕ, Result, Ok, Err, ⊤}
use Rattle.octets.specs.Requests.{WasRefused}
use Rattle.octets_tool.specs.declared.script.Script.{Script}
use Rattle.octets_tool.specs.declared.script.ScriptFault.{ScriptFault}
use Rattle.octets_tool.specs.declared.script.ScriptFault.TheVariants.{Line, Memory}

-- P of the value, or a request for memory was refused
abbrev pub OrRefused : {A E : Type 0} → Result A E → (A → Type 0) → Type 0
OrRefused (Ok v) P = P v
OrRefused (Err e) P = WasRefused

-- a request for memory was refused, if the script wasn't read because an allocation failed
abbrev pub OnMemory : Result Script ScriptFault → Type 0
OnMemory (Ok s) = ⊤
OnMemory (Err (Line n)) = ⊤
OnMemory (Err Memory) = WasRefused
