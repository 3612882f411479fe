-- How the program ends: its exit status, and its line on standard error.
use Rattle.std.specs.Prelude.{ℕ, List, [], codes, Option, Some, None, Result, Ok, Err}
use Rattle.octets_tool.specs.declared.output.Status.{Status}
use Rattle.octets_tool.specs.declared.output.Status.TheVariants.{Answered, Refused}
use Rattle.octets_tool.specs.declared.fault.RunFault.{RunFault}
use Rattle.octets_tool.specs.declared.fault.RunFault.TheVariants.{Read, Write, TooLong, Memory}

-- 0 if the command succeeded, 1 if it refused the input, and 2 after a fault or if the words aren't a command
abbrev pub exit_status : Option (Result Status RunFault) → ℕ
exit_status (Some (Ok Answered)) = 0
exit_status (Some (Ok Refused)) = 1
exit_status (Some (Err fault)) = 2
exit_status None = 2

-- the line on standard error, which is empty if there is no fault
abbrev pub error_line : Option (Result Status RunFault) → List ℕ
error_line (Some (Ok status)) = []
error_line (Some (Err Read)) = codes "read failed"
error_line (Some (Err Write)) = codes "write failed"
error_line (Some (Err TooLong)) = codes "input too long"
error_line (Some (Err Memory)) = codes "out of memory"
error_line None = codes "usage: octets_tool COMMAND [LIMIT]"
