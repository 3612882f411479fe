use Rattle.std.proofs.Common.{ℕ, ◌<◌}
use Rattle.octets_code.specs.Codes.{HasCode}
use Rattle.octets_code.proofs.symbols.lookup.Given as goal

abbrev pub invariant-loop-symbol : goal.invariant-loop-symbol
invariant-loop-symbol l = (s : ℕ) → s < l.symbol → HasCode s l.len l.bits → ⊥
