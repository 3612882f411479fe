-- Results of calls that allocate.
use Rattle.std.proofs.Common.{ℕ, Bool, true, false, List, Result, Ok, Err}
use Rattle.octets.specs.Requests.{WasRefused}
use Rattle.octets_literal.specs.Faults.{IsRefused, NeedMemory}
use Rattle.octets_literal.specs.declared.error.LiteralError.TheVariants.{OutOfMemory}
use Rattle.octets_tool.specs.Requests.{OrRefused}

-- what holds of the value holds in other words
pub or_refused : {A E : Type 0} (r : Result A E) (P Q : A → Type 0) → ((v : A) → P v → Q v) → OrRefused r P
    → OrRefused r Q
or_refused (Ok v) P Q goes h = goes v h
or_refused (Err e) P Q goes refused = refused

needed : (m : ℕ) (huffman : Bool) (d : List ℕ) → NeedMemory m huffman d → WasRefused
unfolding NeedMemory
needed m true d h = (_, h.2)
needed m false d h = (_, h.2)

-- a read of a literal that failed for memory was refused memory
pub for_literal : (l : List ℕ) (m : ℕ) → IsRefused l m OutOfMemory → WasRefused
unfolding IsRefused
for_literal l m h = needed m _ _ h.is_so
