-- What is known of the allocator: a request for memory was granted or refused. No contract can say when memory is
-- short, so both words hold of every number. But they are sealed: they can't be unfolded outside of this file, so a
-- proof has `Granted n` or `Refused n` only from a call that says so. Such a chain of calls ends at a function that
-- cites one of the two lemmas. These are the functions of the modules `memory` that call the allocator.
--
-- So a clause with one of these words says of the code that it asked for memory for n items, and what it was answered.
-- It isn't a fact about the machine: that the allocator had no memory isn't proved.
use Rattle.std.specs.Prelude.{ℕ, ⊤}

-- a request for memory for n items was granted; an item is a byte unless a clause says otherwise
pub Granted : ℕ → Type 0
Granted n = ⊤

-- such a request was refused
pub Refused : ℕ → Type 0
Refused n = ⊤

pub may_grant : (n : ℕ) → Granted n
unfolding Granted
may_grant n = tt

pub may_refuse : (n : ℕ) → Refused n
unfolding Refused
may_refuse n = tt

-- some request for memory was refused
abbrev pub WasRefused : Type 0
WasRefused = (n : ℕ) × Refused n
