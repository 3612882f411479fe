-- What a list of commands replies, and what it leaves of a byte list l with a position p.
use Rattle.std.specs.Prelude.{◌≡◌, ◌⊎◌, ℕ, ◌<◌, ◌+◌, List, [], ◌∷◌, length}
use Rattle.octets_script.specs.Calls.{Call, Decode, Answer, Done, Number, Bytes, Two, Short, Overlong}
pub use Rattle.octets.specs.Steps.{Outcome, ends, short, bytes_left, needs, written_over, gets_number, peeks_bytes}
pub use Rattle.octets.specs.Steps.{gets_bytes, gets_behind, gets_prefixed, lends_passed, lends, lends_last}
pub use Rattle.octets.specs.Steps.{lends_rest, puts, puts_bytes, puts_text, splits, Step, step, ComesTo, Performs}
pub use Rattle.octets.specs.Steps.{always, by_varint, by_decode}

-- The commands on l at p have the replies rs, and leave l' at p'. The first command has its outcome, and the others
-- follow on what it leaves.
abbrev pub Plays : List Call → List ℕ → ℕ → List Answer → List ℕ → ℕ → Type 0
Plays [] l p [] l' p' = (l' ≡ l) × (p' ≡ p)
Plays [] l p (r ∷ rs) l' p' = ⊥
Plays (c ∷ cs) l p [] l' p' = ⊥
Plays (c ∷ cs) l p (r ∷ rs) l' p' =
    (o : Outcome) × Performs c l p o × (r ≡ o.reply) × Plays cs o.bytes o.position rs l' p'

-- the reply holds at least one byte
abbrev pub HoldsByte : Answer → Type 0
HoldsByte Done = ⊥
HoldsByte (Number n) = ⊥
HoldsByte (Bytes b) = 0 < length b
HoldsByte (Two b c) = 0 < length b + length c
HoldsByte Short = ⊥
HoldsByte Overlong = ⊥

-- the command is a decode under a limit above 0, and n bytes remain, which isn't 0
abbrev pub MayAnswer : Call → ℕ → Type 0
MayAnswer (Decode m) n = (0 < m) × (0 < n)
MayAnswer _ n = ⊥

-- the command on l at p needs memory: its reply holds a byte, or it is a decode that allocates before it reads
abbrev pub NeedsRoom : Call → List ℕ → ℕ → Type 0
NeedsRoom c l p = ((o : Outcome) × Performs c l p o × HoldsByte o.reply) ⊎ MayAnswer c (bytes_left l p)
