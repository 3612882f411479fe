-- What a decode returns.
use Rattle.std.specs.Prelude.{ℕ, List, Result, Ok, Err, ⊤}
use Rattle.octets.specs.declared.error.DecodeError.{DecodeError}
use Rattle.octets.specs.declared.error.DecodeError.TheVariants.{Short, Memory}
use Rattle.octets.specs.Decodes.{WhereText}

-- the decode failed with Short
abbrev pub IsShort : {A : Type 0} → Result A DecodeError → Type 0
IsShort (Ok v) = ⊥
IsShort (Err (Short e)) = ⊤
IsShort (Err (Memory e)) = ⊥

-- t is the text of no value
abbrev pub IsNoText : List ℕ → Type 0
IsNoText t = WhereText t (λ v. ⊥)
