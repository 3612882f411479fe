-- The whole input was read, so what the reader had is what was read.
use Rattle.std.proofs.Common.{ℕ, List, ◌++◌, Option, Some, None, IfSome, arith, sym, subst, ap, ◌∙◌, append-nil}
use Rattle.std.specs.Io.KnownBytes.{Consumes, IsAtEnd}
use Rattle.octets_tool.proofs.run.run.Goals as goal

-- what holds of the bytes that were read up to the end holds of the bytes that the reader had
at_end : (old new : Option (List ℕ)) (xs : List ℕ) (P : List ℕ → Type 0) → Consumes old new xs → IsAtEnd new → P xs
    → IfSome old P
at_end None new xs P h e p = tt
at_end (Some ys) None xs P h e p = absurd h
at_end (Some ys) (Some zs) xs P h e p = subst P (sym (h ∙ ap (λ z. xs ++ z) e ∙ append-nil xs)) p

pub returns-in-Ok-clause-used_up : goal.returns-in-Ok-clause-used_up
returns-in-Ok-clause-used_up g c = let read = c.in_ok-input.ensures in at_end _ _ _ _ read.whole read.ended read.whole

pub returns-in-Ok-clause-within : goal.returns-in-Ok-clause-within
returns-in-Ok-clause-within g c = let read = c.in_ok-input.ensures in at_end _ _ _ _ read.whole read.ended
    (omega (arith, read.within, c.in_ok-input.input.ok))

pub returns-in-Ok-clause-output : goal.returns-in-Ok-clause-output
returns-in-Ok-clause-output g c = let read = c.in_ok-input.ensures in
    at_end _ _ _ _ read.whole read.ended (
      _,
      rw c.deref.ensures.value at c.in_ok-output.ensures,
      rw c.as_bytes.ensures.value at c.in-Ok.ensures.bytes,
    )
