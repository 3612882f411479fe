-- What a read of a length finds.
use Rattle.std.specs.Prelude.{◌≡◌, ℕ, ◌^◌, ◌<◌, ◌≤◌, List, length, take}
use Rattle.octets_literal.specs.Integers.{EndsOnce, grouped}
use Rattle.octets_literal.specs.Faults.{GoOn, EndsInLength, HasLongLength}
use Rattle.octets_literal.specs.declared.error.LiteralError.{LiteralError}
use Rattle.octets_literal.specs.declared.error.LiteralError.TheVariants.{Short, Length, Value, OutOfMemory}

-- the first k bytes of l are the groups of n, and k is at most `most`
pub record AreGroups (l : List ℕ) (most k n : ℕ) : Type 0 where
  pub within : k ≤ length l
  pub few : k ≤ most
  pub ends : EndsOnce (take k l)
  pub spells : n ≡ grouped (take k l)
  pub small : n < 128 ^ k

-- l doesn't begin with at most `most` groups: it ends within them, or another group follows
unfoldable pub HasNoGroups : List ℕ → ℕ → LiteralError → Type 0
HasNoGroups l most Short = (length l < most) × GoOn l
HasNoGroups l most Length = (most ≤ length l) × GoOn (take most l)
HasNoGroups l most Value = ⊥
HasNoGroups l most OutOfMemory = ⊥

-- l doesn't begin with a length, for the reason of this error
unfoldable pub HasNoLength : List ℕ → LiteralError → Type 0
HasNoLength l Short = EndsInLength l
HasNoLength l Length = HasLongLength l
HasNoLength l Value = ⊥
HasNoLength l OutOfMemory = ⊥
