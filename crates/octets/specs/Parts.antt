-- Which range of a buffer is lent, and what the cursor is during the loan.
use Rattle.std.specs.Prelude.{◌≡◌, ◌+◌, ◌≤◌, ℕ, List, [], length}
use Rattle.std.specs.declared.result.Result.{Result}
use Rattle.std.specs.declared.result.Result.TheVariants.{Ok, Err}
use Rattle.octets.specs.Bytes.{part, splice}
use Rattle.octets.specs.declared.cursor.writable.loans.parts.Part.{Part}
use Rattle.octets.specs.Cursor.{bytes, position}
use Rattle.octets.specs.Loans.{SliceCursor}

-- the range lies within the bytes l
abbrev pub IsWithin : Part → List ℕ → Type 0
IsWithin p l = p.from + p.len ≤ length l

-- where the range begins, if there is one
abbrev pub from_of : {E : Type 0} → Result Part E → ℕ
from_of (Ok p) = p.from
from_of (Err e) = 0

-- the bytes of l in the range, if there is one
abbrev pub the_part : {E : Type 0} → Result Part E → List ℕ → List ℕ
the_part (Ok p) l = part l p.from p.len
the_part (Err e) l = []

-- If there is a range, it is the n bytes at position i, the buffer holds l, and the cursor's position is
-- o. If there is none, the cursor is unchanged.
abbrev pub Leaves : {E : Type 0} → SliceCursor → SliceCursor → Result Part E → List ℕ → ℕ → ℕ → ℕ → Type 0
Leaves old new (Ok p) l i n o = (p.from ≡ i) × (p.len ≡ n) × (i + n ≤ length l) × (o ≤ length l)
    × (new.buf ≡ record old.buf { now = l }) × (new.off ≡ o)
Leaves old new (Err e) l i n o = (new.buf ≡ old.buf) × (new.off ≡ old.off)

-- If there is a range, it has the n bytes b, which were written at the old position, and the cursor is
-- past them.
abbrev pub LeavesPut : {E : Type 0} → SliceCursor → SliceCursor → Result Part E → List ℕ → ℕ → Type 0
LeavesPut old new r b n = Leaves old new r (splice (bytes old) (position old) b) (position old) n (position old + n)
