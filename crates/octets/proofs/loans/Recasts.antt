-- What a cursor lends after a first call has left it with a part to lend, said of the cursor before that call.
use Rattle.octets.specs
use Rattle.std.proofs.Common.{◌≡◌, ℕ, ◌+◌, ◌-◌, ◌≤◌, List, length, drop, arith}
use Rattle.std.proofs.lemmas.Grind.{common_steps}
use Rattle.std.specs.Prelude.{◌↔◌, IsOk, IfOk}
use Rattle.std.specs.Borrow.{follows_if, name_if_ok, u8, Array}
use Rattle.std.specs.declared.result.Result.{Result}
use base.Fml.{GName}
use denote.Follow.{follows_by}
use specs.Bytes.{splice, part}
use specs.Loans.{SliceCursor, Row, Viewed, standing}
use specs.Parts.{IsWithin, Leaves, from_of, the_part}
use specs.declared.error.BufferTooShortError.{BufferTooShortError}
use specs.Cursor.{IsViewOf}
pub use Rattle.octets.proofs.lemmas.Splices.{same_cursor}
use Rattle.octets.proofs.loans.LentValues.{LentBytes, LentView}
use Rattle.octets.proofs.loans.PartValues.{MaybePart}

-- what the cursor ends as, where there is a loan exactly where there is a part
pub recast : {A : Type 0} (id : A → GName) (r : Result A BufferTooShortError) (γ : GName) (s c : SliceCursor)
    (t : MaybePart) (l : List ℕ) (i n o : ℕ)
    → Leaves s c t l i n o → (IsOk r ↔ IsOk t)
    → follows_if Row (Array u8 0) γ (name_if_ok id r) (λ w. standing c (splice c.buf.now (from_of t) w) c.off) c
    ≡ follows_if Row (Array u8 0) γ (name_if_ok id r) (λ w. standing s (splice l i w) o) s
unfolding follows_by
recast id r γ s c t l i n o h a = grind (arith, same_cursor s c)

-- the part lies in the buffer
pub is_within : (s c : SliceCursor) (t : MaybePart) (l : List ℕ) (i n o : ℕ) → Leaves s c t l i n o
    → IfOk t (λ p. IsWithin p c.buf.now)
is_within s c t l i n o h = grind arith

-- what is shown of the loan
pub reshown : {A : Type 0} (P : List ℕ → A → Type 0) (s c : SliceCursor) (t : MaybePart)
    (r : Result A BufferTooShortError) (l : List ℕ) (i n o : ℕ) (w : List ℕ) → Leaves s c t l i n o →
    (IsOk r ↔ IsOk t)
    → (i + n ≤ length l → part l i n ≡ w) → IfOk r (λ a. P (the_part t c.buf.now) a) → IfOk r (λ a. P w a)
reshown P s c t r l i n o w h e k shown = grind arith

-- one test after another
pub both_ways : {A B C : Type 0} → (A ↔ B) → (B ↔ C) → (A ↔ C)
both_ways h k = ((λ a. k.0 (h.0 a)), (λ c. h.1 (k.1 c)))

-- the last n bytes, as a part
pub last_part : (l : List ℕ) (n : ℕ) → length l - n + n ≤ length l → part l (length l - n) n ≡ drop (length l - n) l
last_part l n h = grind (arith, common_steps)

-- a view of what was lent
pub same_name : (s : LentBytes) (v : LentView) → Viewed s v
    → name_if_ok (λ a. a.ghost_name) s ≡ name_if_ok (λ c. c.buf.ghost_name) v
same_name s v h = grind arith

pub view_fits : (C : Type 0) (s : LentBytes) (v : LentView) → Viewed s v → (IsOk s ↔ C) → (IsOk v ↔ C)
view_fits C s v h f = grind arith

pub view_shows : (b : List ℕ) (s : LentBytes) (v : LentView) → Viewed s v → IfOk s (λ a. a.now ≡ b)
    → IfOk v (λ c. IsViewOf b c)
view_shows b s v h f = grind arith
