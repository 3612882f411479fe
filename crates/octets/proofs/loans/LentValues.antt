-- What a call lends, in a Result, as a machine value. Assumes nothing.
use Rattle.octets.specs
use Rattle.octets.proofs.loans
use loans.WalkSteps.{ℕ, List, [], ◌∷◌, lit<, Val, MutBor, named, u8, MutSlice}
use lib.Dec.{T as True}
use mir.Val.{WT, has_ty}
use denote.Builtin.{unit}
use base.Fml.{Lft}
use denote.Laws.{Is}
use denote.Memory.{lone}
use denote.RattleType.{RattleType}
use Rattle.std.specs.declared.result.Result.{Result}
use Rattle.std.specs.declared.result.Result.TheVariants.{Ok, Err}
use Rattle.std.specs.contracts.result.Result as Res
use specs.Loans.{SliceCursor}
use specs.declared.error.BufferTooShortError.{BufferTooShortError}
use specs.contracts.error.BufferTooShortError as Short
use loans.ResultValues.{typed_as}
use loans.SliceCursors.{St, lowers}

abbrev pub LentBytes : Type 0
LentBytes = Result (MutBor (List ℕ)) BufferTooShortError

abbrev pub LentView : Type 0
LentView = Result SliceCursor BufferTooShortError

abbrev pub lent_bytes : Lft → RattleType
lent_bytes κ = Res.the_row (MutSlice (named 0) κ u8) Short.the_row

abbrev pub lent_view : Lft → RattleType
lent_view κ = Res.the_row (St (named 0) κ) Short.the_row

pub lent_bytes_typed : (κ : Lft) (r : LentBytes) (v : Val) → Is (lent_bytes κ) r (v ∷ [])
    → True (has_ty (lone (lent_bytes κ).mir) v) × WT v
lent_bytes_typed κ (Ok s) v is = typed_as (lone (lent_bytes κ).mir) 0 is.1.0 is.1.1.1.0 is.1.1.1.1.0.0.0
    (tt, (record { fits = lit< tt }, ((tt, (record { fits = is.1.1.1.1.0.0.1.0 }, tt)), tt)))
lent_bytes_typed κ (Err x) v is =
    typed_as (lone (lent_bytes κ).mir) 1 is.1.0 is.1.1.1.0 is.1.1.1.1.0.1.0 (tt, (record { fits = lit< tt }, (tt, tt)))

pub lent_view_typed : (κ : Lft) (r : LentView) (v : Val) → Is (lent_view κ) r (v ∷ [])
    → True (has_ty (lone (lent_view κ).mir) v) × WT v
lent_view_typed κ (Ok s) v is =
    typed_as (lone (lent_view κ).mir) 0 is.1.0 is.1.1.1.0 ((lowers (named 0) κ).val_is s is.1.1.0.0 is.1.1.1.1.0) (
      tt,
      (
        record { fits = lit< tt },
        (((tt, (record { fits = is.1.1.1.1.0.1.1.0.0.1.0 }, tt)), (record { fits = is.1.1.1.1.0.1.1.1.0.1 }, tt)), tt),
      ),
    )
lent_view_typed κ (Err x) v is =
    typed_as (lone (lent_view κ).mir) 1 is.1.0 is.1.1.1.0 is.1.1.1.1.0.1.0 (tt, (record { fits = lit< tt }, (tt, tt)))

-- and a Result with nothing in it
abbrev pub Done : Type 0
Done = Result (Unit {0}) BufferTooShortError

abbrev pub done : RattleType
done = Res.the_row unit Short.the_row

pub done_typed : (r : Done) (v : Val) → Is done r (v ∷ []) → True (has_ty (lone done.mir) v) × WT v
done_typed (Ok u) v is =
    typed_as (lone done.mir) 0 is.1.0 is.1.1.1.0 is.1.1.1.1.0 (tt, (record { fits = lit< tt }, (tt, tt)))
done_typed (Err x) v is =
    typed_as (lone done.mir) 1 is.1.0 is.1.1.1.0 is.1.1.1.1.0.1.0 (tt, (record { fits = lit< tt }, (tt, tt)))
