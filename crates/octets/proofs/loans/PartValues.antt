-- A part that is to be lent, as a machine value. Assumes nothing.
use Rattle.octets.specs
use Rattle.octets.proofs.loans.WalkSteps.{◌^◌, ◌<◌, List, [], ◌∷◌, ◌++◌, ap, ◌∙◌, lit<, w64, Val, vint}
use lib.Dec.{T as True}
use mir.Val.{WT, has_ty, of_list, vstruct, vcons, vnil}
use types.Match.{live}
use denote.Laws.{Is, Tells}
use denote.Memory.{lone}
use denote.RattleType.{RattleType}
use Rattle.std.specs.declared.result.Result.{Result}
use Rattle.std.specs.declared.result.Result.TheVariants.{Ok, Err}
use Rattle.std.specs.contracts.result.Result as Res
use specs.declared.error.BufferTooShortError.{BufferTooShortError}
use specs.contracts.error.BufferTooShortError as Short
use specs.declared.cursor.writable.loans.parts.Part.{Part}
use specs.contracts.cursor.writable.loans.parts.Part as PartC
use Rattle.octets.proofs.loans.ResultValues.{typed_as}
use Rattle.octets.proofs.cursor.writable.loans.parts.Part.TheLaws.{lowers}

-- a range, or the error of a call that has none
abbrev pub MaybePart : Type 0
MaybePart = Result Part BufferTooShortError

abbrev pub maybe_part : RattleType
maybe_part = Res.the_row PartC.the_row Short.the_row

abbrev pub part_val : Part → Val
part_val p = vstruct (vcons (vint w64 p.from) (vcons (vint w64 p.len) vnil))

abbrev pub short_val : Val
short_val = vstruct vnil

abbrev pub maybe_part_val : MaybePart → Val
maybe_part_val (Ok p) = live 0 (of_list (part_val p ∷ []))
maybe_part_val (Err e) = live 1 (of_list (short_val ∷ []))

abbrev pub maybe_part_vals : MaybePart → List Val
maybe_part_vals t = maybe_part_val t ∷ []

pub maybe_part_Tells : Tells maybe_part (Is maybe_part) maybe_part_vals
maybe_part_Tells (Ok p) vs is = is.1.0 ∙ ap (λ (us : List Val). live 0 (of_list us) ∷ []) (is.1.1.1.0
    ∙ ap (λ (us : List Val). us ++ []) (lowers.val_is p is.1.1.0.0 is.1.1.1.1.0))
maybe_part_Tells (Err e) vs is = is.1.0
    ∙ ap (λ (us : List Val). live 1 (of_list us) ∷ []) (is.1.1.1.0 ∙ ap (λ (us : List Val). us ++ []) is.1.1.1.1.0.1.0)

pub from_fits : (p : Part) (vs : List Val) → Is maybe_part (Ok p) vs → p.from < 2 ^ 64
from_fits p vs is = is.1.1.1.1.0.1.1.0.1

pub len_fits : (p : Part) (vs : List Val) → Is maybe_part (Ok p) vs → p.len < 2 ^ 64
len_fits p vs is = is.1.1.1.1.0.1.1.1.0.1

pub maybe_part_typed : (t : MaybePart) (v : Val) → Is maybe_part t (v ∷ [])
    → True (has_ty (lone maybe_part.mir) v) × WT v
maybe_part_typed (Ok p) v is =
    typed_as (lone maybe_part.mir) 0 is.1.0 is.1.1.1.0 (lowers.val_is p is.1.1.0.0 is.1.1.1.1.0) (
      tt,
      (
        record { fits = lit< tt },
        ((record { fits = from_fits p (v ∷ []) is }, (record { fits = len_fits p (v ∷ []) is }, tt)), tt),
      ),
    )
maybe_part_typed (Err e) v is =
    typed_as (lone maybe_part.mir) 1 is.1.0 is.1.1.1.0 is.1.1.1.1.0.1.0 (tt, (record { fits = lit< tt }, (tt, tt)))
