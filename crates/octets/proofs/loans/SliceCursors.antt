-- The cursor over a slice: its type's laws, and its slice reference apart from the rest. Assumes `Logic`.
use Rattle.octets.specs
use Rattle.octets.proofs.loans.WalkSteps.{◌≡◌, refl, sym, subst, List, [], ◌∷◌, ℕ, ◌+◌, named, full_share, ‵, raw}
use Rattle.octets.proofs.loans.WalkSteps.{◌$◌, ◌∵◌, !, qed, by, move, use1, u8, MutBor, MutSlice}
use seplogic.Ra.Ura.{Ura}
use mir.Syntax.{Lifetime}
use base.Fml.{Fml, Lft}
use base.Logic.{SProp, ent, sep, all, all_e, apply∗}
use types.Logic.{Logic, sem}
use denote.Memory.{part_at}
use denote.RattleType.{RattleType}
use denote.Param.Laws.{Laws, Told, of_field, field_told, row_shared}
use denote.Param.Shared.{mut_slice_shared, copy_shared}
use denote.Struct.Field.{Field, mut_slice_field, u8-field}
use denote.Struct.Laws.{mut_slice_laws, u8-laws, u8-copy, Lowered}
use denote.Struct.Declared.{Declared}
use denote.Struct.Loose.{Looses}
use denote.Struct.Values.{intos}
use borrow.Struct.Apart.{apart as apart_row, part_apart}
use borrow.Struct.Open.{Way, field_open}
use specs.contracts.cursor.Cursor as D
use Rattle.octets.proofs.cursor.Cursor.TheLaws as L
use specs.contracts.cursor.buffer.RefMutSliceU8Bytes.TheImpl.{ghosts}
use specs.Loans.{SliceCursor}

module _ (ℓ : Lifetime) (κ : Lft) where
  abbrev pub Sl : RattleType
  Sl = MutSlice ℓ κ u8

  abbrev Fd : Field
  Fd = mut_slice_field (record { mir = ℓ; lft = κ }) u8 tt

  abbrev pub the_slice_laws : Laws Sl
  the_slice_laws = of_field Fd (mut_slice_laws (record { mir = ℓ; lft = κ }) u8 tt) refl
      (mut_slice_shared (record { mir = ℓ; lft = κ }) u8 tt
      (row_shared u8 (of_field u8-field u8-laws refl (copy_shared u8-field u8-copy))))

  abbrev pub told : Told Sl
  told = field_told Fd (mut_slice_laws (record { mir = ℓ; lft = κ }) u8 tt)

  abbrev pub St : RattleType
  St = D.the_row Sl ghosts

  abbrev pub T : Declared
  T = D.the_type Sl ghosts

  abbrev pub lowers : Lowered T
  lowers = L.lowers Sl ghosts the_slice_laws told

  abbrev pub loose : Looses T.parts
  loose = L.the_loose Sl ghosts the_slice_laws

module _ {M : Type 1} {𝓤 : Ura M} (𝓛 : Logic 𝓤) (κ' : Lft) (x : SliceCursor) (b o : ℕ) where
  -- the struct in memory without its slice reference
  abbrev pub whole_but : SProp 𝓤
  whole_but = all 𝓤 (Way (T (named 1) κ') 0 0 𝓛 full_share (x.buf, (x.off, tt)) b o)

  pub apart : ent 𝓤 (sem 𝓛 (part_at (St (named 1) κ') full_share x b o))
      (sep 𝓤 (sem 𝓛 (part_at (Sl (named 1) κ') full_share x.buf b (o + 0))) whole_but)
  apart = subst
      (λ (X : Fml). ent 𝓤 (sem 𝓛 X) (sep 𝓤 (sem 𝓛 (part_at (Sl (named 1) κ') full_share x.buf b (o + 0))) whole_but))
      (sym (part_apart (T (named 1) κ') full_share x (x.buf, (x.off, tt)) refl b o))
      (field_open (T (named 1) κ') 0 0 𝓛 refl (loose (named 1) κ') full_share refl (x.buf, (x.off, tt)) b o)

  pub again : (y : MutBor (List ℕ)) (x' : SliceCursor)
      → (T (named 1) κ').to x' ≡ intos (T (named 1) κ').parts (y, (x.off, tt)) →
      ent 𝓤 (sep 𝓤 (sem 𝓛 (part_at (Sl (named 1) κ') full_share y b (o + 0))) whole_but)
      (sem 𝓛 (part_at (St (named 1) κ') full_share x' b o))
  again y x' e =
      subst (λ (X : Fml). ent 𝓤 (sep 𝓤 (sem 𝓛 (part_at (Sl (named 1) κ') full_share y b (o + 0))) whole_but) (sem 𝓛 X))
      (sym (part_apart (T (named 1) κ') full_share x' (y, (x.off, tt)) e b o))
      (qed 𝓛 (‵ (part_at (Sl (named 1) κ') full_share y b (o + 0)) ∷ raw whole_but ∷ []) ∵ move ! (1 ∷ []) $
      use1 𝓛 (raw (Way (T (named 1) κ') 0 0 𝓛 full_share (x.buf, (x.off, tt)) b o y))
      (all_e 𝓤 (Way (T (named 1) κ') 0 0 𝓛 full_share (x.buf, (x.off, tt)) b o) y) $ move ! (1 ∷ 0 ∷ []) $
      by ! (apply∗ 𝓤 (sem 𝓛 (part_at (Sl (named 1) κ') full_share y b (o + 0)))
      (sem 𝓛 (part_at (apart_row (T (named 1) κ')) full_share (y, (x.off, tt)) b o))))
