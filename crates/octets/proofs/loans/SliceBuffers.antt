-- A slice as the buffer of a call that is generic in it. Assumes `Logic`.
--     Slice, laws, dropper      the slice as that call's argument, its laws, and what lets it go
--     is_bytes, is_buffer      it keeps the promises of `Bytes`, and of `Buffer`
use Rattle.octets.proofs.loans.WalkSteps.{[], ◌∷◌, refl, named, w64, ty_int, no}
use seplogic.Ra.Ura.{Ura}
use mir.Syntax.{Dict, ty_struct, ty_ptr, tcons, tnil, impl, dnil}
use base.Fml.{Lft}
use types.Logic.{Logic}
use contract.Running.{Running}
use prog.Model.{Model}
use prog.Wired.{Wired}
use denote.RattleType.{RattleType}
use denote.Param.{arg, layout}
use denote.Param.Laws.{Laws, arg_laws}
use Rattle.octets.specs.contracts.cursor.buffer.Bytes.TheBound as bytes
use Rattle.octets.specs.contracts.cursor.buffer.Buffer.TheBound as buffer
use Rattle.octets.specs.contracts.cursor.buffer.RefMutSliceU8Bytes.TheImpl as B
use Rattle.octets.specs.contracts.cursor.buffer.RefMutSliceU8Buffer.TheImpl as W
use Rattle.octets.proofs.cursor.buffer.RefMutSliceU8Bytes.TheImpl.Met.{bound as bytes_bound}
use Rattle.octets.proofs.cursor.buffer.RefMutSliceU8Buffer.TheImpl.Met.{bound as buffer_bound}
use Rattle.octets.proofs.cursor.buffer.RefMutSliceU8Bytes.len.Symbol as len
use Rattle.octets.proofs.cursor.buffer.RefMutSliceU8Bytes.as_slice.Symbol as as_slice
use Rattle.octets.proofs.cursor.buffer.RefMutSliceU8Buffer.part_mut.Symbol as part_mut
use Rattle.octets.proofs.Destruct++none.drop.Symbol as drops
use Rattle.octets.proofs.loans.SliceCursors.{Sl, the_slice_laws}

abbrev pub Slice : Lft → RattleType
Slice κ = arg (ty_struct [] (tcons ty_ptr (tcons (ty_int w64) tnil))) no (Sl (named 1) κ)

abbrev pub laws : (κ : Lft) → Laws (Slice κ)
laws κ = arg_laws (ty_struct [] (tcons ty_ptr (tcons (ty_int w64) tnil))) no (Sl (named 1) κ)
    (the_slice_laws (named 1) κ) refl

abbrev pub dropper : Lft → Dict
dropper κ = impl (drops.symbol ∷ []) (tcons (layout (Slice κ)) tnil) dnil

module _ {M : Type 1} (𝓤 : Ura M) (𝓛 : Logic 𝓤) (𝓜 : Model 𝓤 𝓛.H) (𝓡 : Running 𝓤 𝓛.H 𝓜) (κ : Lft) where
  pub is_bytes : Wired 𝓡.env len.code → Wired 𝓡.env as_slice.code → bytes.Met 𝓛 𝓜 𝓡 𝓡.env (Slice κ) B.ghosts B.dict
  is_bytes l a = let m = bytes_bound 𝓡.env l a κ M 𝓤 𝓛 𝓜 𝓡 in record { len = m.len; as_slice = m.as_slice }

  pub is_buffer : Wired 𝓡.env part_mut.code → buffer.Met 𝓛 𝓜 𝓡 𝓡.env (Slice κ) W.ghosts W.dict B.ghosts B.dict
  is_buffer p = let m = buffer_bound 𝓡.env p κ M 𝓤 𝓛 𝓜 𝓡 in record { part_mut = m.part_mut }
