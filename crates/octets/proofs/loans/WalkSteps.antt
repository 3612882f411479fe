-- The steps of a hand-written proof of a loan, gathered from std and the prover for one import.
pub use Rattle.std.proofs.Common.{◌≡◌, ℕ, ◌+◌, ◌-◌, ◌*◌, ◌^◌, ◌<◌, ◌≤◌, List, [], ◌∷◌, ◌++◌, length, take, refl, sym}
pub use Rattle.std.proofs.Common.{ap, ◌∙◌, subst, lit<, w8, w16, w32, w64, MutBor, arith}
pub use Rattle.std.proofs.raw_atomic.Walks.{proved}
pub use base.Fraction.{full_share}
pub use base.Logic.{id⊢, emp}
pub use base.Fml.{ftrue, fat, flft, fres}
pub use mir.Syntax.{ty_int, named}
pub use mir.Val.{Val, vunit, vint}
pub use contract.Monad.{fact, fact_i}
pub use contract.Running.{tables}
pub use types.Kit.{‵, raw, ◌⊛◌, some, later, prop, at_ret, Sq, ◌$◌, ◌∵◌, !, qed, by, done, move, keep, drop, use0}
pub use types.Kit.{use1, use2, use3, split, split3, join, fsplit, fsplit3, fjoin, feq_i, feq_l, pick, await, rewrite}
pub use types.Kit.{suffices, frame, group, show}
pub use types.Run.{enter, of_opd, lit, unit_lit, bin, addr, stop, fld, hop, no_more, and_then, first, blocks, exec}
pub use types.Run.{returns}
pub use types.Part.{whole, sub, look_in, agg}
pub use types.ByLocal.{alloc_all, pass_all, free_all, look_at, get, through, sets, sets_last, lands_as, env}
pub use denote.Builtin.{u8, u64, usize, unit}
pub use denote.Laws.{shows}
pub use denote.Exit.{yes, no}
pub use denote.Memory.{mem}
pub use denote.Plain.{uint_Makes, uint_vals, uint_Tells}
pub use denote.RattleType.{owns}
pub use denote.Ref.{MutRef, mut_vals, mut_Tells, at_last}
pub use denote.Slice.{MutSlice, Room, slice_val, mut_slice_vals}
pub use denote.Signature.{plain, mut_slice_of}
pub use denote.Steps.{nothing, owned, opens, closes, heard, peeks, only}
pub use denote.Triple.Call.{calls_at}
pub use denote.Triple.Clauses.{lasts}
pub use denote.Triple.Spec.{triple_of}
pub use denote.Triple.Walked.{Stays, walk_of, says, stay_dropped, Goes-dropped, Goes-spent_ref, stay_ref, Goes-ref}
pub use denote.Triple.Walked.{ends_at}
pub use denote.Triple.Table.{framed}
