-- If there is a range, it is cut out of the cursor's slice and
-- lent, and the cursor follows it. Otherwise the slice is given back.
use Rattle.octets.proofs.cursor.writable.loans as loan_calls
use Rattle.octets.specs
use Rattle.octets.proofs.loans
use loans.WalkSteps.{◌^◌, ◌<◌, List, [], ◌∷◌, length, refl, lit<, MutBor, fres, use1, named, Val, fact, tables, ‵}
use loans.WalkSteps.{raw, ◌⊛◌, at_ret, ◌$◌, !, move, keep, drop, split, join, fsplit, fsplit3, rewrite, suffices}
use loans.WalkSteps.{enter, of_opd, addr, stop, fld, no_more, and_then, first, exec, returns, whole, sub, agg}
use loans.WalkSteps.{alloc_all, pass_all, free_all, look_at, get, through, sets, sets_last, env, u8, mut_vals}
use loans.WalkSteps.{MutSlice, slice_val, mut_slice_vals, nothing, heard, ends_at, ◌≡◌, ap, only, lands_as, vint, w64}
use loans.WalkSteps.{id⊢, usize, uint_Makes, owned, framed, prop, Sq}
use seplogic.Ra.Ura.{Ura}
use mir.Val.{of_list}
use prog.Model.{Model}
use prog.Wp.{Wp, WpFn, after_seq, at_return}
use base.Fml.{Incl, Lft, Share}
use denote.Triple.Clauses.{Clauses}
use contract.Running.{Running}
use types.Logic.{Logic}
use types.Kit.{use0, any_q}
use types.Match.{live, vrt, in_variant}
use types.Run.{switches_on, lit}
use types.ByLocal.{get_tag, get_in}
use denote.Array.{Array}
use denote.Follow.{follows, follows_by}
use denote.Laws.{Is}
use denote.RattleType.{RattleType}
use denote.Shadow.{makes_shadow}
use denote.Triple.Statement.{Contract}
use Rattle.std.proofs.VecSteps.Shapes.{arm_body}
use Rattle.std.specs.declared.result.Result.TheVariants.{Ok, Err}
use specs.Bytes.{splice, part}
use specs.Loans.{SliceCursor}
use specs.declared.cursor.writable.loans.parts.Part.{Part}
use specs.declared.error.BufferTooShortError.{BufferTooShortError}
use specs.contracts.error.BufferTooShortError as Short
use loans.LendsWithin.{lent_ends}
use loans.PartValues.{MaybePart, maybe_part, maybe_part_vals, maybe_part_Tells, short_val, from_fits, len_fits}
use loans.LentValues.{lent_bytes}
use loans.ResultValues.{ok_of, err_of}
use loans.SliceCursors.{St}
use prog.Wired.{Wired}
use contract.BorrowLft.{⊑_meet, ⊑_refl, ⊑_static}
use loans.CursorWalks.{bound, given, lends_by, stayed, walk}
use loans.CallSteps.{calls, hands_over}
use loans.Reborrows.{knows}
use loans.SliceBuffers.{Slice, laws, dropper, is_bytes, is_buffer}
use Rattle.octets.proofs.Destruct++none.drop.Symbol as drops
use specs.contracts.cursor.buffer.RefMutSliceU8Bytes.TheImpl as B
use specs.contracts.cursor.buffer.RefMutSliceU8Buffer.TheImpl as W
use specs.contracts.cursor.Cursor.lend_at as h
use Rattle.octets.proofs.cursor.Cursor.lend_at.Met.{met as met_lend}
use specs.contracts.cursor.writable.loans.OctetsMut.lend_part as f
use loan_calls.OctetsMut.lend_part.Statement.{statement}
use loan_calls.OctetsMut.lend_part.Code as code

module _ {M : Type 1} (𝓤 : Ura M) (𝓛 : Logic 𝓤) (𝓜 : Model 𝓤 𝓛.H) (𝓡 : Running 𝓤 𝓛.H 𝓜) (κ κ' : Lft) (q q' : Share)
    (inc : Incl κ κ') (x : MutBor SliceCursor) where
  abbrev c : Clauses 𝓤 f.ended
  c = f.clauses 𝓛 𝓜.mem 𝓡.returns

  abbrev Walk : Contract 𝓤
  Walk = walk maybe_part lent_bytes 𝓛 c maybe_part_vals

  abbrev at : MaybePart → Walk.Ghost
  at t = bound maybe_part lent_bytes 𝓛 c maybe_part_vals κ κ' q q' inc x t tt

  abbrev Goes : MaybePart → Type 1
  Goes t = let 𝓣 = tables 𝓤 𝓛.H 𝓜 𝓡 𝓡.env in Sq 𝓛 (given maybe_part lent_bytes 𝓛 c maybe_part_vals κ κ' q q' inc x t tt)
      (prop (WpFn 𝓤 𝓛.H 𝓣.C 𝓣.Λ code.function (Walk.args (at t)) (Walk.post (at t))))

  abbrev D' : RattleType
  D' = St (named 1) κ'

  refused : (e : BufferTooShortError) → Goes (Err e)
  unfolding follows_by
  refused e =
      let 𝓣 = tables 𝓤 𝓛.H 𝓜 𝓡 𝓡.env in let Post = Walk.post (at (Err e)) in
      let γ = x.ghost_name in let no_val : Val = live 1 (of_list (short_val ∷ [])) in
      split ! $
      keep ! (0 ∷ 1 ∷ []) $ enter ! _ _ _ _ _ $ alloc_all ! (λ l. pass_all ! refl
      ((tt, tt), ((tt, (record { fits = lit< tt }, (tt, tt))), tt)) $ let En = env code.Mir.locals l in
      let Then = any_q (after_seq 𝓤 𝓛.H (Wp 𝓤 𝓛.H 𝓣.C 𝓣.Λ En code.Mir.t-2 (at_return 𝓤 𝓛.H En Post))
      (at_return 𝓤 𝓛.H En Post)) in first ! $
      switches_on ! (get_tag ! (vrt ! refl (fld ! refl (stop !))) (whole !))
      $ exec ! 𝓣.C 𝓣.Λ En (arm_body 1 code.Mir.s-1) Then $
      sets ! (of_opd ! (get_in ! (vrt ! refl (fld ! refl (stop !))) (in_variant ! 1 0 refl refl (whole !))))
      refl (tt, tt) $
      sets_last ! (agg ! (and_then ! (lit ! tt) (and_then ! (get ! refl) (no_more !)))) refl
      (tt, (record { fits = lit< tt }, (tt, tt))) $ exec ! 𝓣.C 𝓣.Λ En code.Mir.t-2 (at_ret En Post) $
      sets ! (of_opd ! (get ! refl)) refl (tt, (record { fits = lit< tt }, (tt, tt))) $
      -- [the tokens; what the arguments own; the locals]
      move ! (1 ∷ []) $ fsplit ! $ fsplit3 ! $ drop ! $ use1 𝓛 (‵ (fres γ (D'.coded.code x.now)))
      (𝓛.names.obs-res γ (D'.coded.code x.now)) $ returns ! (look_at ! 0 refl) $ free_all ! refl $
      keep ! (3 ∷ 0 ∷ []) $ suffices ! _
      (ends_at 𝓛 f.ended (stayed maybe_part lent_bytes) c (at (Err e)) no_val (Err (record {}))
      (tt, (tt, tt)) (tt, (tt, tt))) $
      use0 𝓛 (‵ (Short.the_row.own_val (record {}) (short_val ∷ [])))
      (makes_shadow 𝓛 (Short.the_row.own_val (record {}) (short_val ∷ [])) (λ uss. (tt, tt)) (tt, (refl, tt))) $
      use1 𝓛 (‵ ((lent_bytes κ).own_val (Err (record {})) (no_val ∷ [])))
      (err_of 𝓛 (MutSlice (named 0) κ u8) Short.the_row (record {}) short_val) $
      move ! (2 ∷ 1 ∷ 0 ∷ []) $ hands_over ! 2 ((λ z. z), (λ z. z)) tt)

  granted : Wired 𝓡.env code.code → (p : Part) → Is maybe_part (Ok p) (maybe_part_vals (Ok p)) → Goes (Ok p)
  unfolding follows_by
  granted wired p is_part =
      let 𝓣 = tables 𝓤 𝓛.H 𝓜 𝓡 𝓡.env in let Post = Walk.post (at (Ok p)) in
      let i = p.from in let n = p.len in let xs = x.now.buf.now in
      let fi : i < 2 ^ 64 = from_fits p _ is_part in let fn : n < 2 ^ 64 = len_fits p _ is_part in
      move ! (1 ∷ []) $ heard ! _ (λ le. split ! $ enter ! _ _ _ _ _ $
      alloc_all ! (λ l. pass_all ! refl
      ((tt, tt), ((tt, (record { fits = lit< tt }, ((record { fits = fi }, (record { fits = fn }, tt)), tt))), tt))
      $ let En = env code.Mir.locals l in
      let Then = any_q (after_seq 𝓤 𝓛.H (Wp 𝓤 𝓛.H 𝓣.C 𝓣.Λ En code.Mir.t-2 (at_return 𝓤 𝓛.H En Post))
      (at_return 𝓤 𝓛.H En Post)) in first ! $
      switches_on ! (get_tag ! (vrt ! refl (fld ! refl (stop !))) (whole !))
      $ exec ! 𝓣.C 𝓣.Λ En (arm_body 0 code.Mir.s-1) Then $
      sets ! (of_opd ! (get_in ! (vrt ! refl (fld ! refl (stop !))) (in_variant ! 0 0 refl refl (whole !)))) refl
      (tt, (record { fits = fi }, (record { fits = fn }, tt))) $
      sets ! (addr ! (through ! refl (stop !))) refl (tt, tt) $ move ! (1 ∷ []) $ fsplit ! $ move ! (1 ∷ []) $ drop !
      $ owned ! usize _ (uint_Makes 𝓛 w64) n (vint w64 n ∷ []) (refl, fn) $
      nothing ! $ move ! (1 ∷ 0 ∷ []) $ join ! $ owned ! usize _ (uint_Makes 𝓛 w64) i (vint w64 i ∷ []) (refl, fi)
      $ join ! $ move ! (1 ∷ 0 ∷ []) $ join ! $ move ! (1 ∷ 0 ∷ []) $ join ! $
      knows ! le $ knows ! (⊑_meet κ' κ' [] (⊑_refl κ') (⊑_static κ')) $ join ! $ move ! (1 ∷ 0 ∷ []) $
      calls ! (framed 𝓤 𝓛.H 𝓜 𝓣) (h.ended (Slice κ') W.ghosts W.dict B.ghosts B.dict (dropper κ'))
      (h.clauses (Slice κ') W.ghosts W.dict B.ghosts B.dict (dropper κ') 𝓛 𝓜.mem 𝓡.returns)
      (met_lend 𝓤 𝓛 𝓜 𝓡 (code.calls-octets::cursor::Cursor::lend_at 𝓡.env wired) (Slice κ') (laws κ')
      W.ghosts W.dict B.ghosts B.dict (dropper κ')
      (is_buffer 𝓤 𝓛 𝓜 𝓡 κ' (code.calls-octets::cursor::buffer::RefMutSliceU8Buffer::part_mut 𝓡.env wired))
      (is_bytes 𝓤 𝓛 𝓜 𝓡 κ' (code.calls-octets::cursor::buffer::RefMutSliceU8Bytes::len 𝓡.env wired)
      (code.calls-octets::cursor::buffer::RefMutSliceU8Bytes::as_slice 𝓡.env wired))
      (drops.glues 𝓡.env (code.calls-octets::Destruct++none::drop 𝓡.env wired) (Slice κ') (laws κ') M 𝓤 𝓛 𝓜 𝓡)) (
        (
          (κ, (κ', tt)),
          (q, (q', tt)),
          (inc, tt),
          (x, (i, (n, tt))),
          (mut_vals x, (vint w64 i ∷ [], (vint w64 n ∷ [], tt))),
        ),
        tt,
      )
      (id⊢ 𝓤 _) (and_then ! (get ! refl) (and_then ! (get_in ! (fld ! refl (stop !)) (sub ! 0 refl (whole !)))
      (and_then ! (get_in ! (fld ! refl (stop !)) (sub ! 1 refl (whole !))) (no_more !)))) (λ u s us is. drop ! $
      use1 𝓛 (‵ (follows D' (Array u8 0) x.ghost_name s.ghost_name (λ w. lent_ends x.now (splice xs i w))) ⊛ raw
      (fact 𝓤 (s.now ≡ part xs i n))) (id⊢ 𝓤 _) $ split ! $ move ! (1 ∷ []) $ heard ! _ (λ shown.
      -- [what the cursor follows; the tokens; the slice]
      let word : ◌≡◌ {A = List Val} (u ∷ []) (mut_slice_vals s) = is.0.0 in
      lands_as ! (ap only word) refl (tt, (tt, (record { fits = is.0.1.0 }, tt))) $
      sets_last ! (agg ! (and_then ! (lit ! tt) (and_then ! (get ! refl) (no_more !)))) refl
      (tt, (record { fits = lit< tt }, ((tt, (record { fits = is.0.1.0 }, tt)), tt))) $
      exec ! 𝓣.C 𝓣.Λ En code.Mir.t-2 (at_ret En Post) $ sets ! (of_opd ! (get ! refl)) refl
      (tt, (record { fits = lit< tt }, ((tt, (record { fits = is.0.1.0 }, tt)), tt))) $
      move ! (2 ∷ []) $ rewrite ! 0 (λ (vs : List Val). ‵ ((MutSlice (named 0) κ u8).own_val s vs)) word refl $
      use1 𝓛 (‵ ((lent_bytes κ).own_val (Ok s) (live 0 (of_list (mut_slice_vals s)) ∷ [])))
      (ok_of 𝓛 (MutSlice (named 0) κ u8) Short.the_row s (slice_val s.ref_ptr (length s.now))) $
      returns ! (look_at ! 0 refl) $ free_all ! refl $ keep ! (1 ∷ 2 ∷ 0 ∷ []) $
      suffices ! _
      (ends_at 𝓛 f.ended (stayed maybe_part lent_bytes) c (at (Ok p)) (live 0 (of_list (mut_slice_vals s))) (Ok s)
      (tt, (tt, tt)) (tt, (tt, tt))) $ hands_over ! 2 ((λ z. z), (λ z. z)) shown))))

pub lend_part_spec : {M : Type 1} → statement M
lend_part_spec 𝓤 𝓛 𝓜 𝓡 wired =
    lends_by maybe_part lent_bytes 𝓛 (f.clauses 𝓛 𝓜.mem 𝓡.returns) maybe_part_vals 𝓜 𝓡 (λ κs x w. refl) maybe_part_Tells
    code.function (code.unfolded 𝓤 𝓛.H 𝓜 𝓡 wired) (λ κ κ' q q' inc x t _ is.
    elim t as (λ t. Is maybe_part t (maybe_part_vals t) → Goes 𝓤 𝓛 𝓜 𝓡 κ κ' q q' inc x t) [
      | Ok p ↦ granted 𝓤 𝓛 𝓜 𝓡 κ κ' q q' inc x wired p
      | Err e
          ↦ λ _. refused 𝓤 𝓛 𝓜 𝓡 κ κ' q q' inc x e
    ] is)
