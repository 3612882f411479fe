-- The cursor is lent again to `split_at`. Both halves are passed to what writes over them, and the cursor comes
-- back as they left it.
use Rattle.octets.proofs.loans
use loans.WalkSteps.{ℕ, ◌^◌, ◌<◌, List, [], ◌∷◌, refl, sym, lit<, MutBor, proved, id⊢, ftrue, use0, use1, flft, named}
use loans.WalkSteps.{Val, vint, vunit, tables, ‵, ◌⊛◌, at_ret, ◌$◌, ◌∵◌, !, qed, done as ends_here, move, keep, drop}
use loans.WalkSteps.{split, join, fsplit, fjoin, feq_i, suffices, frame, enter, of_opd, addr, lit, unit_lit, agg, stop}
use loans.WalkSteps.{fld, whole, no_more, and_then, first, exec, returns, alloc_all, pass_all, free_all, look_at, get}
use loans.WalkSteps.{through, sets, sets_last, lands_as, env, u8, usize, unit, w64, yes, owns, MutRef, mut_vals}
use loans.WalkSteps.{mut_Tells, uint_vals, uint_Tells, plain, nothing, heard, Stays, walk_of, stay_ref, stay_dropped}
use loans.WalkSteps.{Goes-ref, Goes-dropped, ends_at, framed}
use Rattle.std.specs.Prelude.{drop as drop_list}
use Rattle.std.specs.declared.result.Result.TheVariants.{Ok, Err}
use base.Fml.{Lft}
use base.Share.{left}
use contract.BorrowLft.{⊑_trans, meet_⊑_right}
use contract.Lifetimes.{Lfts}
use denote.Ref.{Bor}
use denote.Shadow.{makes_shadow}
use denote.Signature.{shr_slice_of}
use denote.Slice.{ShrSlice, shr_slice_vals, shr_slice_Tells}
use mathlib.Core.Bool.{true≢false}
use mir.Val.{of_list, vstruct, vnil}
use types.ByLocal.{get_tag}
use types.Match.{live, vrt, by_variants}
use Rattle.octets.specs.Bytes.{over, splice}
use Rattle.octets.specs.Loans.{SliceCursor, LendsHalves}
use Rattle.octets.specs.contracts.error.BufferTooShortError as Short
use loans.CallSteps.{calls, hears_beside}
use loans.LentValues.{done}
use loans.ResultValues.{ok_of, err_of}
use loans.Reborrows.{part_of, lends_now, comes_home, knows}
use loans.SliceCursors.{St}
use Rattle.octets.specs.contracts.cursor.writable.loans.OctetsMut.split_at as g
use Rattle.octets.proofs.cursor.writable.loans.OctetsMut.split_at.Met.{met as met_lend}
use Rattle.octets_script.specs.Left.{HandsBoth}
use Rattle.octets_script.proofs.HalfEnds.{lent_halves_typed}
use Rattle.octets_script.proofs.HalfEnds.{lent_pair_is, lent_pair_typed, tag_ok, tag_err, last, ends, after}
use Rattle.octets_script.specs.contracts.over.halves.over_both as p
use Rattle.octets_script.proofs.over.halves.over_both.Met.{met as met_over}
use Rattle.octets_script.specs.contracts.over.halves.over_halves as f
use Rattle.octets_script.proofs.over.halves.over_halves.Statement.{statement}
use Rattle.octets_script.proofs.over.halves.over_halves.Code as code

abbrev stayed : Stays f.ended.signature.params f.ended.kept
stayed = (
  stay_ref (0 ∷ []) tt (plain (λ (κs : Lfts 4). St (named 1) κs.1.0)),
  (stay_dropped _ yes, (stay_dropped _ yes, (stay_dropped _ yes, tt))),
)

pub over_halves_spec : {M : Type 1} → statement M
over_halves_spec 𝓤 𝓛 𝓜 𝓡 wired =
    let c = f.clauses 𝓛 𝓜.mem 𝓡.returns in let V = walk_of 𝓛 f.ended stayed c in let 𝓣 = tables 𝓤 𝓛.H 𝓜 𝓡 𝓡.env in
    proved 𝓛 f.ended stayed c 𝓜 𝓡 (
      Goes-ref 𝓛 4 0 tt (plain (λ (κs : Lfts 4). St (named 1) κs.1.0)),
      (
        Goes-dropped 𝓛 4 (plain (λ _. usize)) yes (λ κs x w. refl),
        (
          Goes-dropped 𝓛 4 (shr_slice_of (2 ∷ []) tt (plain (λ _. u8))) yes (λ κs x w. refl),
          (Goes-dropped 𝓛 4 (shr_slice_of (3 ∷ []) tt (plain (λ _. u8))) yes (λ κs x w. refl), tt),
        ),
      ),
    )
    f.Key.name code.function (code.unfolded 𝓤 𝓛.H 𝓜 𝓡 wired)
    (λ κs. (mut_vals, (uint_vals w64, (shr_slice_vals, (shr_slice_vals, tt)))))
    (λ κs. (
      mut_Tells (named 0) κs.0 (St (named 1) κs.1.0),
      (uint_Tells w64, (shr_slice_Tells (named 2) κs.1.1.0 u8, (shr_slice_Tells (named 3) κs.1.1.1.0 u8, tt))),
    )) (λ κs qs bounds a _ are.
    let κ = κs.0 in let κ' = κs.1.0 in let κl = κs.1.1.0 in let κr = κs.1.1.1.0 in let q = qs.0 in let q' = qs.1.0 in
    let ql = qs.1.1.0 in let qr = qs.1.1.1.0 in
    let x : MutBor SliceCursor = a.0 in let D' = St (named 1) κ' in let wl : Bor (List ℕ) = a.1.1.0 in
    let wr : Bor (List ℕ) = a.1.1.1.0 in
    let m0 = a.1.0 in let f0 : m0 < 2 ^ 64 = are.1.0.1 in
    let fun₁ : SliceCursor → List ℕ = λ v. splice v.buf.now v.off (over (drop_list v.off v.buf.now) wl.now) in
    let fun₂ : SliceCursor → List ℕ = λ v. splice v.buf.now v.off (over (drop_list v.off v.buf.now) wr.now) in
    let y : V.Ghost =
    ((κs, qs, bounds, a, (mut_vals x, (vint w64 m0 ∷ [], (shr_slice_vals wl, (shr_slice_vals wr, tt))))), tt) in
    qed 𝓛 (((‵ (flft κ q) ⊛ ‵ (flft κ' q') ⊛ ‵ (flft κl ql) ⊛ ‵ (flft κr qr) ⊛ ‵ ftrue) ⊛
    ‵ (owns (MutRef (named 0) κ D' ∷ usize ∷ ShrSlice (named 2) κl u8 ∷ ShrSlice (named 3) κr u8 ∷ []) a y.0.4))
    ∷ ‵ ftrue ∷ []) ∵
    split ! $ keep ! (0 ∷ 1 ∷ []) $ enter ! _ _ _ _ _ $ alloc_all ! (λ l. pass_all ! refl (
      (tt, tt),
      (
        (tt, record { fits = f0 }),
        (
          (tt, (tt, (record { fits = are.1.1.0.0.1.0 }, tt))),
          ((tt, (tt, (record { fits = are.1.1.1.0.0.1.0 }, tt))), tt),
        ),
      ),
    ) $
    let En = env code.Mir.locals l in
    sets ! (addr ! (through ! refl (stop !))) refl (tt, tt) $
    split ! $ move ! (1 ∷ []) $ split ! $ move ! (3 ∷ []) $ fsplit ! $ move ! (1 ∷ []) $ fsplit ! $ nothing !
    $ move ! (1 ∷ 0 ∷ []) $ join ! $
    -- [the place; left and right; the cursor; the token of κ'; of κl and κr; of κ]
    move ! (5 ∷ 2 ∷ []) $ lends_now ! tt D' κ q x (λ α δ. let κα : Lft = α ∷ κ in let r = part_of q in
    -- [the token of κα; the way back; the loan; the lender's part; the place; left and right; κ'; κl and κr]
    let x' : MutBor SliceCursor = record x { ghost_name = δ } in
    move ! (2 ∷ 4 ∷ []) $ join ! $ nothing ! $ move ! (6 ∷ 0 ∷ []) $ join ! $ move ! (2 ∷ 0 ∷ []) $ join ! $ join ! $
    nothing ! $ move ! (1 ∷ 0 ∷ []) $
    calls ! (framed 𝓤 𝓛.H 𝓜 𝓣) g.ended (g.clauses 𝓛 𝓜.mem 𝓡.returns)
    (met_lend 𝓤 𝓛 𝓜 𝓡 (code.calls-octets::cursor::writable::loans::OctetsMut::split_at 𝓡.env wired)) (
      (
        (κα, (κ', tt)),
        (r, (q', tt)),
        (⊑_trans κα κ κ' (meet_⊑_right (α ∷ []) κ) bounds.0, tt),
        (x', (m0, tt)),
        (mut_vals x, (vint w64 m0 ∷ [], tt)),
      ),
      tt,
    )
    (id⊢ 𝓤 _) (and_then ! (get ! refl) (and_then ! (get ! refl) (no_more !))) (λ v t us is. drop ! $
    hears_beside ! (LendsHalves x' t) (λ fits seen.
    -- [what the loans follow; the tokens; the halves; the way back; the lender's part; left and right; κl and κr]
    lands_as ! refl refl (lent_halves_typed κα t v is) $
    move ! (1 ∷ []) $ use1 𝓛 (‵ (flft κα r) ⊛ ‵ (flft κ' q') ⊛ ‵ ftrue) (id⊢ 𝓤 _) $ split ! $
    move ! (0 ∷ 7 ∷ []) $ join ! $ move ! (3 ∷ 6 ∷ []) $ join ! $ move ! (1 ∷ 0 ∷ []) $ join ! $
    nothing ! $ move ! (1 ∷ 0 ∷ []) $
    calls ! (framed 𝓤 𝓛.H 𝓜 𝓣) p.ended (p.clauses 𝓛 𝓜.mem 𝓡.returns)
    (met_over 𝓤 𝓛 𝓜 𝓡 (code.calls-octets_script::over::halves::over_both 𝓡.env wired)) (
      (
        (κα, (κl, (κr, tt))),
        (r, (ql, (qr, tt))),
        tt,
        (t, (wl, (wr, tt))),
        (v ∷ [], (shr_slice_vals wl, (shr_slice_vals wr, tt))),
      ),
      tt,
    )
    (id⊢ 𝓤 _) (and_then ! (get ! refl) (and_then ! (get ! refl) (and_then ! (get ! refl) (no_more !)))) (λ m s us is₁.
    drop ! $ heard ! (HandsBoth t s fun₁ fun₂) (λ hands.
    lands_as ! (lent_pair_is κα s m is₁) refl (lent_pair_typed κα s m is₁) $
    -- [the tokens; the pair; κ'; what the loans follow; the way back; the lender's part]
    use1 𝓛 (‵ (flft κα r) ⊛ ‵ (flft κl ql) ⊛ ‵ (flft κr qr) ⊛ ‵ ftrue) (id⊢ 𝓤 _) $ split ! $
    move ! (2 ∷ 4 ∷ 0 ∷ 5 ∷ 6 ∷ [])
    $ comes_home ! tt D' κ q α δ x (last x.now s) (ends 𝓛 κ κ' κα (left q) x δ fun₁ fun₂ t s (m ∷ []) hands) $
    -- [the token of κ; the cursor; κl and κr; κ']
    first ! $ by_variants ! 12 (whole !) (get_tag ! (vrt ! refl (fld ! refl (stop !))) (whole !)) tt (
      (λ e. sets_last ! (agg ! (and_then ! (lit ! tt) (and_then ! (unit_lit !) (no_more !)))) refl
          (tt, (record { fits = lit< tt }, (tt, tt))) $
          exec ! 𝓣.C 𝓣.Λ En code.Mir.t-5 (at_ret En (V.post y)) $
          sets ! (of_opd ! (get ! refl)) refl (tt, (record { fits = lit< tt }, (tt, tt))) $
          feq_i ! (List Val) (vunit ∷ []) (vunit ∷ []) refl $ use1 𝓛
          (‵ (done.own_val (Ok tt) (live 0 (of_list (vunit ∷ [])) ∷ []))) (ok_of 𝓛 unit Short.the_row tt vunit) $
          returns ! (look_at ! 0 refl) $ free_all ! refl $ keep ! (0 ∷ 1 ∷ 2 ∷ 3 ∷ 4 ∷ []) $
          let told = after x.now m0 wl.now wr.now t s (Ok tt) fits seen hands ((λ _. tag_ok s e), (λ _. refl)) in
          suffices ! _ (ends_at 𝓛 f.ended stayed c y (live 0 (of_list (vunit ∷ []))) (Ok tt)
          (last x.now s, (tt, (tt, (tt, tt)))) (tt, (tt, (tt, (tt, tt))))) $
          move ! (4 ∷ []) $ split ! $ move ! (1 ∷ []) $ drop ! $ move ! (0 ∷ 4 ∷ []) $ join !
          $ move ! (2 ∷ 0 ∷ []) $ join ! $
          nothing ! $ nothing ! $ fjoin ! $ nothing ! $ fjoin ! $ nothing ! $ fjoin ! $ move ! (3 ∷ 0 ∷ []) $ fjoin !
          $ move ! (0 ∷ 2 ∷ []) $ join ! $ move ! (1 ∷ 0 ∷ []) $ join ! $ frame ! $
          knows ! told.4 $ knows ! told.3 $ knows ! told.2 $ knows ! told.1 $ knows ! told.0 $ ends_here !),
      (
        (λ e. sets ! (agg ! (no_more !)) refl (tt, tt) $ sets_last ! (agg ! (and_then ! (lit ! tt)
            (and_then ! (get ! refl) (no_more !)))) refl (tt, (record { fits = lit< tt }, (tt, tt))) $
            exec ! 𝓣.C 𝓣.Λ En code.Mir.t-5 (at_ret En (V.post y)) $
            sets ! (of_opd ! (get ! refl)) refl (tt, (record { fits = lit< tt }, (tt, tt))) $
            use0 𝓛 (‵ (Short.the_row.own_val (record {}) (vstruct vnil ∷ [])))
            (makes_shadow 𝓛 (Short.the_row.own_val (record {}) (vstruct vnil ∷ [])) (λ uss. (tt, tt)) (tt, (refl, tt)))
            $
            use1 𝓛 (‵ (done.own_val (Err (record {})) (live 1 (of_list (vstruct vnil ∷ [])) ∷ [])))
            (err_of 𝓛 unit Short.the_row (record {}) (vstruct vnil)) $
            returns ! (look_at ! 0 refl) $ free_all ! refl $ keep ! (0 ∷ 1 ∷ 2 ∷ 3 ∷ 4 ∷ []) $
            let told = after x.now m0 wl.now wr.now t s (Err (record {})) fits seen hands
            ((λ k. absurd (true≢false (sym k))), (λ k. absurd (tag_err s e k))) in
            suffices ! _ (ends_at 𝓛 f.ended stayed c y (live 1 (of_list (vstruct vnil ∷ []))) (Err (record {}))
            (last x.now s, (tt, (tt, (tt, tt)))) (tt, (tt, (tt, (tt, tt))))) $
            move ! (4 ∷ []) $ split ! $ move ! (1 ∷ []) $ drop ! $ move ! (0 ∷ 4 ∷ []) $ join !
            $ move ! (2 ∷ 0 ∷ []) $ join ! $
            nothing ! $ nothing ! $ fjoin ! $ nothing ! $ fjoin ! $ nothing ! $ fjoin ! $ move ! (3 ∷ 0 ∷ []) $ fjoin !
            $ move ! (0 ∷ 2 ∷ []) $ join ! $ move ! (1 ∷ 0 ∷ []) $ join ! $ frame ! $
            knows ! told.4 $ knows ! told.3 $ knows ! told.2 $ knows ! told.1 $ knows ! told.0 $ ends_here !),
        tt,
      ),
    ))))))))
