-- The proof opens the outer reference, cuts the slice after it at two places, and lends its middle. The whole
-- slice follows the range that was lent.
use Rattle.octets.proofs.loans
use loans.WalkSteps.{arith, ◌-◌}
use loans.WalkSteps.{ℕ, ◌+◌, ◌*◌, ◌^◌, ◌<◌, ◌≤◌, List, [], ◌∷◌, length, take, refl, w64, MutBor, proved, full_share}
use loans.WalkSteps.{ftrue, fat, use1, flft, named, Val, vint, fact, tables, ‵, raw, ◌⊛◌, some, later, ◌$◌}
use loans.WalkSteps.{◌∵◌, !, qed, done, move, keep, drop, use2, use3, split, split3, join, fsplit, fsplit3, fjoin}
use loans.WalkSteps.{feq_i, feq_l, pick, await, rewrite, suffices, frame, enter, of_opd, bin, addr, stop, fld, hop}
use loans.WalkSteps.{no_more, and_then, returns, whole, sub, look_in, agg, alloc_all, pass_all}
use loans.WalkSteps.{free_all, look_at, get, through, sets, u8, usize, yes, no, mem, uint_vals}
use loans.WalkSteps.{uint_Tells, owns, MutRef, mut_vals, mut_Tells, at_last, MutSlice, slice_val, mut_slice_vals}
use loans.WalkSteps.{plain, mut_slice_of, nothing, heard, opens, closes, Stays, walk_of, says, stay_dropped}
use loans.WalkSteps.{Goes-dropped, Goes-spent_ref, ends_at}
use lib.ListN.{drop as drop_list}
use types.Kit.{flt_l, flt_i, fjoin3}
use types.Run.{load, from}
use types.ByLocal.{get_in, look_in_at}
use mir.Syntax.{Ty, ty_int, ty_ref, erased, mut, w8}
use denote.Slice.{slice_ty}
use mir.Raw.{raw as raw_ty}
use borrow.Table.OneValue.{retype}
use denote.Array.{Array}
use denote.Follow.{follows, follows_then}
use denote.Memory.{cell_at}
use denote.Through.{renamed, lends_inner_slice}
use Rattle.octets.specs.Bytes.{splice}
use loans.Slices.{bytes_lent, lends_bytes}
use Rattle.octets.specs.contracts.cursor.buffer.RefMutSliceU8Buffer.part_mut as f
use Rattle.octets.proofs.cursor.buffer.RefMutSliceU8Buffer.part_mut.Statement.{statement}
use Rattle.octets.proofs.cursor.buffer.RefMutSliceU8Buffer.part_mut.Code as code

abbrev Ref : Ty
Ref = slice_ty (ty_ref erased mut (ty_int w8))

abbrev stayed : Stays f.ended.signature.params f.ended.kept
stayed = (stay_dropped _ no, (stay_dropped (plain (λ _. usize)) yes, (stay_dropped (plain (λ _. usize)) yes, tt)))

pub part_mut_spec : {M : Type 1} → statement M
part_mut_spec 𝓤 𝓛 𝓜 𝓡 wired =
    let c = f.clauses 𝓛 𝓜.mem 𝓡.returns in let W = walk_of 𝓛 f.ended stayed c in let 𝓣 = tables 𝓤 𝓛.H 𝓜 𝓡 𝓡.env in
    let goes = Goes-dropped 𝓛 2 (plain (λ _. usize)) yes (λ κs x w. refl) in
    proved 𝓛 f.ended stayed c 𝓜 𝓡
    (Goes-spent_ref 𝓛 2 (0 ∷ []) tt (mut_slice_of (1 ∷ []) tt (plain (λ _. u8))), (goes, (goes, tt)))
    f.Key.name code.function (code.unfolded 𝓤 𝓛.H 𝓜 𝓡 wired)
    (λ κs. (mut_vals, (uint_vals w64, (uint_vals w64, tt))))
    (λ κs. (mut_Tells (named 0) κs.0 (MutSlice (named 1) κs.1.0 u8), (uint_Tells w64, (uint_Tells w64, tt))))
    (λ κs qs bounds a _ are.
    let κ = κs.0 in let κ' = κs.1.0 in let q = qs.0 in let q' = qs.1.0 in let x : MutBor (MutBor (List ℕ)) = a.0 in
    let b = x.ref_ptr.0 in let o = x.ref_ptr.1 in let γ = x.ghost_name in
    let h : MutBor (List ℕ) = x.now in let b' = h.ref_ptr.0 in let o' = h.ref_ptr.1 in let xs = h.now in
    let i = a.1.0 in let n = a.1.1.0 in let S = MutSlice (named 1) κ' u8 in
    let y : W.Ghost = ((κs, qs, bounds, a, (mut_vals x, (vint w64 i ∷ [], (vint w64 n ∷ [], tt)))), tt) in
    qed 𝓛 (((‵ (flft κ q) ⊛ ‵ (flft κ' q') ⊛ ‵ ftrue) ⊛ ‵ (owns (MutRef (named 0) κ S ∷ usize ∷ usize ∷ []) a y.0.4))
    ∷ raw (fact 𝓤 (i + n ≤ length xs)) ∷ []) ∵ move ! (1 ∷ []) $ heard ! _ (λ le.
    let fi : i < 2 ^ 64 = are.1.0.1 in let fn : n < 2 ^ 64 = are.1.1.0.1 in split ! $ enter ! _ _ _ _ _ $
    alloc_all ! (λ l. pass_all ! refl ((tt, tt), ((tt, record { fits = fi }), ((tt, record { fits = fn }), tt)))
    $ move ! (1 ∷ []) $ fsplit ! $ fsplit3 ! $ drop ! $ move ! (3 ∷ []) $ split ! $
    move ! (2 ∷ 3 ∷ 0 ∷ [])
    $ opens ! tt S b o (λ us. move ! (1 ∷ []) $ fsplit3 ! $ fsplit3 ! $ feq_l ! (λ e. flt_l ! (λ fits. flt_l ! (λ small.
    rewrite ! 2 (λ (ws : List Val). ‵ (cell_at full_share S.mir ws b o)) e refl $ move ! (2 ∷ []) $
    use1 𝓛 (‵ (fat full_share Ref b o (slice_val h.ref_ptr (length xs))))
    (retype 𝓛 full_share (raw_ty Ref) Ref refl b o (slice_val h.ref_ptr (length xs))) $
    -- [the inner slice's cell; its obs and borrow; the outer borrow,
    -- open; obs; auth; the token of κ'; the numbers; the locals]
    let left : length xs - i < 2 ^ 64 = omega (arith, fits) in
    sets ! (of_opd ! (load ! (through ! refl (fld ! refl (stop !))) (look_in ! 0 (sub ! 1 refl (whole !))))) refl
    (tt, record { fits = fits }) $
    sets ! (addr ! (through ! refl (fld ! refl (hop ! (look_in ! 0 (sub ! 0 refl (whole !))) (stop !))))) refl
    (tt, tt) $
    sets ! (agg ! (and_then ! (get ! refl) (and_then ! (get ! refl) (no_more !)))) refl
    (tt, (tt, (record { fits = fits }, tt))) $
    sets ! (bin ! (get_in ! (fld ! refl (stop !)) (sub ! 0 refl (whole !))) (get ! refl) tt) refl (tt, tt) $
    sets ! (bin ! (get_in ! (fld ! refl (stop !)) (sub ! 1 refl (whole !))) (get ! refl) (omega (arith, le))) refl
    (tt, record { fits = left }) $
    sets ! (addr ! (through ! refl (stop !))) refl (tt, tt) $
    sets ! (agg ! (and_then ! (get ! refl) (and_then ! (get ! refl) (no_more !)))) refl
    (tt, (tt, (record { fits = left }, tt))) $
    sets ! (addr ! (from ! (fld ! refl (hop ! (look_in_at ! 10 (sub ! 0 refl (whole !))) (stop !))))) refl (tt, tt) $
    sets ! (agg ! (and_then ! (get ! refl) (and_then ! (get ! refl) (no_more !)))) refl
    (tt, (tt, (record { fits = fn }, tt))) $
    use1 𝓛 (‵ (cell_at full_share S.mir (mut_slice_vals h) b o))
    (retype 𝓛 full_share Ref (raw_ty Ref) refl b o (slice_val h.ref_ptr (length xs))) $ move ! (1 ∷ 2 ∷ []) $
    flt_i ! (length xs * (mem u8).size) (2 ^ 63) small $ flt_i ! (length xs) (2 ^ 64) fits
    $ feq_i ! (List Val) (mut_slice_vals h) (mut_slice_vals h) refl $ fjoin3 ! $ fjoin3 ! $
    move ! (1 ∷ 0 ∷ []) $ closes ! tt S h (mut_slice_vals h) b o $
    use3 𝓛 (later (some (λ (γ' : ℕ). ‵ ((MutSlice (named 0) κ u8).own_val (renamed h γ') (mut_slice_vals h)) ⊛ ‵
    (flft κ q) ⊛ ‵ (follows S (Array u8 0) γ γ' (at_last h)))))
    (lends_inner_slice 𝓛 u8 (named 0) (named 1) κ κ' x bounds.0 (fits, small) q) $ await ! tt $ pick ! (λ γ'. split3 ! $
    use2 𝓛 (later (some (bytes_lent 𝓛 κ q b' o' γ' xs i n))) (lends_bytes 𝓛 κ q b' o' γ' xs i n le (fits, small)
    (mut_slice_vals h)) $ await ! tt $ pick ! (λ δ. split3 ! $ move ! (3 ∷ 2 ∷ []) $
    use2 𝓛 (‵ (follows S (Array u8 0) γ δ (λ w. at_last h (splice xs i w))))
    (follows_then 𝓛 S (Array u8 0) (Array u8 0) (at_last h) (splice xs i) γ γ' δ) $
    -- [the whole follows; the part; the token of κ; the token of κ'; the numbers; the locals]
    returns ! (look_at ! 0 refl) $ free_all ! refl $ keep ! (0 ∷ 1 ∷ 2 ∷ 3 ∷ []) $ let r : MutBor (List ℕ) =
    record { ref_ptr = (b', i + o'); ghost_name = δ; now = take n (drop_list i xs) } in
    suffices ! _ (ends_at 𝓛 f.ended stayed c y (slice_val (b', i + o') n) r (tt, (tt, (tt, tt))) (tt, (tt, (tt, tt))))
    $ move ! (2 ∷ 3 ∷ []) $ join ! $ nothing ! $ nothing ! $ fjoin ! $ nothing ! $
    fjoin ! $ nothing ! $ fjoin ! $ move ! (0 ∷ 3 ∷ []) $ join ! $ move ! (1 ∷ 0 ∷ []) $ join ! $ frame ! $ says ! refl
    $ done !)))))))))
