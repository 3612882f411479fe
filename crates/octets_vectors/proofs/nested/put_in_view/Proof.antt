-- The cursor is lent again to the call that lends a view, for a lifetime of its own. The view is passed from call
-- to call. What it holds at the end is what the cursor holds when it comes back.
use Rattle.octets.proofs.loans
use loans.WalkSteps.{ℕ, ◌+◌, ◌^◌, ◌<◌, ◌≤◌, List, [], ◌∷◌, length, take, refl, arith, MutBor, proved, id⊢, ftrue, use1}
use loans.WalkSteps.{flft, named, vint, fact, tables, ‵, raw, ◌⊛◌, ◌$◌, ◌∵◌, !, qed, done as ends_here, move, keep}
use loans.WalkSteps.{drop, split, join, fsplit, fjoin, suffices, frame, enter, addr, stop, no_more, and_then, returns}
use loans.WalkSteps.{alloc_all, pass_all, free_all, look_at, get, through, sets, lands_as, u8, usize, w8, w64, yes}
use loans.WalkSteps.{owns, MutRef, mut_vals, mut_Tells, uint_vals, uint_Tells, plain, nothing, heard, Stays, walk_of}
use loans.WalkSteps.{stay_ref, stay_dropped, Goes-ref, Goes-dropped, ends_at, framed}
use Rattle.std.specs.Prelude.{drop as drop_list}
use base.Fml.{Lft}
use base.Share.{left}
use contract.BorrowLft.{⊑_trans, meet_⊑_right}
use contract.Lifetimes.{Lfts}
use Rattle.octets.specs.Bytes.{splice}
use Rattle.octets.specs.Loans.{SliceCursor, LendsView}
use Rattle.std.proofs.Common.{length-drop}
use Rattle.std.proofs.lemmas.List.{length-take}
use Rattle.octets_vectors.proofs.ViewLists.{has_room, put_at_start}
use loans.CallSteps.{calls, hears_both, hears_beside}
use loans.LentValues.{done_typed}
use loans.LentValues.{lent_bytes_typed, lent_view_typed}
use loans.Reborrows.{part_of, lends_now, comes_home, knows}
use loans.SliceCursors.{St}
use Rattle.octets.specs.contracts.cursor.writable.loans.OctetsMut.get_bytes_mut as g
use Rattle.octets.proofs.cursor.writable.loans.OctetsMut.get_bytes_mut.Met.{met as met_lend}
use Rattle.octets_script.specs.Left.{Hands}
use Rattle.octets_vectors.proofs.ViewEnds.{after, ends, last}
use Rattle.octets_vectors.specs.contracts.nested.put_first as p
use Rattle.octets_vectors.proofs.nested.put_first.Met.{met as met_put}
use Rattle.octets_vectors.specs.contracts.nested.was_lent as h
use Rattle.octets_vectors.proofs.nested.was_lent.Met.{met as met_was}
use Rattle.octets_vectors.specs.contracts.nested.put_in_view as f
use Rattle.octets_vectors.proofs.nested.put_in_view.Statement.{statement}
use Rattle.octets_vectors.proofs.nested.put_in_view.Code as code

abbrev stayed : Stays f.ended.signature.params f.ended.kept
stayed = (
  stay_ref (0 ∷ []) tt (plain (λ (κs : Lfts 2). St (named 1) κs.1.0)),
  (stay_dropped _ yes, (stay_dropped _ yes, tt)),
)

pub put_in_view_spec : {M : Type 1} → statement M
put_in_view_spec 𝓤 𝓛 𝓜 𝓡 wired =
    let c = f.clauses 𝓛 𝓜.mem 𝓡.returns in let V = walk_of 𝓛 f.ended stayed c in let 𝓣 = tables 𝓤 𝓛.H 𝓜 𝓡 𝓡.env in
    proved 𝓛 f.ended stayed c 𝓜 𝓡 (
      Goes-ref 𝓛 2 0 tt (plain (λ (κs : Lfts 2). St (named 1) κs.1.0)),
      (
        Goes-dropped 𝓛 2 (plain (λ _. usize)) yes (λ κs x w. refl),
        (Goes-dropped 𝓛 2 (plain (λ _. u8)) yes (λ κs x w. refl), tt),
      ),
    )
    f.Key.name code.function (code.unfolded 𝓤 𝓛.H 𝓜 𝓡 wired)
    (λ κs. (mut_vals, (uint_vals w64, (uint_vals w8, tt)))) (λ κs.
    (mut_Tells (named 0) κs.0 (St (named 1) κs.1.0), (uint_Tells w64, (uint_Tells w8, tt)))) (λ κs qs bounds a _ are.
    let κ = κs.0 in let κ' = κs.1.0 in let q = qs.0 in let q' = qs.1.0 in
    let x : MutBor SliceCursor = a.0 in let D' = St (named 1) κ' in
    let m0 = a.1.0 in let f0 : m0 < 2 ^ 64 = are.1.0.1 in
    let m1 = a.1.1.0 in let f1 : m1 < 2 ^ 8 = are.1.1.0.1 in
    let then : List ℕ = x.now.buf.now in let i : ℕ = x.now.off in let end : ℕ = x.now.off + m0 in
    let shown : List ℕ = take m0 (drop_list x.now.off x.now.buf.now) in
    let kept : List ℕ = splice shown 0 (m1 ∷ []) in
    let fun : SliceCursor → List ℕ = λ v. splice v.buf.now v.off (m1 ∷ []) in
    let P : Type 0 = m0 ≤ length (drop_list x.now.off x.now.buf.now) in
    let y : V.Ghost = ((κs, qs, bounds, a, (mut_vals x, (vint w64 m0 ∷ [], (vint w8 m1 ∷ [], tt)))), tt) in
    qed 𝓛 (((‵ (flft κ q) ⊛ ‵ (flft κ' q') ⊛ ‵ ftrue) ⊛ ‵ (owns (MutRef (named 0) κ D' ∷ usize ∷ u8 ∷ []) a y.0.4))
    ∷ raw (fact 𝓤 (1 ≤ m0)) ∷ []) ∵
    move ! (1 ∷ []) $ heard ! _ (λ asked. split ! $ enter ! _ _ _ _ _
    $ alloc_all ! (λ l. pass_all ! refl ((tt, tt), ((tt, record { fits = f0 }), ((tt, record { fits = f1 }), tt))) $
    sets ! (addr ! (through ! refl (stop !))) refl (tt, tt) $
    split ! $ move ! (2 ∷ []) $ fsplit ! $ move ! (1 ∷ []) $ fsplit ! $ nothing ! $ move ! (1 ∷ 0 ∷ []) $ join ! $
    -- [the length; the other arguments; the cursor; the token of κ; of κ']
    move ! (3 ∷ 2 ∷ []) $ lends_now ! tt D' κ q x (λ α δ. let κα : Lft = α ∷ κ in let r = part_of q in
    -- [the token of κα; the way back; the loan; the lender's part; the length; the other arguments; κ']
    let x' : MutBor SliceCursor = record x { ghost_name = δ } in
    move ! (2 ∷ 4 ∷ []) $ join ! $ move ! (1 ∷ 5 ∷ []) $ join ! $ join ! $ nothing ! $ move ! (1 ∷ 0 ∷ []) $
    calls ! (framed 𝓤 𝓛.H 𝓜 𝓣) g.ended (g.clauses 𝓛 𝓜.mem 𝓡.returns)
    (met_lend 𝓤 𝓛 𝓜 𝓡 (code.calls-octets::cursor::writable::loans::OctetsMut::get_bytes_mut 𝓡.env wired)) (
      (
        (κα, (κ', tt)),
        (r, (q', tt)),
        (⊑_trans κα κ κ' (meet_⊑_right (α ∷ []) κ) bounds.0, tt),
        (x', (m0, tt)),
        (mut_vals x, (vint w64 m0 ∷ [], tt)),
      ),
      tt,
    )
    (id⊢ 𝓤 _)
    (and_then ! (get ! refl) (and_then ! (get ! refl) (no_more !))) (λ v t us is. drop ! $
    hears_beside ! (LendsView x' then i end t) (λ fits seen.
    -- [what the loan follows; the tokens; the view; the way back; the lender's part; the other arguments]
    lands_as ! refl refl (lent_view_typed κα t v is) $
    move ! (1 ∷ []) $ use1 𝓛 (‵ (flft κα r) ⊛ ‵ (flft κ' q') ⊛ ‵ ftrue) (id⊢ 𝓤 _) $ split ! $
    nothing ! $ move ! (1 ∷ 0 ∷ []) $ join ! $ move ! (3 ∷ 6 ∷ []) $ join ! $ move ! (1 ∷ 0 ∷ []) $ join ! $
    knows ! (has_room t shown 1 P fits (λ asks. let e = length-take m0 (drop_list x.now.off x.now.buf.now) in
    omega (arith, asked, asks, e)) seen) $ move ! (1 ∷ 0 ∷ []) $
    calls ! (framed 𝓤 𝓛.H 𝓜 𝓣) p.ended (p.clauses 𝓛 𝓜.mem 𝓡.returns)
    (met_put 𝓤 𝓛 𝓜 𝓡 (code.calls-octets_vectors::nested::put_first 𝓡.env wired))
    (((κα, tt), (r, tt), tt, (t, (m1, tt)), (v ∷ [], (vint w8 m1 ∷ [], tt))), tt)
    (id⊢ 𝓤 _) (and_then ! (get ! refl) (and_then ! (get ! refl) (no_more !))) (λ m s us is₁. drop ! $
    heard ! (Hands t s fun) (λ hands. lands_as ! refl refl (lent_bytes_typed κα s m is₁) $
    -- [the token; the slice; κ'; what the loan follows; the way back; the lender's part]
    move ! (1 ∷ []) $ nothing ! $ move ! (1 ∷ 0 ∷ []) $ join ! $ move ! (1 ∷ 0 ∷ []) $ join ! $
    nothing ! $ move ! (1 ∷ 0 ∷ []) $ calls ! (framed 𝓤 𝓛.H 𝓜 𝓣) h.ended (h.clauses 𝓛 𝓜.mem 𝓡.returns)
    (met_was 𝓤 𝓛 𝓜 𝓡 (code.calls-octets_vectors::nested::was_lent 𝓡.env wired))
    (((κα, tt), (r, tt), tt, (s, tt), (m ∷ [], tt)), tt) (id⊢ 𝓤 _) (and_then ! (get ! refl) (no_more !)) (λ u d ws is'.
    move ! (1 ∷ []) $ hears_both ! (λ same laid. lands_as ! refl refl (done_typed d u is') $
    -- [what was left after the slice; the token of κα; the result;
    -- κ'; what the loan follows; the way back; the lender's part]
    move ! (1 ∷ []) $ use1 𝓛 (‵ (flft κα r) ⊛ ‵ ftrue) (id⊢ 𝓤 _) $ split ! $ move ! (2 ∷ 5 ∷ 0 ∷ 6 ∷ 7 ∷ [])
    $ comes_home ! tt D' κ q α δ x (last κα x.now then i end s ws)
    (ends 𝓛 κ κ' κα (left q) x δ then i end fun t s ws hands) $
    -- [the token of κ; the cursor; nothing; the result; κ']
    returns ! (look_at ! 0 refl) $ free_all ! refl $ keep ! (0 ∷ 1 ∷ 3 ∷ 4 ∷ []) $
    let told = after κα x.now then shown kept i end P fun t s d ws
    (λ asks. let rest = length-drop x.now.off x.now.buf.now in let within = x.now.within in
    omega (arith, asks, rest, within)) (λ v seen. put_at_start v shown (m1 ∷ []) seen) fits seen hands same laid in
    suffices ! _ (ends_at 𝓛 f.ended stayed c y u d (last κα x.now then i end s ws, (tt, (tt, tt))) (tt, (tt, (tt, tt))))
    $
    move ! (0 ∷ 3 ∷ []) $ join ! $ nothing ! $ nothing ! $ fjoin ! $ nothing ! $ fjoin ! $ move ! (2 ∷ 0 ∷ []) $ fjoin !
    $ move ! (0 ∷ 2 ∷ []) $ join ! $ move ! (1 ∷ 0 ∷ []) $ join ! $ frame ! $
    knows ! told.4 $ knows ! told.3 $ knows ! told.2 $ knows ! told.1 $ knows ! told.0 $ ends_here !))))))))))
