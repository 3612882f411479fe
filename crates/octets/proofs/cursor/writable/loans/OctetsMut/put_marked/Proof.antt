-- The cursor is lent again to the call that writes and finds the part, for
-- a lifetime of its own, and comes back; then `lend_part` lends the part.
use Rattle.octets.proofs.cursor.writable.loans as loan_calls
use Rattle.octets.specs
use Rattle.octets.proofs.loans
use loans.WalkSteps.{◌≡◌, ℕ, ◌+◌, ◌^◌, ◌<◌, List, [], ◌∷◌, refl, MutBor, proved, id⊢, ftrue, use1, flft}
use loans.WalkSteps.{named, vint, fact, tables, ‵, raw, ◌⊛◌, ◌$◌, ◌∵◌, !, qed, move, keep, drop, split, join, fsplit}
use loans.WalkSteps.{rewrite, suffices, enter, addr, stop, no_more, and_then, returns, alloc_all, pass_all, free_all}
use loans.WalkSteps.{look_at, get, through, sets, lands_as, u64, usize, w64, yes, no, owns, MutRef, mut_vals}
use loans.WalkSteps.{mut_Tells, uint_vals, uint_Tells, plain, nothing, Stays, walk_of, stay_dropped, Goes-dropped}
use loans.WalkSteps.{Goes-spent_ref, ends_at, framed}
use base.Fml.{Fml, Lft}
use contract.BorrowLft.{⊑_trans, meet_⊑_right}
use contract.Lifetimes.{Lfts}
use specs.Bytes.{splice, network}
use specs.Varints.{IsWidth}
use specs.Marked.{marked}
use specs.Loans.{SliceCursor, LendsBytes}
use specs.Parts.{from_of}
use loans.LentValues.{lent_bytes_typed}
use loans.PartValues.{maybe_part_typed}
use loans.Reborrows.{part_of, lends_now, comes_left, knows}
use loans.CallSteps.{calls, hears_both, hears_beside, hands_over}
use loans.Recasts.{both_ways, is_within, recast, reshown}
use loans.SliceCursors.{St}
use Rattle.octets.proofs.lemmas.Numbers.{length_network}
use Rattle.octets.proofs.lemmas.Splices.{part-spliced}
use specs.contracts.cursor.writable.loans.OctetsMut.put_marked as f
use loan_calls.OctetsMut.put_marked.Statement.{statement}
use loan_calls.OctetsMut.put_marked.Code as code
use specs.contracts.cursor.writable.loans.parts.OctetsMut.part_of_marked as g
use loan_calls.parts.OctetsMut.part_of_marked.Met.{met as met_part}
use specs.contracts.cursor.writable.loans.OctetsMut.lend_part as h
use loan_calls.OctetsMut.lend_part.Met.{met as met_lend}

abbrev stayed : Stays f.ended.signature.params f.ended.kept
stayed = (stay_dropped _ no, (stay_dropped _ yes, (stay_dropped _ yes, tt)))

pub put_marked_spec : {M : Type 1} → statement M
put_marked_spec 𝓤 𝓛 𝓜 𝓡 wired =
    let c = f.clauses 𝓛 𝓜.mem 𝓡.returns in let V = walk_of 𝓛 f.ended stayed c in let 𝓣 = tables 𝓤 𝓛.H 𝓜 𝓡 𝓡.env in
    let goes = Goes-dropped 𝓛 2 (plain (λ _. usize)) yes (λ κs x w. refl) in
    proved 𝓛 f.ended stayed c 𝓜 𝓡
    (Goes-spent_ref 𝓛 2 (0 ∷ []) tt (plain (λ (κs : Lfts 2). St (named 1) κs.1.0)), (goes, (goes, tt)))
    f.Key.name code.function (code.unfolded 𝓤 𝓛.H 𝓜 𝓡 wired)
    (λ κs. (mut_vals, (uint_vals w64, (uint_vals w64, tt)))) (λ κs.
    (mut_Tells (named 0) κs.0 (St (named 1) κs.1.0), (uint_Tells w64, (uint_Tells w64, tt)))) (λ κs qs bounds a _ are.
    let κ = κs.0 in let κ' = κs.1.0 in let q = qs.0 in let q' = qs.1.0 in let x : MutBor SliceCursor = a.0 in
    let D' = St (named 1) κ' in
    let m0 = a.1.0 in let f0 : m0 < 2 ^ 64 = are.1.0.1 in let m1 = a.1.1.0 in let f1 : m1 < 2 ^ 64 = are.1.1.0.1 in
    let then : List ℕ = splice x.now.buf.now x.now.off (network m1 (marked m1 m0)) in
    let i : ℕ = x.now.off in let n : ℕ = m1 in
    let end : ℕ = x.now.off + m1 in
    let y : V.Ghost = ((κs, qs, bounds, a, (mut_vals x, (vint w64 m0 ∷ [], (vint w64 m1 ∷ [], tt)))), tt) in
    qed 𝓛 (((‵ (flft κ q) ⊛ ‵ (flft κ' q') ⊛ ‵ ftrue) ⊛ ‵ (owns (MutRef (named 0) κ D' ∷ u64 ∷ usize ∷ []) a y.0.4))
    ∷ raw (fact 𝓤 (IsWidth m1)) ∷ []) ∵ split ! $ enter ! _ _ _ _ _
    $ alloc_all ! (λ l. pass_all ! refl ((tt, tt), ((tt, record { fits = f0 }), ((tt, record { fits = f1 }), tt))) $
    sets ! (addr ! (through ! refl (stop !))) refl (tt, tt) $
    -- the cursor is lent for a lifetime of its own
    split ! $ move ! (2 ∷ []) $ fsplit ! $ move ! (2 ∷ 0 ∷ []) $ lends_now ! tt D' κ q x (λ α δ. let κα : Lft = α ∷ κ in
    -- [the token of κα; the way back; the loan; the lender's part; the numbers; κ'; what is asked]
    move ! (2 ∷ 4 ∷ []) $ join ! $ move ! (1 ∷ 4 ∷ []) $ join ! $ join ! $ move ! (0 ∷ 3 ∷ []) $
    calls ! (framed 𝓤 𝓛.H 𝓜 𝓣) g.ended (g.clauses 𝓛 𝓜.mem 𝓡.returns) (met_part 𝓤 𝓛 𝓜 𝓡
    (code.calls-octets::cursor::writable::loans::parts::OctetsMut::part_of_marked 𝓡.env wired)) (
      (
        (κα, (κ', tt)),
        (part_of q, (q', tt)),
        (⊑_trans κα κ κ' (meet_⊑_right (α ∷ []) κ) bounds.0, tt),
        (record x { ghost_name = δ }, (m0, (m1, tt))),
        (mut_vals x, (vint w64 m0 ∷ [], (vint w64 m1 ∷ [], tt))),
      ),
      tt,
    )
    (id⊢ 𝓤 _) (and_then ! (get ! refl) (and_then ! (get ! refl) (and_then ! (get ! refl) (no_more !)))) (λ v t ws is.
    move ! (1 ∷ []) $ hears_both ! (λ fits leaves. lands_as ! refl refl (maybe_part_typed t v is) $
    sets ! (addr ! (through ! refl (stop !))) refl (tt, tt) $
    -- and comes back: [what is left after the loan; the tokens; the part; the way back; the lender's part]
    let x₁ : MutBor SliceCursor = record x { now = ws.0 } in move ! (1 ∷ []) $
    use1 𝓛 (‵ (flft κα (part_of q)) ⊛ ‵ (flft κ' q') ⊛ ‵ ftrue) (id⊢ 𝓤 _) $ split ! $
    move ! (2 ∷ 0 ∷ 4 ∷ 5 ∷ []) $ comes_left ! tt D' κ q α δ x ws.0 $
    -- [the token of κ; the cursor; κ'; the part]
    nothing ! $ move ! (4 ∷ 0 ∷ []) $ join ! $ move ! (2 ∷ 0 ∷ []) $ join ! $ move ! (1 ∷ 2 ∷ []) $ join ! $
    move ! (0 ∷ 1 ∷ []) $ join ! $ knows ! (is_within x.now ws.0 t then i n end leaves) $ move ! (1 ∷ 0 ∷ []) $
    calls ! (framed 𝓤 𝓛.H 𝓜 𝓣) h.ended (h.clauses 𝓛 𝓜.mem 𝓡.returns)
    (met_lend 𝓤 𝓛 𝓜 𝓡 (code.calls-octets::cursor::writable::loans::OctetsMut::lend_part 𝓡.env wired))
    (((κ, (κ', tt)), (q, (q', tt)), (bounds.0, tt), (x₁, (t, tt)), (mut_vals x, (v ∷ [], tt))), tt)
    (id⊢ 𝓤 _) (and_then ! (get ! refl) (and_then ! (get ! refl) (no_more !))) (λ w s us is₁. drop ! $
    hears_beside ! (LendsBytes x₁ ws.0.buf.now (from_of t) ws.0.off s) (λ same shown.
    -- [what the cursor follows; the tokens; the result]
    lands_as ! refl refl (lent_bytes_typed κ s w is₁) $ rewrite ! 0 (λ (X : Fml). ‵ X)
    (recast (λ (v : MutBor (List ℕ)). v.ghost_name) s x.ghost_name x.now ws.0 t then i n end leaves same) refl $
    returns ! (look_at ! 0 refl) $ free_all ! refl $ keep ! (0 ∷ 1 ∷ 2 ∷ []) $
    suffices ! _ (ends_at 𝓛 f.ended stayed c y w s (tt, (tt, (tt, tt))) (tt, (tt, (tt, tt)))) $
    hands_over ! 3 (both_ways same fits) (reshown (λ (b : List ℕ) (r : MutBor (List ℕ)). r.now ≡ b)
    x.now ws.0 t s then i n end (network m1 (marked m1 m0)) leaves same
    (λ inside. part-spliced x.now.buf.now x.now.off m1 (network m1 (marked m1 m0))
    (length_network m1 (marked m1 m0)) inside) shown))))))))
