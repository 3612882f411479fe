-- The width is one, which holds 63: the call lends that byte, and the cursor follows.
use Rattle.octets.proofs.loans
use loans.WalkSteps.{◌-◌, ◌*◌, ◌^◌, ◌<◌, [], ◌∷◌, refl, lit<, MutBor, proved, id⊢, emp, ftrue, flft, named, vint}
use loans.WalkSteps.{tables, ‵, raw, ◌⊛◌, ◌$◌, ◌∵◌, !, qed, move, keep, drop, split, join, fsplit, suffices, enter}
use loans.WalkSteps.{addr, stop, no_more, and_then, lit, returns, alloc_all, pass_all, free_all, look_at, get, through}
use loans.WalkSteps.{sets, lands_as, u64, usize, w64, no, owns, MutRef, mut_vals, mut_Tells, uint_Makes, plain, nothing}
use loans.WalkSteps.{owned, Stays, walk_of, stay_dropped, Goes-spent_ref, ends_at, framed}
use Rattle.std.proofs.Common.{inl}
use contract.Lifetimes.{Lfts}
use Rattle.octets.specs.Varints.{varint}
use Rattle.octets.specs.Loans.{SliceCursor, LendsPut}
use loans.CallSteps.{calls, hears_beside, hands_over}
use loans.LentValues.{lent_bytes_typed}
use loans.Reborrows.{knows}
use loans.SliceCursors.{St}
use Rattle.octets.specs.contracts.cursor.writable.loans.OctetsMut.put_varint_with_len as g
use Rattle.octets.proofs.cursor.writable.loans.OctetsMut.put_varint_with_len.Met.{met as met_put}
use Rattle.octets_vectors.specs.contracts.edges.put_greatest_in_one as f
use Rattle.octets_vectors.proofs.edges.put_greatest_in_one.Statement.{statement}
use Rattle.octets_vectors.proofs.edges.put_greatest_in_one.Code as code

abbrev stayed : Stays f.ended.signature.params f.ended.kept
stayed = (stay_dropped _ no, tt)

pub put_greatest_in_one_spec : {M : Type 1} → statement M
put_greatest_in_one_spec 𝓤 𝓛 𝓜 𝓡 wired =
    let c = f.clauses 𝓛 𝓜.mem 𝓡.returns in let V = walk_of 𝓛 f.ended stayed c in let 𝓣 = tables 𝓤 𝓛.H 𝓜 𝓡 𝓡.env in
    proved 𝓛 f.ended stayed c 𝓜 𝓡 (Goes-spent_ref 𝓛 2 (0 ∷ []) tt (plain (λ (κs : Lfts 2). St (named 1) κs.1.0)), tt)
    f.Key.name code.function (code.unfolded 𝓤 𝓛.H 𝓜 𝓡 wired)
    (λ κs. (mut_vals, tt)) (λ κs. (mut_Tells (named 0) κs.0 (St (named 1) κs.1.0), tt)) (λ κs qs bounds a _ are.
    let κ = κs.0 in let κ' = κs.1.0 in let q = qs.0 in let q' = qs.1.0 in
    let x : MutBor SliceCursor = a.0 in let D' = St (named 1) κ' in let small : 63 < 2 ^ (8 * 1 - 2) = lit< tt in
    let y : V.Ghost = ((κs, qs, bounds, a, (mut_vals x, tt)), tt) in
    qed 𝓛
    (((‵ (flft κ q) ⊛ ‵ (flft κ' q') ⊛ ‵ ftrue) ⊛ ‵ (owns (MutRef (named 0) κ D' ∷ []) a y.0.4)) ∷ raw (emp 𝓤) ∷ []) ∵
    split ! $ enter ! _ _ _ _ _ $ alloc_all ! (λ l. pass_all ! refl ((tt, tt), tt) $
    sets ! (addr ! (through ! refl (stop !))) refl (tt, tt) $
    -- [the tokens; the argument; nothing], and the number
    move ! (1 ∷ []) $ fsplit ! $ owned ! usize _ (uint_Makes 𝓛 w64) 1 (vint w64 1 ∷ []) (refl, lit< tt)
    $ move ! (0 ∷ 2 ∷ []) $ join ! $
    owned ! u64 _ (uint_Makes 𝓛 w64) 63 (vint w64 63 ∷ []) (refl, lit< tt) $ join ! $ move ! (1 ∷ 0 ∷ []) $ join !
    $ move ! (1 ∷ 0 ∷ []) $ join ! $
    knows ! small $ knows ! (inl refl) $ join ! $ move ! (1 ∷ 0 ∷ []) $
    calls ! (framed 𝓤 𝓛.H 𝓜 𝓣) g.ended (g.clauses 𝓛 𝓜.mem 𝓡.returns)
    (met_put 𝓤 𝓛 𝓜 𝓡 (code.calls-octets::cursor::writable::loans::OctetsMut::put_varint_with_len 𝓡.env wired)) (
      (
        (κ, (κ', tt)),
        (q, (q', tt)),
        (bounds.0, tt),
        (x, (63, (1, tt))),
        (mut_vals x, (vint w64 63 ∷ [], (vint w64 1 ∷ [], tt))),
      ),
      tt,
    ) (id⊢ 𝓤 _)
    (and_then ! (get ! refl) (and_then ! (lit ! tt) (and_then ! (lit ! tt) (no_more !)))) (λ v t ws is. drop ! $
    hears_beside ! (LendsPut x (varint 1 63) 1 t) (λ fits seen.
    -- [what the loan follows; the tokens; the result]
    lands_as ! refl refl (lent_bytes_typed κ t v is) $
    returns ! (look_at ! 0 refl) $ free_all ! refl $ keep ! (0 ∷ 1 ∷ 2 ∷ []) $
    suffices ! _ (ends_at 𝓛 f.ended stayed c y v t (tt, tt) (tt, tt)) $
    hands_over ! 1 fits seen))))
