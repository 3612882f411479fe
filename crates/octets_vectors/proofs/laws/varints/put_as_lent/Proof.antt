-- What `put_varint` lent is left as it was, so that what the cursor follows is the write itself.
use Rattle.octets.proofs.loans
use loans.WalkSteps.{◌≡◌, ℕ, ◌+◌, ◌^◌, ◌<◌, ◌≤◌, List, [], ◌∷◌, length, refl, sym, ap, ◌∙◌, MutBor, proved, id⊢, ftrue}
use loans.WalkSteps.{use1, flft, named, vint, fact, tables, ‵, raw, ◌⊛◌, ◌$◌, ◌∵◌, !, qed, done as ends_here, move}
use loans.WalkSteps.{keep, drop, split, join, fsplit, fjoin, suffices, frame, enter, addr, stop, no_more, and_then}
use loans.WalkSteps.{returns, alloc_all, pass_all, free_all, look_at, get, through, sets, lands_as, u64, w64, yes, owns}
use loans.WalkSteps.{MutRef, mut_vals, mut_Tells, uint_vals, uint_Tells, plain, nothing, heard, shows, Stays, walk_of}
use loans.WalkSteps.{stay_ref, stay_dropped, Goes-ref, Goes-dropped, ends_at, framed}
use Rattle.std.specs.Prelude.{◌↔◌, IsOk, IfOk, OnErr}
use Rattle.std.proofs.Common.{subst}
use Rattle.std.specs.declared.result.Result.TheVariants.{Ok, Err}
use mathlib.Core.Bool.{true≢false}
use base.Fml.{Lft}
use base.Share.{left}
use contract.BorrowLft.{⊑_trans, meet_⊑_right}
use contract.Lifetimes.{Lfts}
use denote.Triple.Clauses.{at_exit}
use Rattle.octets.specs.Bytes.{splice}
use Rattle.octets.specs.Cursor.{bytes, position, rest, IsUnchanged, Writes}
use Rattle.octets.specs.Varints.{IsVarint, shortest, varint}
use Rattle.octets.specs.Loans.{SliceCursor, LendsPut, standing}
use Rattle.octets.proofs.CallerLemmas.{left_as_put, varint_of_width, shortest_width, shortest_holds}
use loans.CallSteps.{calls, hears_both, hears_beside}
use loans.LentValues.{Done, LentBytes, done_typed, lent_bytes_typed}
use loans.Reborrows.{part_of, lends_now, comes_home, knows}
use loans.SliceCursors.{St}
use Rattle.octets.specs.contracts.cursor.writable.loans.OctetsMut.put_varint as g
use Rattle.octets.proofs.cursor.writable.loans.OctetsMut.put_varint.Met.{met as met_put}
use Rattle.octets_script.specs.Left.{LeftSame}
use Rattle.octets_vectors.proofs.ViewEnds.{Behind, last, slice_ends}
use Rattle.octets_vectors.specs.contracts.nested.was_lent as h
use Rattle.octets_vectors.proofs.nested.was_lent.Met.{met as met_was}
use Rattle.octets_vectors.specs.contracts.laws.varints.put_as_lent as f
use Rattle.octets_vectors.proofs.laws.varints.put_as_lent.Statement.{statement}
use Rattle.octets_vectors.proofs.laws.varints.put_as_lent.Code as code

-- what was put and left as it was lent is a write
after : (κα : Lft) (s : SliceCursor) (b : List ℕ) (n : ℕ) (t : LentBytes) (d : Done) (ws : Behind κα t)
    → length b ≡ n → (IsOk t ↔ (n ≤ length (rest s))) → IfOk t (λ r. r.now ≡ b) → (IsOk d ↔ IsOk t)
    → LeftSame t (at_exit h.ended (κα, tt) (t, tt) ws).0
    → let e = last κα s (splice (bytes s) (position s) b) (position s) (position s + n) t ws in
    (IsOk d ↔ (n ≤ length (rest s))) × (IfOk d (λ _. Writes s e b)) × (IfOk d (λ _. position e ≡ position s + n))
    × (OnErr d (IsUnchanged s e))
after κα s b n (Ok r) (Ok u) ws long fits shows same laid =
    let put = left_as_put s b (subst (λ j. j ≤ length (rest s)) (sym long) (fits.0 refl)) in
    let written = subst (λ k. Writes s
    (standing s (splice (splice (bytes s) (position s) b) (position s) k) (position s + n)) b) (sym (laid ∙ shows))
    (subst (λ j. Writes s (standing s (splice (splice (bytes s) (position s) b) (position s) b) (position s + j)) b)
    long put) in
    (((λ _. fits.0 refl), (λ _. refl)), written, written.past ∙ ap (λ j. position s + j) long, tt)
after κα s b n (Ok r) (Err e) ws long fits shows same laid = absurd (true≢false (sym (same.1 refl)))
after κα s b n (Err e) (Ok u) ws long fits shows same laid = absurd (true≢false (sym (same.0 refl)))
after κα s b n (Err e) (Err e') ws long fits shows same laid =
    (((λ k. absurd (true≢false (sym k))), (λ p. fits.1 p)), tt, tt, (refl, refl))

abbrev stayed : Stays f.ended.signature.params f.ended.kept
stayed = (stay_ref (0 ∷ []) tt (plain (λ (κs : Lfts 2). St (named 1) κs.1.0)), (stay_dropped _ yes, tt))

pub put_as_lent_spec : {M : Type 1} → statement M
put_as_lent_spec 𝓤 𝓛 𝓜 𝓡 wired =
    let c = f.clauses 𝓛 𝓜.mem 𝓡.returns in let V = walk_of 𝓛 f.ended stayed c in let 𝓣 = tables 𝓤 𝓛.H 𝓜 𝓡 𝓡.env in
    proved 𝓛 f.ended stayed c 𝓜 𝓡 (
      Goes-ref 𝓛 2 0 tt (plain (λ (κs : Lfts 2). St (named 1) κs.1.0)),
      (Goes-dropped 𝓛 2 (plain (λ _. u64)) yes (λ κs x w. refl), tt),
    )
    f.Key.name code.function (code.unfolded 𝓤 𝓛.H 𝓜 𝓡 wired)
    (λ κs. (mut_vals, (uint_vals w64, tt)))
    (λ κs. (mut_Tells (named 0) κs.0 (St (named 1) κs.1.0), (uint_Tells w64, tt))) (λ κs qs bounds a _ are.
    let κ = κs.0 in let κ' = κs.1.0 in let q = qs.0 in let q' = qs.1.0 in
    let x : MutBor SliceCursor = a.0 in let D' = St (named 1) κ' in let m = a.1.0 in let n = shortest m in
    let b = varint n m in
    let then : List ℕ = splice x.now.buf.now x.now.off b in let i : ℕ = x.now.off in let end : ℕ = x.now.off + n in
    let y : V.Ghost = ((κs, qs, bounds, a, (mut_vals x, (vint w64 m ∷ [], tt))), tt) in
    qed 𝓛 (((‵ (flft κ q) ⊛ ‵ (flft κ' q') ⊛ ‵ ftrue) ⊛ ‵ (owns (MutRef (named 0) κ D' ∷ u64 ∷ []) a y.0.4)) ∷ raw
    (fact 𝓤 (m < 2 ^ 62)) ∷ []) ∵
    move ! (1 ∷ []) $ heard ! _ (λ small. split ! $ enter ! _ _ _ _ _
    $ alloc_all ! (λ l. pass_all ! refl ((tt, tt), ((tt, record { fits = are.1.0.1 }), tt)) $
    sets ! (addr ! (through ! refl (stop !))) refl (tt, tt) $
    split ! $ move ! (2 ∷ []) $ fsplit ! $
    -- [the cursor; the number; the token of κ; the others]
    move ! (2 ∷ 0 ∷ []) $ lends_now ! tt D' κ q x (λ α δ. let κα : Lft = α ∷ κ in let r = part_of q in
    -- [the token of κα; the way back; the loan; the lender's part; the number; the others]
    let x' : MutBor SliceCursor = record x { ghost_name = δ } in
    move ! (2 ∷ 4 ∷ []) $ join ! $ move ! (1 ∷ 4 ∷ []) $ join ! $ join ! $ knows ! small $ move ! (1 ∷ 0 ∷ []) $
    calls ! (framed 𝓤 𝓛.H 𝓜 𝓣) g.ended (g.clauses 𝓛 𝓜.mem 𝓡.returns)
    (met_put 𝓤 𝓛 𝓜 𝓡 (code.calls-octets::cursor::writable::loans::OctetsMut::put_varint 𝓡.env wired)) (
      (
        (κα, (κ', tt)),
        (r, (q', tt)),
        (⊑_trans κα κ κ' (meet_⊑_right (α ∷ []) κ) bounds.0, tt),
        (x', (m, tt)),
        (mut_vals x, (vint w64 m ∷ [], tt)),
      ),
      tt,
    )
    (id⊢ 𝓤 _)
    (and_then ! (get ! refl) (and_then ! (get ! refl) (no_more !))) (λ v t us is. drop ! $
    hears_beside ! (LendsPut x' b n t) (λ fits seen.
    -- [what the loan follows; the tokens; the result; the way back; the lender's part]
    lands_as ! refl refl (lent_bytes_typed κα t v is) $
    move ! (1 ∷ []) $ use1 𝓛 (‵ (flft κα r) ⊛ ‵ (flft κ' q') ⊛ ‵ ftrue) (id⊢ 𝓤 _) $ split ! $
    nothing ! $ move ! (1 ∷ 0 ∷ []) $ join ! $ nothing ! $ move ! (4 ∷ 0 ∷ []) $ join ! $ move ! (1 ∷ 0 ∷ []) $ join ! $
    nothing ! $ move ! (1 ∷ 0 ∷ []) $ calls ! (framed 𝓤 𝓛.H 𝓜 𝓣) h.ended (h.clauses 𝓛 𝓜.mem 𝓡.returns)
    (met_was 𝓤 𝓛 𝓜 𝓡 (code.calls-octets_vectors::nested::was_lent 𝓡.env wired))
    (((κα, tt), (r, tt), tt, (t, tt), (v ∷ [], tt)), tt) (id⊢ 𝓤 _) (and_then ! (get ! refl) (no_more !)) (λ u d ws is'.
    move ! (1 ∷ []) $ hears_both ! (λ same laid. lands_as ! refl refl (done_typed d u is') $
    -- [what was left after the loan; the tokens; the result; the
    -- others; what the loan follows; the way back; the lender's part]
    move ! (1 ∷ []) $ use1 𝓛 (‵ (flft κα r) ⊛ ‵ ftrue) (id⊢ 𝓤 _) $ split ! $ move ! (2 ∷ 5 ∷ 0 ∷ 6 ∷ 7 ∷ [])
    $ comes_home ! tt D' κ q α δ x (last κα x.now then i end t ws) (slice_ends 𝓛 κ κ' κα (left q) x δ then i end t ws) $
    -- [the token of κ; the cursor; nothing; the result; the others]
    returns ! (look_at ! 0 refl) $ free_all ! refl $ keep ! (0 ∷ 1 ∷ 3 ∷ 4 ∷ []) $
    let is : IsVarint b n m = varint_of_width n m (shortest_width m) (shortest_holds m small) in
    let told = after κα x.now b n t d ws is.has_length fits seen same laid in
    suffices ! _ (ends_at 𝓛 f.ended stayed c y u d (last κα x.now then i end t ws, (tt, tt)) (tt, (tt, tt))) $
    move ! (0 ∷ 3 ∷ []) $ join ! $ nothing ! $ nothing ! $ fjoin ! $ move ! (2 ∷ 0 ∷ []) $ fjoin ! $ move ! (0 ∷ 2 ∷ [])
    $ join ! $ move ! (1 ∷ 0 ∷ []) $ join ! $ frame ! $
    knows ! told.3 $ knows ! told.2 $ knows ! told.1 $ knows ! told.0 $ ends_here !))))))))
