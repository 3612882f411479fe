-- As OverWalks has it for one argument, here with a number and a width.
use Rattle.octets.proofs.loans
use loans.WalkSteps.{ℕ, ◌+◌, ◌-◌, ◌*◌, ◌^◌, ◌<◌, ◌≤◌, List, [], ◌∷◌, length, refl, arith, MutBor, proved, id⊢, ftrue}
use loans.WalkSteps.{use1, flft, named, vint, fact, tables, ‵, raw, ◌⊛◌, ◌$◌, ◌∵◌, !, qed, done as ends_here, move}
use loans.WalkSteps.{keep, drop, split, join, fsplit, fjoin, suffices, frame, enter, addr, stop, no_more, and_then}
use loans.WalkSteps.{returns, alloc_all, pass_all, free_all, look_at, get, through, sets, lands_as, u8, u64, usize, w64}
use loans.WalkSteps.{yes, owns, MutRef, mut_vals, mut_Tells, uint_vals, uint_Tells, plain, nothing, heard, Stays}
use loans.WalkSteps.{walk_of, stay_ref, stay_dropped, Goes-ref, Goes-dropped, ends_at, framed}
use Rattle.std.specs.Prelude.{drop as drop_list}
use base.Fml.{Lft}
use base.Share.{left}
use contract.BorrowLft.{⊑_trans, meet_⊑_right}
use contract.Lifetimes.{Lfts}
use denote.Ref.{Bor}
use denote.Signature.{shr_slice_of}
use denote.Slice.{ShrSlice, shr_slice_vals, shr_slice_Tells}
use Rattle.octets.specs.Bytes.{splice}
use Rattle.octets.specs.Loans.{SliceCursor, LendsBytes}
use Rattle.std.proofs.Common.{length-drop}
use Rattle.octets.proofs.lemmas.Splices.{length_splice}
use Rattle.octets.specs.Varints.{IsWidth, varint}
use loans.CallSteps.{calls, hears_both, hears_beside}
use loans.LentValues.{done_typed, lent_bytes_typed}
use loans.Reborrows.{part_of, lends_now, comes_home, knows}
use loans.SliceCursors.{St}
use Rattle.octets.specs.contracts.cursor.writable.loans.OctetsMut.put_varint_with_len as g
use Rattle.octets.proofs.cursor.writable.loans.OctetsMut.put_varint_with_len.Met.{met as met_lend}
use Rattle.octets_script.proofs.Overs.{after, ends, last}
use Rattle.octets_script.specs.contracts.over.slices.over_part as h
use Rattle.octets_script.proofs.over.slices.over_part.Met.{met as met_over}
use Rattle.octets_script.specs.contracts.over.slices.put_wide_then_overwrite as f
use Rattle.octets_script.proofs.over.slices.put_wide_then_overwrite.Statement.{statement}
use Rattle.octets_script.proofs.over.slices.put_wide_then_overwrite.Code as code

abbrev stayed : Stays f.ended.signature.params f.ended.kept
stayed = (
  stay_ref (0 ∷ []) tt (plain (λ (κs : Lfts 3). St (named 1) κs.1.0)),
  (stay_dropped _ yes, (stay_dropped _ yes, (stay_dropped _ yes, tt))),
)

pub put_wide_then_overwrite_spec : {M : Type 1} → statement M
put_wide_then_overwrite_spec 𝓤 𝓛 𝓜 𝓡 wired =
    let c = f.clauses 𝓛 𝓜.mem 𝓡.returns in let V = walk_of 𝓛 f.ended stayed c in let 𝓣 = tables 𝓤 𝓛.H 𝓜 𝓡 𝓡.env in
    proved 𝓛 f.ended stayed c 𝓜 𝓡 (
      Goes-ref 𝓛 3 0 tt (plain (λ (κs : Lfts 3). St (named 1) κs.1.0)),
      (
        Goes-dropped 𝓛 3 (plain (λ _. u64)) yes (λ κs x w. refl),
        (
          Goes-dropped 𝓛 3 (plain (λ _. usize)) yes (λ κs x w. refl),
          (Goes-dropped 𝓛 3 (shr_slice_of (2 ∷ []) tt (plain (λ _. u8))) yes (λ κs x w. refl), tt),
        ),
      ),
    )
    f.Key.name code.function (code.unfolded 𝓤 𝓛.H 𝓜 𝓡 wired)
    (λ κs. (mut_vals, (uint_vals w64, (uint_vals w64, (shr_slice_vals, tt)))))
    (λ κs. (
      mut_Tells (named 0) κs.0 (St (named 1) κs.1.0),
      (uint_Tells w64, (uint_Tells w64, (shr_slice_Tells (named 2) κs.1.1.0 u8, tt))),
    )) (λ κs qs bounds a _ are.
    let κ = κs.0 in let κ' = κs.1.0 in let κw = κs.1.1.0 in let q = qs.0 in let q' = qs.1.0 in let qw = qs.1.1.0 in
    let x : MutBor SliceCursor = a.0 in let D' = St (named 1) κ' in let w : Bor (List ℕ) = a.1.1.1.0 in
    let m0 = a.1.0 in let f0 : m0 < 2 ^ 64 = are.1.0.1 in
    let m1 = a.1.1.0 in let f1 : m1 < 2 ^ 64 = are.1.1.0.1 in
    let then : List ℕ = splice x.now.buf.now x.now.off (varint m1 m0) in let i : ℕ = x.now.off in
    let end : ℕ = x.now.off + m1 in
    let shown : List ℕ = varint m1 m0 in let P : Type 0 = m1 ≤ length (drop_list x.now.off x.now.buf.now) in
    let y : V.Ghost =
    ((κs, qs, bounds, a, (mut_vals x, (vint w64 m0 ∷ [], (vint w64 m1 ∷ [], (shr_slice_vals w, tt))))), tt) in
    qed 𝓛 (((‵ (flft κ q) ⊛ ‵ (flft κ' q') ⊛ ‵ (flft κw qw) ⊛ ‵ ftrue) ⊛ ‵
    (owns (MutRef (named 0) κ D' ∷ u64 ∷ usize ∷ ShrSlice (named 2) κw u8 ∷ []) a y.0.4))
    ∷ (raw (fact 𝓤 (IsWidth m1)) ⊛ raw (fact 𝓤 (m0 < 2 ^ (8 * m1 - 2)))) ∷ []) ∵
    move ! (1 ∷ []) $ split ! $ heard ! _ (λ asked. heard ! _
    (λ asked₂. split ! $ enter ! _ _ _ _ _ $ alloc_all ! (λ l. pass_all ! refl (
      (tt, tt),
      (
        (tt, record { fits = f0 }),
        ((tt, record { fits = f1 }), ((tt, (tt, (record { fits = are.1.1.1.0.0.1.0 }, tt))), tt)),
      ),
    ) $
    sets ! (addr ! (through ! refl (stop !))) refl (tt, tt) $
    split ! $ move ! (1 ∷ []) $ split ! $ move ! (3 ∷ []) $ fsplit ! $ move ! (1 ∷ []) $ fsplit ! $ move ! (1 ∷ [])
    $ fsplit ! $ nothing ! $ move ! (1 ∷ 0 ∷ [])
    $ join ! $ move ! (2 ∷ 0 ∷ []) $ join ! $
    -- [the arguments; w; the cursor; the token of κ'; of κw; of κ]
    move ! (5 ∷ 2 ∷ []) $ lends_now ! tt D' κ q x (λ α δ. let κα : Lft = α ∷ κ in let r = part_of q in
    -- [the token of κα; the way back; the loan; the lender's part; the arguments; w; κ'; κw]
    let x' : MutBor SliceCursor = record x { ghost_name = δ } in
    move ! (2 ∷ 4 ∷ []) $ join ! $ nothing ! $ move ! (6 ∷ 0 ∷ []) $ join ! $ move ! (2 ∷ 0 ∷ []) $ join ! $ join ! $
    knows ! asked₂ $ knows ! asked $ join ! $ move ! (1 ∷ 0 ∷ []) $
    calls ! (framed 𝓤 𝓛.H 𝓜 𝓣) g.ended (g.clauses 𝓛 𝓜.mem 𝓡.returns)
    (met_lend 𝓤 𝓛 𝓜 𝓡 (code.calls-octets::cursor::writable::loans::OctetsMut::put_varint_with_len 𝓡.env wired)) (
      (
        (κα, (κ', tt)),
        (r, (q', tt)),
        (⊑_trans κα κ κ' (meet_⊑_right (α ∷ []) κ) bounds.0, tt),
        (x', (m0, (m1, tt))),
        (mut_vals x, (vint w64 m0 ∷ [], (vint w64 m1 ∷ [], tt))),
      ),
      tt,
    )
    (id⊢ 𝓤 _) (and_then ! (get ! refl) (and_then ! (get ! refl) (and_then ! (get ! refl) (no_more !))))
    (λ v t us is. drop ! $
    hears_beside ! (LendsBytes x' then i end t) (λ fits seen.
    -- [what the loan follows; the tokens; the result; the way back; the lender's part; w; κw]
    lands_as ! refl refl (lent_bytes_typed κα t v is) $
    move ! (1 ∷ []) $ use1 𝓛 (‵ (flft κα r) ⊛ ‵ (flft κ' q') ⊛ ‵ ftrue) (id⊢ 𝓤 _) $ split ! $
    move ! (0 ∷ 7 ∷ []) $ join ! $ move ! (3 ∷ 6 ∷ []) $ join ! $ move ! (1 ∷ 0 ∷ []) $ join ! $
    nothing ! $ move ! (1 ∷ 0 ∷ []) $
    calls ! (framed 𝓤 𝓛.H 𝓜 𝓣) h.ended (h.clauses 𝓛 𝓜.mem 𝓡.returns)
    (met_over 𝓤 𝓛 𝓜 𝓡 (code.calls-octets_script::over::slices::over_part 𝓡.env wired))
    (((κα, (κw, tt)), (r, (qw, tt)), tt, (t, (w, tt)), (v ∷ [], (shr_slice_vals w, tt))), tt)
    (id⊢ 𝓤 _) (and_then ! (get ! refl) (and_then ! (get ! refl) (no_more !))) (λ u d ws is'.
    move ! (1 ∷ []) $ hears_both ! (λ same laid. lands_as ! refl refl (done_typed d u is') $
    -- [what was left after the loan; the tokens; the result; κ';
    -- what the loan follows; the way back; the lender's part]
    move ! (1 ∷ []) $ use1 𝓛 (‵ (flft κα r) ⊛ ‵ (flft κw qw) ⊛ ‵ ftrue) (id⊢ 𝓤 _) $ split ! $
    move ! (2 ∷ 5 ∷ 0 ∷ 6 ∷ 7 ∷ []) $ comes_home ! tt D' κ q α δ x (last κα κw w x.now then i end t ws)
    (ends 𝓛 κ κ' κα κw (left q) w x δ then i end t ws) $
    returns ! (look_at ! 0 refl) $ free_all ! refl $ keep ! (0 ∷ 1 ∷ 3 ∷ 2 ∷ 4 ∷ []) $
    let told = after κα κw w x.now then shown i end P t d ws
    (λ asks. let long = length_splice x.now.buf.now x.now.off (varint m1 m0) in
    let rest = length-drop x.now.off x.now.buf.now in
    let within = x.now.within in omega (arith, asks, long, rest, within)) fits seen same laid in
    suffices ! _ (ends_at 𝓛 f.ended stayed c y u d (last κα κw w x.now then i end t ws, (tt, (tt, (tt, tt))))
    (tt, (tt, (tt, (tt, tt))))) $
    move ! (4 ∷ []) $ split ! $ move ! (1 ∷ []) $ drop ! $ move ! (0 ∷ 4 ∷ []) $ join ! $ move ! (1 ∷ 0 ∷ []) $ join ! $
    nothing ! $ nothing ! $ fjoin ! $ nothing ! $ fjoin ! $ nothing ! $ fjoin ! $ move ! (2 ∷ 0 ∷ []) $ fjoin !
    $ move ! (0 ∷ 2 ∷ []) $ join ! $ move ! (1 ∷ 0 ∷ []) $ join ! $ frame ! $
    knows ! told.4 $ knows ! told.3 $ knows ! told.2 $ knows ! told.1 $ knows ! told.0 $ ends_here !)))))))))
