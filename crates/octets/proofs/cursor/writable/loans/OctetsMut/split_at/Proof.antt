-- The slice is cut in two by the library's call, a view is made of each part, and the cursor follows both.
use Rattle.octets.proofs.cursor.writable.loans as loan_calls
use Rattle.octets.specs
use Rattle.octets.proofs.loans
use denote.Follow.{follows, follows_both, follows_both_if, followed, both_by, both_if_by}
use Rattle.octets.proofs.lemmas.Splices.{same_cursor}
use loans.LendsWithin.{lent_ends, slice_lent, lends_within}
use loans.CursorWalks.{bound, lends_by, stayed}
use loans.CallSteps.{calls, hands_over}
use loans.Slices.{both_then}
use Rattle.std.specs.Option.{ghost_names_of}
use specs.Loans.{BothViewed, LendsHalves, SliceCursor}
use specs.contracts.cursor.writable.loans.halves as g
use loan_calls.halves.Met.{met as met_halves}
use loan_calls.views_of.Met.{met as met_viewed}
use loans.WalkSteps.{subst, id⊢, raw, fact, heard, framed, uint_Makes, owned, mut_slice_vals, lands_as, ◌++◌, ◌≡◌, ℕ}
use loans.WalkSteps.{◌^◌, ◌<◌, ◌≤◌, List, [], ◌∷◌, length, take, refl, sym, w64, MutBor, arith, full_share, ftrue}
use loans.WalkSteps.{fat, use1, flft, named, Val, vint, tables, ‵, ◌⊛◌, some, later, ◌$◌, !, move, keep, drop, use2}
use loans.WalkSteps.{use3, split, split3, join, fsplit, fsplit3, pick, await, rewrite, suffices, enter, of_opd, addr}
use loans.WalkSteps.{stop, fld, hop, no_more, and_then, returns, whole, sub, look_in, agg, alloc_all, pass_all}
use loans.WalkSteps.{free_all, look_at, get, through, sets, u8, usize, uint_vals, uint_Tells, Room, nothing, opens}
use loans.WalkSteps.{closes, ends_at, peeks}
use denote.Through.{renamed}
use base.Logic.{ent, sep}
use lib.ListN.{drop as drop_list}
use mir.Syntax.{Ty, erased, Lifetime}
use mir.Raw.{raw as raw_ty}
use borrow.Table.OneValue.{retype}
use denote.Array.{Array}
use denote.Memory.{cell_at}
use seplogic.Ra.Ura.{Ura}
use base.Fml.{Lft, fres}
use types.Logic.{Logic, sem}
use denote.RattleType.{RattleType}
use loans.SliceCursors.{Sl, St, lowers, the_slice_laws}
use types.Run.{load}
use denote.Laws.{shows}
use Rattle.std.specs.declared.result.Result.TheVariants.{Ok, Err}
use Rattle.std.specs.contracts.result.Result as Res
use specs.contracts.error.BufferTooShortError as Short
use denote.Struct.Tuple.{Tuple, tuple_laws}
use specs.contracts.cursor.writable.loans.OctetsMut.split_at as f
use loan_calls.OctetsMut.split_at.Statement.{statement}
use loan_calls.OctetsMut.split_at.Code as code
use denote.Param.Laws.{Laws}
use Rattle.std.specs.Prelude.{◌↔◌, IsOk, IfOk, MatchOption}
use Rattle.std.specs.declared.result.Result.{Result}
use Rattle.std.specs.declared.option.Option.{Option}
use Rattle.std.specs.declared.option.Option.TheVariants.{Some, None}
use Rattle.std.specs.contracts.option.Option as Maybe
use Rattle.std.proofs.option.Option.TheLaws as MaybeLaws
use Rattle.std.proofs.result.Result.TheLaws as ResLaws
use Rattle.octets.proofs.error.BufferTooShortError.TheLaws as ShortLaws
use Rattle.octets.proofs.cursor.Cursor.TheLaws as CursorLaws
use specs.declared.error.BufferTooShortError.{BufferTooShortError}
use specs.contracts.cursor.buffer.RefMutSliceU8Bytes.TheImpl.{ghosts}
use specs.Cursor.{IsViewOf}
use specs.contracts.cursor.writable.loans.views_of as h

-- the MIR type of the cursor in the function body
abbrev Ref : Ty
Ref = (lowers erased []).mir

abbrev Slices : Type 0
Slices = Option (MutBor (List ℕ) × MutBor (List ℕ))

abbrev Halves : Type 0
Halves = Result (SliceCursor × SliceCursor) BufferTooShortError

-- the slices, and the cursors, as types, and their laws
abbrev slices : Lifetime → Lft → RattleType
slices ℓ κ = Maybe.the_row (Tuple (Sl ℓ κ ∷ Sl ℓ κ ∷ []))

abbrev out : Lft → RattleType
out κ = Res.the_row (Tuple (St (named 0) κ ∷ St (named 0) κ ∷ [])) Short.the_row

slices_laws : (ℓ : Lifetime) (κ : Lft) → Laws (slices ℓ κ)
slices_laws ℓ κ = let L = the_slice_laws ℓ κ in
    MaybeLaws.the_row_laws (Tuple (Sl ℓ κ ∷ Sl ℓ κ ∷ [])) (tuple_laws (Sl ℓ κ ∷ Sl ℓ κ ∷ []) (L, (L, tt)))

out_laws : (κ : Lft) → Laws (out κ)
out_laws κ =
    let S = St (named 0) κ in let L = CursorLaws.the_row_laws (Sl (named 0) κ) ghosts (the_slice_laws (named 0) κ) in
    ResLaws.the_row_laws (Tuple (S ∷ S ∷ [])) Short.the_row (tuple_laws (S ∷ S ∷ []) (L, (L, tt)))
    ShortLaws.the_row_laws

-- what the contract says of the slices
abbrev Shown : Slices → ℕ → List ℕ → Type 0
Shown p m l = MatchOption p (length l < m) (λ q. (m ≤ length l) × (q.0.now ≡ take m l) × (q.1.now ≡ drop_list m l))

fit : (p : Slices) (r : Halves) (m : ℕ) (l : List ℕ) → BothViewed p r → Shown p m l → IsOk r ↔ (m ≤ length l)
fit p r m l e h = grind arith

show_both : (p : Slices) (r : Halves) (m : ℕ) (l : List ℕ) → BothViewed p r → Shown p m l
    → IfOk r (λ v. IsViewOf (take m l) v.0 × IsViewOf (drop_list m l) v.1)
show_both p r m l e h = grind arith

module _ {M : Type 1} {𝓤 : Ura M} (𝓛 : Logic 𝓤) (κ' : Lft) (x : MutBor SliceCursor) (γ' : ℕ) where
  abbrev D' : RattleType
  D' = St (named 1) κ'

  ends : (p : Slices) (r : Halves) → BothViewed p r
      → ent 𝓤 (sep 𝓤 (sem 𝓛 (follows D' (Array u8 0) x.ghost_name γ' (lent_ends x.now)))
      (sem 𝓛 (follows_both_if (Array u8 0) (Array u8 0) (Array u8 0) γ' (ghost_names_of p) ◌++◌ x.now.buf.now)))
      (sem 𝓛 (LendsHalves x r))
  unfolding both_if_by both_by
  ends (Some s) (Ok v) e =
      let A = sep 𝓤 (sem 𝓛 (follows D' (Array u8 0) x.ghost_name γ' (lent_ends x.now)))
      (sem 𝓛 (follows_both (Array u8 0) (Array u8 0) (Array u8 0) γ' s.0.ghost_name s.1.ghost_name ◌++◌)) in
      let P : ℕ → ℕ → Type 1 = λ γ₁ γ₂. ent 𝓤 A
      (sem 𝓛 (follows_both D' (Array u8 0) (Array u8 0) x.ghost_name γ₁ γ₂ (λ v w. lent_ends x.now (v ++ w)))) in
      subst (λ (γ₁ : ℕ). P γ₁ v.1.buf.ghost_name) (sym e.0) (subst (λ (γ₂ : ℕ). P s.0.ghost_name γ₂) (sym e.1)
      (both_then 𝓛 D' u8 (lent_ends x.now) ◌++◌ x.ghost_name γ' s.0.ghost_name s.1.ghost_name))
  ends None (Err z) e =
      let w = x.now.within in let A = sep 𝓤 (sem 𝓛 (follows D' (Array u8 0) x.ghost_name γ' (lent_ends x.now)))
      (sem 𝓛 (fres γ' ((Array u8 0).coded.code x.now.buf.now))) in
      subst (λ (c : SliceCursor). ent 𝓤 A (sem 𝓛 (fres x.ghost_name (D'.coded.code c))))
      (same_cursor x.now (lent_ends x.now x.now.buf.now) refl (omega (arith, w)))
      (followed 𝓛 D' (Array u8 0) (lent_ends x.now) x.ghost_name γ' x.now.buf.now)
  ends _ _ e = absurd e

pub split_at_spec : {M : Type 1} → statement M
split_at_spec 𝓤 𝓛 𝓜 𝓡 wired =
    let c = f.clauses 𝓛 𝓜.mem 𝓡.returns in let 𝓣 = tables 𝓤 𝓛.H 𝓜 𝓡 𝓡.env in
    lends_by usize out 𝓛 c (uint_vals w64) 𝓜 𝓡 (λ κs x w. refl) (uint_Tells w64) code.function
    (code.unfolded 𝓤 𝓛.H 𝓜 𝓡 wired) (λ κ κ' q q' inc x m _ is_number.
    let b = x.ref_ptr.0 in let o = x.ref_ptr.1 in let γ = x.ghost_name in let xs = x.now.buf.now in
    let S = St (named 1) κ' in let fm : m < 2 ^ 64 = is_number.1 in
    let y = bound usize out 𝓛 c (uint_vals w64) κ κ' q q' inc x m tt in
    split ! $ keep ! (0 ∷ 1 ∷ []) $ enter ! _ _ _ _ _ $
    alloc_all ! (λ l. pass_all ! refl ((tt, tt), ((tt, record { fits = fm }), tt)) $ move ! (1 ∷ []) $ fsplit !
    $ fsplit3 ! $ drop ! $ move ! (3 ∷ []) $ split ! $ move ! (2 ∷ 3 ∷ 0 ∷ []) $
    opens ! tt S {h = x.now} b o (λ us. move ! (1 ∷ []) $ peeks ! S _ (shows 𝓛 S) x.now us (λ is.
    let rm : Room u8 (length xs) = is.1.1.0.0.1 in let word = (lowers (named 1) κ').val_is x.now us is in
    let cell : Val = (lowers (named 1) κ').lowered x.now in move ! (1 ∷ []) $
    rewrite ! 0 (λ (ws : List Val). ‵ (cell_at full_share S.mir ws b o)) word refl
    $ use1 𝓛 (‵ (fat full_share Ref b o cell)) (retype 𝓛 full_share (raw_ty Ref) Ref refl b o cell) $
    -- [the cursor's cell; what it owns; the borrow, open; obs; auth; the token of κ'; the number; the locals]
    sets ! (of_opd ! (load ! (through ! refl (fld ! refl (fld ! refl (stop !))))
    (look_in ! 0 (sub ! 1 refl (sub ! 0 refl (whole !)))))) refl (tt, record { fits = rm.0 }) $
    sets ! (addr ! (through ! refl
    (fld ! refl (fld ! refl (hop ! (look_in ! 0 (sub ! 0 refl (sub ! 0 refl (whole !)))) (stop !)))))) refl (tt, tt) $
    sets ! (agg ! (and_then ! (get ! refl) (and_then ! (get ! refl) (no_more !)))) refl
    (tt, (tt, (record { fits = rm.0 }, tt))) $
    use1 𝓛 (‵ (cell_at full_share S.mir (cell ∷ []) b o)) (retype 𝓛 full_share Ref (raw_ty Ref) refl b o cell) $
    rewrite ! 0 (λ (ws : List Val). ‵ (cell_at full_share S.mir ws b o)) (sym word) refl $ closes ! tt S x.now us b o $
    use3 𝓛 (later (some (slice_lent 𝓛 κ κ' b o γ x.now q))) (lends_within 𝓛 κ κ' b o γ x.now inc rm q) $ await ! tt
    $ pick ! (λ γ'. split3 ! $
    -- [the slice; the token of κ; what the cursor follows; the token of κ']
    let s : MutBor (List ℕ) = renamed x.now.buf γ' in
    owned ! usize _ (uint_Makes 𝓛 w64) m (vint w64 m ∷ []) (refl, fm) $ nothing ! $
    move ! (1 ∷ 0 ∷ []) $ join ! $ move ! (1 ∷ 0 ∷ []) $ join ! $ move ! (1 ∷ []) $ nothing ! $ move ! (1 ∷ 0 ∷ [])
    $ join ! $ join ! $ nothing ! $ move ! (1 ∷ 0 ∷ []) $
    calls ! (framed 𝓤 𝓛.H 𝓜 𝓣) g.ended (g.clauses 𝓛 𝓜.mem 𝓡.returns)
    (met_halves 𝓤 𝓛 𝓜 𝓡 (code.calls-octets::cursor::writable::loans::halves 𝓡.env wired))
    (((κ, tt), (q, tt), tt, (s, (m, tt)), (mut_slice_vals s, (vint w64 m ∷ [], tt))), tt) (id⊢ 𝓤 _)
    (and_then ! (get ! refl) (and_then ! (get ! refl) (no_more !))) (λ u p ws are₂. drop ! $
    use1 𝓛 (‵ (follows_both_if (Array u8 0) (Array u8 0) (Array u8 0) γ' (ghost_names_of p) ◌++◌ xs) ⊛ raw
    (fact 𝓤 (Shown p m xs))) (id⊢ 𝓤 _) $ split ! $ move ! (1 ∷ []) $ heard ! _ (λ shown.
    -- [what the slice follows; the token of κ; the two slices; what the cursor follows; the token of κ']
    let typed = (((slices_laws erased κ).lawful 𝓛).typed p (u ∷ []) are₂).0 in
    lands_as ! refl refl typed $ sets ! (of_opd ! (get ! refl)) refl typed $
    nothing ! $ move ! (3 ∷ 0 ∷ []) $ join ! $ move ! (2 ∷ 0 ∷ []) $ join ! $ nothing ! $ move ! (1 ∷ 0 ∷ []) $
    calls ! (framed 𝓤 𝓛.H 𝓜 𝓣) h.ended (h.clauses 𝓛 𝓜.mem 𝓡.returns)
    (met_viewed 𝓤 𝓛 𝓜 𝓡 (code.calls-octets::cursor::writable::loans::views_of 𝓡.env wired))
    (((κ, tt), (q, tt), tt, (p, tt), (u ∷ [], tt)), tt) (id⊢ 𝓤 _) (and_then ! (get ! refl) (no_more !)) (λ v r ws₁ are₃.
    -- [the token of κ; the two cursors; what the slice follows; what the cursor follows; the token of κ']
    drop ! $ heard ! _ (λ viewed. lands_as ! refl refl (((out_laws κ).lawful 𝓛).typed r (v ∷ []) are₃).0 $
    use1 𝓛 (‵ (flft κ q) ⊛ ‵ ftrue) (id⊢ 𝓤 _) $ split ! $ move ! (1 ∷ []) $ drop ! $ move ! (3 ∷ 2 ∷ []) $
    use2 𝓛 (‵ (LendsHalves x r)) (ends 𝓛 κ' x γ' p r viewed) $ move ! (1 ∷ 3 ∷ []) $ join ! $
    returns ! (look_at ! 0 refl) $ free_all ! refl $ keep ! (1 ∷ 0 ∷ 2 ∷ []) $
    suffices ! _ (ends_at 𝓛 f.ended (stayed usize out) c y v r (tt, (tt, tt)) (tt, (tt, tt))) $
    hands_over ! 2 (fit p r m xs viewed shown) (show_both p r m xs viewed shown))))))))))
