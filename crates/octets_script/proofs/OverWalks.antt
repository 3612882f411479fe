-- One hand-written proof for each call that writes into a slice that
-- a cursor lends: the cursor is lent to a call that lends, and what
-- that call lent is passed to `over_part`. Assumes `Logic`.
--     signature, clauses, function      what such a call promises, and its code, as they are generated
--     writes_over      the call meets its contract, if the call that lends meets its own
use Rattle.octets.proofs.loans
use loans.WalkSteps.{◌≡◌, ℕ, ◌≤◌, List, [], ◌∷◌, length, refl, MutBor, proved, id⊢, ftrue, use1, flft, named, vint}
use loans.WalkSteps.{fact, tables, ‵, raw, ◌⊛◌, ◌$◌, ◌∵◌, !, qed, done as ends_here, move, keep, drop, split, join}
use loans.WalkSteps.{fsplit, fjoin, suffices, frame, enter, addr, stop, no_more, and_then, returns, alloc_all, pass_all}
use loans.WalkSteps.{free_all, look_at, get, through, sets, lands_as, u8, yes, owns, MutRef, MutSlice, mut_vals}
use loans.WalkSteps.{mut_Tells, uint_vals, uint_Tells, plain, nothing, heard, rewrite, sym, ap, ◌∙◌, Stays}
use loans.WalkSteps.{walk_of, stay_ref, stay_dropped, Goes-ref, Goes-dropped, ends_at, framed, ty_int}
use Rattle.std.specs.Prelude.{◌↔◌, IsOk, IfOk, OnErr, drop as drop_list}
use seplogic.Ra.Ura.{Ura}
use mir.Syntax.{Fn, Callee, Width, erased, local, value_local, assign, seq, call, return, addr_of, copy, place, deref}
use mir.ValLaws.{eq_w_refl}
use base.Fml.{Lft}
use base.Logic.{SProp, sep}
use base.Share.{left}
use contract.BorrowLft.{⊑_trans, meet_⊑_right}
use contract.Lifetimes.{Lfts}
use contract.Running.{Running}
use prog.Model.{Model}
use prog.Wp.{Closed}
use types.Logic.{Logic}
use denote.Builtin.{RefMutOf, SliceRefOf}
use denote.Memory.{lone}
use denote.Plain.{UInt}
use denote.Ref.{Bor}
use denote.Signature.{Signature, shr_slice_of}
use denote.Slice.{ShrSlice, shr_slice_vals, shr_slice_Tells}
use denote.Triple.Clauses.{Ended, Clauses, closing}
use denote.Triple.Spec.{Meets}
use Rattle.octets.specs.Bytes.{over, splice}
use Rattle.octets.specs.Cursor.{IsViewOf, bytes, position, IsUnchanged}
use Rattle.octets.specs.Slices.{reference}
use Rattle.octets.specs.Loans.{Row, SliceCursor, LendsBytes, LendsView, standing}
use Rattle.std.specs.Borrow.{Array, follows_if, name_if_ok}
use Rattle.std.specs.declared.result.Result.TheVariants.{Ok, Err}
use mathlib.Core.Option.{some as some_name}
use loans.CallSteps.{calls, hears_both, hears_beside, hands_over}
use loans.LentValues.{LentBytes, LentView, done, done_typed, lent_bytes_typed}
use loans.LentValues.{lent_view_typed}
use loans.Reborrows.{part_of, lends_now, comes_home, knows}
use loans.SliceCursors.{St}
use loans.CursorWalks as walks
use loans.LendingWalks as lending
use loans.LendingWalks.{Which, as_bytes, as_view, refused}
use Rattle.octets_script.specs.Left.{Hands}
use Rattle.octets_script.proofs.Overs.{after, ends, last}
use Rattle.octets_script.specs.contracts.over.slices.over_part as h
use Rattle.octets_script.specs.contracts.over.views.slice_of as hand

-- the code
abbrev pub function : Width → Callee → Callee → Fn
function w k k' = record {
  lifetimes = 3;
  outlives = (1, 0) ∷ [];
  ty_params = [];
  givens = 0;
  params = 3;
  locals = local (lone done.mir) value_local ∷ local (lone (MutRef (named 0) [] (St (named 1) [])).mir) value_local
      ∷ local (ty_int w) value_local ∷
      local (lone (ShrSlice (named 2) [] u8).mir) value_local
      ∷ local (lone (refused (MutSlice erased [] u8)).mir) value_local ∷ local
      (lone (MutRef erased [] (St erased [])).mir) value_local ∷ [];
  body = seq (assign (place 5 []) (addr_of (place 1 (deref (lone (St erased []).mir) ∷ []))))
      (seq (call k (copy (place 5 []) ∷ copy (place 2 []) ∷ []) (place 4 []))
      (seq (call k' (copy (place 4 []) ∷ copy (place 3 []) ∷ []) (place 0 [])) return));
}

-- the same of a call that lends a view, whose slice is handed on
abbrev pub slice_function : Width → Callee → Callee → Fn
slice_function w k k' = record {
  lifetimes = 2;
  outlives = (1, 0) ∷ [];
  ty_params = [];
  givens = 0;
  params = 2;
  locals = local (lone (refused (MutSlice (named 0) [] u8)).mir) value_local ∷ local
      (lone (MutRef (named 0) [] (St (named 1) [])).mir) value_local ∷ local (ty_int w) value_local
      ∷ local (lone (refused (St erased [])).mir) value_local ∷ local (lone (MutRef erased [] (St erased [])).mir)
      value_local ∷ [];
  body = seq (assign (place 4 []) (addr_of (place 1 (deref (lone (St erased []).mir) ∷ []))))
      (seq (call k (copy (place 4 []) ∷ copy (place 2 []) ∷ []) (place 3 []))
      (seq (call k' (copy (place 3 []) ∷ []) (place 0 [])) return));
}

-- a view's slice, of its own name, shows what it does
handed : (t : LentView) (s : LentBytes) (P : Type 0) (b : List ℕ) → Hands t s bytes → (IsOk t ↔ P)
    → IfOk t (λ v. IsViewOf b v)
    → (name_if_ok (λ v. v.buf.ghost_name) t ≡ name_if_ok (λ s. s.ghost_name) s) × (IsOk s ↔ P) × IfOk s (λ s. s.now ≡ b)
handed (Ok v) (Ok s) P b hands fits seen = (ap some_name (sym hands.0), fits, hands.1 ∙ seen.0)
handed (Err e) (Err e') P b hands fits seen = (refl, fits, tt)
handed _ _ P b hands fits seen = absurd hands

module _ (w : Width) where
  -- the types of such a call's arguments and result
  abbrev pub signature : Signature
  signature = record {
    lifetimes = 3;
    outlives = record { long = 1; long_ok = tt; short = named 0; short_ok = tt } ∷ [];
    params = RefMutOf (0 ∷ []) tt (plain (λ κs. St (named 1) κs.1.0)) (λ κs. tt) ∷ plain (λ κs. UInt w) ∷ SliceRefOf
        (2 ∷ []) tt (plain (λ κs. u8)) (λ κs. tt) ∷ [];
    result = plain (λ κs. done);
  }

  -- its contract sees every argument at the exit
  abbrev pub ended : Ended
  ended = record { signature = signature; kept = (yes, (yes, (yes, tt))) }

  abbrev stayed : Stays signature.params ended.kept
  stayed = (
    stay_ref (0 ∷ []) tt (plain (λ (κs : Lfts 3). St (named 1) κs.1.0)),
    (stay_dropped _ yes, (stay_dropped _ yes, tt)),
  )

  module _ {M : Type 1} {𝓤 : Ura M} (𝓛 : Logic 𝓤) (W : Which) (asks : ℕ → SProp 𝓤) where
    -- what it promises
    abbrev pub clauses : Clauses 𝓤 ended
    clauses κs a = let x = a.0.now in let m = a.1.0 in record {
      ghost = Unit {0};
      requires = λ g. asks m;
      ensures = λ g r e. sep 𝓤 (fact 𝓤 (IsOk r ↔ (W.n x m ≤ length (drop_list x.off x.buf.now))))
          (sep 𝓤 (fact 𝓤 (IfOk r (λ _. bytes e.0.now ≡ splice (W.l x m) (W.i x m) (over (W.b x m) a.1.1.0.now))))
          (sep 𝓤 (fact 𝓤 (IfOk r (λ _. position e.0.now ≡ W.o x m)))
          (sep 𝓤 (fact 𝓤 (OnErr r (IsUnchanged x e.0.now))) (fact 𝓤 (reference e.0.now ≡ reference x)))));
    }

    module _ (𝓜 : Model 𝓤 𝓛.H) (𝓡 : Running 𝓤 𝓛.H 𝓜) {name k k' : Callee} where
      -- it meets its contract, if the call that lends meets its own
      pub writes_over : Closed 𝓤 𝓛.H (tables 𝓤 𝓛.H 𝓜 𝓡 𝓡.env).C (tables 𝓤 𝓛.H 𝓜 𝓡 𝓡.env).Λ name (function w k k')
          → Meets 𝓛 (lending.signature w as_bytes) (𝓡.run (𝓡.env k))
          (closing 𝓛 (lending.ended w as_bytes) (lending.clauses w as_bytes 𝓛 W asks))
          → Meets 𝓛 h.signature (𝓡.run (𝓡.env k')) (h.spec 𝓛 𝓜.mem 𝓡.returns)
          → Meets 𝓛 signature (𝓡.run (𝓡.env name)) (closing 𝓛 ended clauses)
      writes_over closed met_lend met_over =
          let c = clauses in let V = walk_of 𝓛 ended stayed c in let 𝓣 = tables 𝓤 𝓛.H 𝓜 𝓡 𝓡.env in
          proved 𝓛 ended stayed c 𝓜 𝓡 (
            Goes-ref 𝓛 3 0 tt (plain (λ (κs : Lfts 3). St (named 1) κs.1.0)),
            (
              Goes-dropped 𝓛 3 (plain (λ _. UInt w)) yes (λ κs x w. refl),
              (Goes-dropped 𝓛 3 (shr_slice_of (2 ∷ []) tt (plain (λ _. u8))) yes (λ κs x w. refl), tt),
            ),
          )
          name (function w k k') closed
          (λ κs. (mut_vals, (uint_vals w, (shr_slice_vals, tt))))
          (λ κs. (
            mut_Tells (named 0) κs.0 (St (named 1) κs.1.0),
            (uint_Tells w, (shr_slice_Tells (named 2) κs.1.1.0 u8, tt)),
          )) (λ κs qs bounds a _ are.
          let κ = κs.0 in let κ' = κs.1.0 in let κw = κs.1.1.0 in let q = qs.0 in let q' = qs.1.0 in
          let qw = qs.1.1.0 in
          let x : MutBor SliceCursor = a.0 in let D' = St (named 1) κ' in let m = a.1.0 in
          let p : Bor (List ℕ) = a.1.1.0 in
          let then = W.l x.now m in let i = W.i x.now m in let end = W.o x.now m in let shown = W.b x.now m in
          let P : Type 0 = W.n x.now m ≤ length (drop_list x.now.off x.now.buf.now) in
          let y : V.Ghost = ((κs, qs, bounds, a, (mut_vals x, (vint w m ∷ [], (shr_slice_vals p, tt)))), tt) in
          qed 𝓛 (((‵ (flft κ q) ⊛ ‵ (flft κ' q') ⊛ ‵ (flft κw qw) ⊛ ‵ ftrue) ⊛ ‵
          (owns (MutRef (named 0) κ D' ∷ UInt w ∷ ShrSlice (named 2) κw u8 ∷ []) a y.0.4)) ∷ raw (asks m) ∷ []) ∵
          split ! $ enter ! _ _ _ _ _ $ alloc_all ! (λ l. pass_all ! refl (
            (tt, tt),
            ((eq_w_refl w, record { fits = are.1.0.1 }), ((tt, (tt, (record { fits = are.1.1.0.0.1.0 }, tt))), tt)),
          ) $
          sets ! (addr ! (through ! refl (stop !))) refl (tt, tt) $
          split ! $ move ! (1 ∷ []) $ split ! $ move ! (3 ∷ []) $ fsplit ! $ move ! (1 ∷ []) $ fsplit ! $ nothing !
          $ move ! (1 ∷ 0 ∷ []) $ join ! $
          -- [the arguments; p; the cursor; the token of κ'; of κw; of κ; what is asked]
          move ! (5 ∷ 2 ∷ []) $ lends_now ! tt D' κ q x (λ α δ. let κα : Lft = α ∷ κ in let r = part_of q in
          -- [the token of κα; the way back; the loan; the lender's part; the arguments; p; κ'; κw; what is asked]
          let x' : MutBor SliceCursor = record x { ghost_name = δ } in
          move ! (2 ∷ 4 ∷ []) $ join ! $ nothing ! $ move ! (6 ∷ 0 ∷ []) $ join ! $ move ! (2 ∷ 0 ∷ [])
          $ join ! $ join ! $
          move ! (0 ∷ 5 ∷ []) $
          calls ! (framed 𝓤 𝓛.H 𝓜 𝓣) (lending.ended w as_bytes) (lending.clauses w as_bytes 𝓛 W asks)
          met_lend (
            (
              (κα, (κ', tt)),
              (r, (q', tt)),
              (⊑_trans κα κ κ' (meet_⊑_right (α ∷ []) κ) bounds.0, tt),
              (x', (m, tt)),
              (mut_vals x, (vint w m ∷ [], tt)),
            ),
            tt,
          )
          (id⊢ 𝓤 _) (and_then ! (get ! refl) (and_then ! (get ! refl) (no_more !))) (λ v t us is. drop ! $
          hears_beside ! (LendsBytes x' then i end t) (λ fits seen.
          -- [what the loan follows; the tokens; the result; the way back; the lender's part; p; κw]
          lands_as ! refl refl (lent_bytes_typed κα t v is) $
          move ! (1 ∷ []) $ use1 𝓛 (‵ (flft κα r) ⊛ ‵ (flft κ' q') ⊛ ‵ ftrue) (id⊢ 𝓤 _) $ split ! $
          move ! (0 ∷ 7 ∷ []) $ join ! $ move ! (3 ∷ 6 ∷ []) $ join ! $ move ! (1 ∷ 0 ∷ []) $ join ! $
          nothing ! $ move ! (1 ∷ 0 ∷ []) $
          calls ! (framed 𝓤 𝓛.H 𝓜 𝓣) h.ended (h.clauses 𝓛 𝓜.mem 𝓡.returns) met_over
          (((κα, (κw, tt)), (r, (qw, tt)), tt, (t, (p, tt)), (v ∷ [], (shr_slice_vals p, tt))), tt)
          (id⊢ 𝓤 _) (and_then ! (get ! refl) (and_then ! (get ! refl) (no_more !))) (λ u d ws is'.
          move ! (1 ∷ []) $ hears_both ! (λ same laid. lands_as ! refl refl (done_typed d u is') $
          -- [what was left after the loan; the tokens; the result; κ';
          -- what the loan follows; the way back; the lender's part]
          move ! (1 ∷ []) $ use1 𝓛 (‵ (flft κα r) ⊛ ‵ (flft κw qw) ⊛ ‵ ftrue) (id⊢ 𝓤 _) $ split ! $
          move ! (2 ∷ 5 ∷ 0 ∷ 6 ∷ 7 ∷ []) $ comes_home ! tt D' κ q α δ x (last κα κw p x.now then i end t ws)
          (ends 𝓛 κ κ' κα κw (left q) p x δ then i end t ws) $
          -- [the token of κ; the cursor; of κw; the result; κ']
          returns ! (look_at ! 0 refl) $ free_all ! refl $ keep ! (0 ∷ 1 ∷ 3 ∷ 2 ∷ 4 ∷ []) $
          let told = after κα κw p x.now then shown i end P t d ws (W.ends x.now m) fits seen same laid in
          suffices ! _
          (ends_at 𝓛 ended stayed c y u d (last κα κw p x.now then i end t ws, (tt, (tt, tt))) (tt, (tt, (tt, tt)))) $
          move ! (4 ∷ []) $ split ! $ move ! (1 ∷ []) $ drop ! $ move ! (0 ∷ 4 ∷ []) $ join !
          $ move ! (1 ∷ 0 ∷ []) $ join ! $
          nothing ! $ nothing ! $ fjoin ! $ nothing ! $ fjoin ! $ move ! (2 ∷ 0 ∷ []) $ fjoin ! $ move ! (0 ∷ 2 ∷ [])
          $ join ! $ move ! (1 ∷ 0 ∷ []) $ join ! $ frame ! $
          knows ! told.4 $ knows ! told.3 $ knows ! told.2 $ knows ! told.1 $ knows ! told.0
          $ ends_here !)))))))

    module _ (𝓜 : Model 𝓤 𝓛.H) (𝓡 : Running 𝓤 𝓛.H 𝓜) {name k k' : Callee} where
      -- the same of the call that hands a view's slice on
      pub hands_slice : Closed 𝓤 𝓛.H (tables 𝓤 𝓛.H 𝓜 𝓡 𝓡.env).C (tables 𝓤 𝓛.H 𝓜 𝓡 𝓡.env).Λ name (slice_function w k k')
          → Meets 𝓛 (lending.signature w as_view) (𝓡.run (𝓡.env k))
          (closing 𝓛 (lending.ended w as_view) (lending.clauses w as_view 𝓛 W asks))
          → Meets 𝓛 hand.signature (𝓡.run (𝓡.env k')) (hand.spec 𝓛 𝓜.mem 𝓡.returns)
          → Meets 𝓛 (lending.signature w as_bytes) (𝓡.run (𝓡.env name))
          (closing 𝓛 (lending.ended w as_bytes) (lending.clauses w as_bytes 𝓛 W asks))
      hands_slice closed met_lend met_hand =
          let c = lending.clauses w as_bytes 𝓛 W asks in let 𝓣 = tables 𝓤 𝓛.H 𝓜 𝓡 𝓡.env in
          let O = UInt w in let out = λ (κ : Lft). refused (as_bytes.row κ) in
          walks.lends_by O out 𝓛 c (uint_vals w) 𝓜 𝓡 (λ κs x w. refl) (uint_Tells w) (slice_function w k k') closed
          (λ κ κ' q q' inc x m _ is_number.
          let then = W.l x.now m in let i = W.i x.now m in let end = W.o x.now m in let shown = W.b x.now m in
          let P : Type 0 = W.n x.now m ≤ length (drop_list x.now.off x.now.buf.now) in
          let y = walks.bound O out 𝓛 c (uint_vals w) κ κ' q q' inc x m tt in
          enter ! _ _ _ _ _
          $ alloc_all ! (λ l. pass_all ! refl ((tt, tt), ((eq_w_refl w, record { fits = is_number.1 }), tt)) $
          sets ! (addr ! (through ! refl (stop !))) refl (tt, tt) $
          calls ! (framed 𝓤 𝓛.H 𝓜 𝓣) (lending.ended w as_view) (lending.clauses w as_view 𝓛 W asks)
          met_lend (((κ, (κ', tt)), (q, (q', tt)), (inc, tt), (x, (m, tt)), (mut_vals x, (vint w m ∷ [], tt))), tt)
          (id⊢ 𝓤 _) (and_then ! (get ! refl) (and_then ! (get ! refl) (no_more !))) (λ v t us is. drop ! $
          hears_beside ! (LendsView x then i end t) (λ fits seen.
          -- [what the loan follows; the tokens; the view]
          lands_as ! refl refl (lent_view_typed κ t v is) $
          move ! (1 ∷ []) $ use1 𝓛 (‵ (flft κ q) ⊛ ‵ (flft κ' q') ⊛ ‵ ftrue) (id⊢ 𝓤 _) $ split ! $
          nothing ! $ move ! (1 ∷ 0 ∷ []) $ join ! $ nothing ! $ move ! (4 ∷ 0 ∷ []) $ join ! $ move ! (1 ∷ 0 ∷ [])
          $ join ! $ nothing ! $ move ! (1 ∷ 0 ∷ []) $
          calls ! (framed 𝓤 𝓛.H 𝓜 𝓣) hand.ended (hand.clauses 𝓛 𝓜.mem 𝓡.returns) met_hand
          (((κ, tt), (q, tt), tt, (t, tt), (v ∷ [], tt)), tt) (id⊢ 𝓤 _)
          (and_then ! (get ! refl) (no_more !)) (λ u s us is'. drop ! $ heard ! (Hands t s bytes) (λ hands.
          -- [the token of κ; the slice; that of κ'; what the loan follows]
          lands_as ! refl refl (lent_bytes_typed κ s u is') $
          let told = handed t s P shown hands fits seen in
          move ! (3 ∷ []) $ rewrite ! 0 (λ n. ‵
          (follows_if Row (Array u8 0) x.ghost_name n (λ b. standing x.now (splice then i b) end) x.now)) told.0 refl $
          move ! (1 ∷ []) $ use1 𝓛 (‵ (flft κ q) ⊛ ‵ ftrue) (id⊢ 𝓤 _) $ split ! $ move ! (1 ∷ []) $ drop ! $
          move ! (0 ∷ 3 ∷ []) $ join ! $ move ! (1 ∷ 0 ∷ []) $
          returns ! (look_at ! 0 refl) $ free_all ! refl $ keep ! (0 ∷ 1 ∷ 2 ∷ []) $
          suffices ! _
          (ends_at 𝓛 (lending.ended w as_bytes) (walks.stayed O out) c y u s (tt, (tt, tt)) (tt, (tt, tt))) $
          hands_over ! 2 told.1 told.2))))))
