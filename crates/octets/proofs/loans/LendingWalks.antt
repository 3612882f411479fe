-- One proof for each call that lends a range of a cursor's buffer: a first call returns the range to lend
-- (`loans/parts.rt`), and a second one lends it (`lend_part`, `lend_view`). Assumes `Logic`.
--     Which, Loan      which range that is, for a cursor and a number;  what is lent of it
--     signature, clauses, function      what such a call promises, and its code, as they are generated
--     lends_so      the call meets its contract, if the two calls meet theirs
use Rattle.octets.specs
use Rattle.octets.proofs.loans
use loans.WalkSteps.{◌≡◌, ℕ, ◌+◌, ◌-◌, ◌≤◌, List, [], ◌∷◌, length, take, refl, arith, MutBor, id⊢, ftrue, use1, flft}
use loans.WalkSteps.{named, vint, fact, tables, ‵, ◌⊛◌, ◌$◌, !, move, drop, split, join, fsplit, rewrite, suffices}
use loans.WalkSteps.{enter, addr, stop, no_more, and_then, returns, alloc_all, pass_all, free_all, look_at, get}
use loans.WalkSteps.{through, sets, lands_as, u8, yes, MutRef, MutSlice, mut_vals, uint_vals, uint_Tells, nothing}
use loans.WalkSteps.{ends_at, framed, keep, Val, ty_int}
use Rattle.std.proofs.Common.{length-drop}
use Rattle.std.specs.Prelude.{◌↔◌, IsOk, IfOk, drop as drop_list}
use Rattle.std.specs.Borrow.{name_if_ok, follows_if, Array}
use Rattle.std.specs.declared.result.Result.{Result}
use Rattle.std.specs.contracts.result.Result as Res
use seplogic.Ra.Ura.{Ura}
use lib.Dec.{T as True}
use mir.Syntax.{Ty, Fn, Callee, Width, Lifetime, erased, local, value_local, assign, seq, call, return, addr_of, copy}
use mir.Syntax.{place, deref}
use mir.Val.{WT, has_ty}
use mir.ValLaws.{eq_w_refl}
use base.Fml.{Fml, Lft, GName}
use base.Logic.{SProp, sep}
use contract.BorrowLft.{⊑_trans, meet_⊑_right}
use contract.Running.{Running}
use prog.Model.{Model}
use prog.Wp.{Closed}
use types.Logic.{Logic, sem}
use denote.Laws.{Is}
use denote.Memory.{lone}
use denote.Plain.{UInt}
use denote.RattleType.{RattleType}
use denote.Signature.{Signature}
use denote.Triple.Clauses.{Ended, Clauses, closing}
use denote.Triple.Spec.{Meets}
use specs.Bytes.{network, splice, part}
use specs.Varints.{shortest, varint}
use specs.Cursor.{IsViewOf}
use specs.Loans.{SliceCursor, Row, standing}
use specs.Parts.{IsWithin, Leaves, from_of, the_part}
use specs.declared.error.BufferTooShortError.{BufferTooShortError}
use specs.contracts.error.BufferTooShortError as Short
use Rattle.octets.proofs.lemmas.Numbers.{length_network}
use Rattle.octets.proofs.lemmas.Varints.{length_varint}
use Rattle.octets.proofs.lemmas.Splices.{length_splice, part-spliced}
use loans.LentValues.{lent_bytes, lent_bytes_typed, lent_view, lent_view_typed}
use loans.PartValues.{maybe_part, maybe_part_typed}
use loans.Reborrows.{part_of, lends_now, comes_left, knows}
use loans.CursorWalks as walks
use loans.CallSteps.{calls, hears_both, hears_beside, hands_over}
use loans.Recasts.{both_ways, is_within, last_part, recast, reshown}
use loans.SliceCursors.{St}

-- For the cursor x and the number m: the n bytes at i are lent.
-- These are b when the buffer is l, and the cursor is then at the
-- position o, which is within l if the call succeeds.
pub record Which : Type 0 where
  pub l : SliceCursor → ℕ → List ℕ
  pub i : SliceCursor → ℕ → ℕ
  pub n : SliceCursor → ℕ → ℕ
  pub o : SliceCursor → ℕ → ℕ
  pub b : SliceCursor → ℕ → List ℕ
  pub is : (x : SliceCursor) (m : ℕ) → i x m + n x m ≤ length (l x m) → part (l x m) (i x m) (n x m) ≡ b x m
  pub ends : (x : SliceCursor) (m : ℕ) → n x m ≤ length (drop_list x.off x.buf.now) → o x m ≤ length (l x m)

-- the next m bytes, without passing them;  the same, passing them;  the last m bytes
abbrev pub ahead : Which
ahead = record {
  l = λ x m. x.buf.now;
  i = λ x m. x.off;
  n = λ x m. m;
  o = λ x m. x.off;
  b = λ x m. take m (drop_list x.off x.buf.now);
  is = λ x m inside. refl;
  ends = λ x m fits. x.within;
}

abbrev pub passed : Which
passed = record ahead {
  o = λ x m. x.off + m;
  ends = λ x m fits. let rest = length-drop x.off x.buf.now in
      let within = x.within in omega (arith, fits, rest, within);
}

abbrev pub at_end : Which
at_end = record ahead {
  i = λ x m. length x.buf.now - m;
  b = λ x m. drop_list (length x.buf.now - m) x.buf.now;
  is = λ x m. last_part x.buf.now m;
}

-- the n bytes b are written at the position of the cursor, and passed
abbrev pub put_there : (n : ℕ → ℕ) (b : ℕ → List ℕ) → ((m : ℕ) → length (b m) ≡ n m) → Which
put_there n b long = record {
  l = λ x m. splice x.buf.now x.off (b m);
  i = λ x m. x.off;
  n = λ x m. n m;
  o = λ x m. x.off + n m;
  b = λ x m. b m;
  is = λ x m. part-spliced x.buf.now x.off (n m) (b m) (long m);
  ends = λ x m fits. let same = length_splice x.buf.now x.off (b m) in let rest = length-drop x.off x.buf.now in
      let within = x.within in omega (arith, fits, same, rest, within);
}

-- the number itself in n bytes, written;  its varint
abbrev pub network_of : ℕ → Which
network_of n = put_there (λ m. n) (network n) (length_network n)

abbrev pub varint_of : Which
varint_of = put_there shortest (λ m. varint (shortest m) m) (λ m. length_varint (shortest m) m)

abbrev pub refused : RattleType → RattleType
refused R = Res.the_row R Short.the_row

-- what is lent, its name, and that it shows the bytes b
pub record Loan : Type 2 where
  pub row : Lft → RattleType
  pub ty : Ty
  pub typed : (κ : Lft) (r : Result (row κ).Denot BufferTooShortError) (v : Val) → Is (refused (row κ)) r (v ∷ [])
      → True (has_ty ty v) × WT v
  pub name : (κ : Lft) → (row κ).Denot → GName
  pub Shows : (κ : Lft) → List ℕ → (row κ).Denot → Type 0

abbrev pub as_bytes : Loan
as_bytes = record {
  row = λ κ. MutSlice (named 0) κ u8;
  ty = lone (lent_bytes []).mir;
  typed = lent_bytes_typed;
  name = λ κ s. s.ghost_name;
  Shows = λ κ b s. s.now ≡ b;
}

abbrev pub as_view : Loan
as_view = record {
  row = λ κ. St (named 0) κ;
  ty = lone (lent_view []).mir;
  typed = lent_view_typed;
  name = λ κ v. v.buf.ghost_name;
  Shows = λ κ b v. IsViewOf b v;
}

-- the code
abbrev cursor_ty : Lifetime → Ty
cursor_ty ℓ = lone (St ℓ []).mir

abbrev cursor_ref : Lifetime → Lifetime → Ty
cursor_ref ℓ ℓ' = lone (MutRef ℓ [] (St ℓ' [])).mir

abbrev pub function : Width → Ty → Callee → Callee → Fn
function w τ k k' = record {
  lifetimes = 2;
  outlives = (1, 0) ∷ [];
  ty_params = [];
  givens = 0;
  params = 2;
  locals = local τ value_local ∷ local (cursor_ref (named 0) (named 1)) value_local ∷ local (ty_int w) value_local
      ∷ local (lone maybe_part.mir) value_local
      ∷ local (cursor_ref erased erased) value_local ∷ local (cursor_ref erased erased) value_local ∷ [];
  body = seq (assign (place 4 []) (addr_of (place 1 (deref (cursor_ty erased) ∷ []))))
      (seq (call k (copy (place 4 []) ∷ copy (place 2 []) ∷ []) (place 3 []))
      (seq (assign (place 5 []) (addr_of (place 1 (deref (cursor_ty erased) ∷ []))))
      (seq (call k' (copy (place 5 []) ∷ copy (place 3 []) ∷ []) (place 0 [])) return)));
}

module _ (w : Width) (L : Loan) where
  abbrev pub ended : Ended
  ended = walks.ended (UInt w) (λ κ. refused (L.row κ))

  abbrev pub signature : Signature
  signature = ended.signature

  -- of the call that leaves the part
  abbrev pub leaves_ended : Ended
  leaves_ended = record { signature = walks.signature (UInt w) (λ κ. maybe_part); kept = (yes, (yes, tt)) }

  -- of the call that lends it
  abbrev pub lends_ended : Ended
  lends_ended = walks.ended maybe_part (λ κ. refused (L.row κ))

  module _ {M : Type 1} {𝓤 : Ura M} (𝓛 : Logic 𝓤) (W : Which) (asks : ℕ → SProp 𝓤) where
    abbrev pub clauses : Clauses 𝓤 ended
    clauses κs a = let x = a.0.now in let m = a.1.0 in record {
      ghost = Unit {0};
      requires = λ g. asks m;
      ensures = λ g r e. sep 𝓤 (sem 𝓛 (follows_if Row (Array u8 0) a.0.ghost_name (name_if_ok (L.name κs.0) r)
          (λ v. standing x (splice (W.l x m) (W.i x m) v) (W.o x m)) x))
          (sep 𝓤 (fact 𝓤 (IsOk r ↔ (W.n x m ≤ length (drop_list x.off x.buf.now))))
          (fact 𝓤 (IfOk r (λ v. L.Shows κs.0 (W.b x m) v))));
    }

    abbrev pub leaves_clauses : Clauses 𝓤 leaves_ended
    leaves_clauses κs a = let x = a.0.now in let m = a.1.0 in record {
      ghost = Unit {0};
      requires = λ g. asks m;
      ensures = λ g r e. sep 𝓤 (fact 𝓤 (IsOk r ↔ (W.n x m ≤ length (drop_list x.off x.buf.now))))
          (fact 𝓤 (Leaves x e.0.now r (W.l x m) (W.i x m) (W.n x m) (W.o x m)));
    }

    abbrev pub lends_clauses : Clauses 𝓤 lends_ended
    lends_clauses κs a = let x = a.0.now in record {
      ghost = Unit {0};
      requires = λ g. fact 𝓤 (IfOk a.1.0 (λ p. IsWithin p x.buf.now));
      ensures = λ g r e. sep 𝓤 (sem 𝓛 (follows_if Row (Array u8 0) a.0.ghost_name (name_if_ok (L.name κs.0) r)
          (λ v. standing x (splice x.buf.now (from_of a.1.0) v) x.off) x))
          (sep 𝓤 (fact 𝓤 (IsOk r ↔ IsOk a.1.0)) (fact 𝓤 (IfOk r (λ v. L.Shows κs.0 (the_part a.1.0 x.buf.now) v))));
    }

    module _ (𝓜 : Model 𝓤 𝓛.H) (𝓡 : Running 𝓤 𝓛.H 𝓜) {name k k' : Callee} where
      pub lends_so : Closed 𝓤 𝓛.H (tables 𝓤 𝓛.H 𝓜 𝓡 𝓡.env).C (tables 𝓤 𝓛.H 𝓜 𝓡 𝓡.env).Λ name (function w L.ty k k')
          → Meets 𝓛 leaves_ended.signature (𝓡.run (𝓡.env k)) (closing 𝓛 leaves_ended leaves_clauses)
          → Meets 𝓛 lends_ended.signature (𝓡.run (𝓡.env k')) (closing 𝓛 lends_ended lends_clauses)
          → Meets 𝓛 signature (𝓡.run (𝓡.env name)) (closing 𝓛 ended clauses)
      lends_so closed met_part met_lend =
          let c = clauses in let 𝓣 = tables 𝓤 𝓛.H 𝓜 𝓡 𝓡.env in
          let O = UInt w in let out = λ (κ : Lft). refused (L.row κ) in
          walks.lends_by O out 𝓛 c (uint_vals w) 𝓜 𝓡 (λ κs x w. refl) (uint_Tells w) (function w L.ty k k') closed
          (λ κ κ' q q' inc x m _ is_number.
          let D' = St (named 1) κ' in let then = W.l x.now m in let i = W.i x.now m in let n = W.n x.now m in
          let end = W.o x.now m in
          let y = walks.bound O out 𝓛 c (uint_vals w) κ κ' q q' inc x m tt in split ! $ enter ! _ _ _ _ _ $
          alloc_all ! (λ l. pass_all ! refl ((tt, tt), ((eq_w_refl w, record { fits = is_number.1 }), tt))
          $ sets ! (addr ! (through ! refl (stop !))) refl (tt, tt) $
          -- the cursor is lent for a lifetime of its own
          split ! $ move ! (2 ∷ []) $ fsplit ! $ move ! (2 ∷ 0 ∷ []) $ lends_now ! tt D' κ q x (λ α δ.
          let κα : Lft = α ∷ κ in
          -- [the token of κα; the way back; the loan; the lender's part; the number; κ'; what is asked]
          move ! (2 ∷ 4 ∷ []) $ join ! $ move ! (1 ∷ 4 ∷ []) $ join ! $ join ! $ move ! (0 ∷ 3 ∷ []) $
          calls ! (framed 𝓤 𝓛.H 𝓜 𝓣) leaves_ended leaves_clauses met_part (
            (
              (κα, (κ', tt)),
              (part_of q, (q', tt)),
              (⊑_trans κα κ κ' (meet_⊑_right (α ∷ []) κ) inc, tt),
              (record x { ghost_name = δ }, (m, tt)),
              (mut_vals x, (vint w m ∷ [], tt)),
            ),
            tt,
          )
          (id⊢ 𝓤 _) (and_then ! (get ! refl) (and_then ! (get ! refl) (no_more !))) (λ v t ws is. move ! (1 ∷ []) $
          hears_both ! (λ fits leaves. lands_as ! refl refl (maybe_part_typed t v is) $
          sets ! (addr ! (through ! refl (stop !))) refl (tt, tt) $
          -- and comes back: [what is left after the loan; the tokens; the part; the way back; the lender's part]
          let x₁ : MutBor SliceCursor = record x { now = ws.0 } in move ! (1 ∷ []) $
          use1 𝓛 (‵ (flft κα (part_of q)) ⊛ ‵ (flft κ' q') ⊛ ‵ ftrue) (id⊢ 𝓤 _) $ split ! $
          move ! (2 ∷ 0 ∷ 4 ∷ 5 ∷ []) $ comes_left ! tt D' κ q α δ x ws.0 $
          -- [the token of κ; the cursor; κ'; the part]
          nothing ! $ move ! (4 ∷ 0 ∷ []) $ join ! $ move ! (2 ∷ 0 ∷ []) $ join ! $ move ! (1 ∷ 2 ∷ []) $ join ! $
          move ! (0 ∷ 1 ∷ []) $ join ! $ knows ! (is_within x.now ws.0 t then i n end leaves) $ move ! (1 ∷ 0 ∷ []) $
          calls ! (framed 𝓤 𝓛.H 𝓜 𝓣) lends_ended lends_clauses met_lend
          (((κ, (κ', tt)), (q, (q', tt)), (inc, tt), (x₁, (t, tt)), (mut_vals x, (v ∷ [], tt))), tt)
          (id⊢ 𝓤 _) (and_then ! (get ! refl) (and_then ! (get ! refl) (no_more !))) (λ u s us is₁. drop ! $
          hears_beside ! (follows_if Row (Array u8 0) x.ghost_name (name_if_ok (L.name κ) s)
          (λ v. standing ws.0 (splice ws.0.buf.now (from_of t) v) ws.0.off) ws.0) (λ same shown.
          -- [what the cursor follows; the tokens; the result]
          lands_as ! refl refl (L.typed κ s u is₁) $
          rewrite ! 0 (λ (X : Fml). ‵ X) (recast (L.name κ) s x.ghost_name x.now ws.0 t then i n end leaves same) refl
          $ returns ! (look_at ! 0 refl) $ free_all ! refl $ keep ! (0 ∷ 1 ∷ 2 ∷ []) $
          suffices ! _ (ends_at 𝓛 ended (walks.stayed O out) c y u s (tt, (tt, tt)) (tt, (tt, tt))) $
          hands_over ! 2 (both_ways same fits) (reshown (λ (b : List ℕ) (v : (L.row κ).Denot). L.Shows κ b v)
          x.now ws.0 t s then i n end (W.b x.now m) leaves same (W.is x.now m) shown))))))))
