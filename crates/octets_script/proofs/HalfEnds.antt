-- The cursor after the loan of two halves, which it lent in a Result, which were written through and passed on
-- as slices. Assumes `Logic`.
use Rattle.octets.proofs.loans
use loans.WalkSteps.{◌≡◌, ℕ, ◌≤◌, List, [], ◌∷◌, ◌++◌, length, take, refl, sym, ap, ◌∙◌, arith, lit<, Val, MutBor, fres}
use loans.WalkSteps.{use1, use2, ‵, ◌$◌, ◌∵◌, !, qed, by, move, keep, drop, join, fsplit, fsplit3, rewrite, u8, MutRef}
use loans.WalkSteps.{MutSlice, mut_vals, named, done}
use Rattle.std.proofs.Common.{length-append, length-drop}
use Rattle.std.proofs.lemmas.List.{length-take}
use Rattle.std.specs.Prelude.{◌↔◌, IsOk, IfOk, OnErr, drop as drop_list}
use seplogic.Ra.Ura.{Ura}
use lib.Dec.{T as True}
use mir.Val.{Vals, WT, has_ty, of_list, vstruct, vcons, vnil}
use base.Fml.{Fml, GName, Lft, Share, fdead, fobs}
use base.Logic.{ent, sep}
use base.Stored.{coded_list}
use types.Follow.{followed₂}
use types.Kit.{fpick}
use types.Logic.{Logic, sem}
use types.Match.{live}
use types.SemTy.{Arr}
use mathlib.Core.Bool.{true≢false}
use denote.Array.{Array}
use denote.Follow.{follows_both, both_by, both_if_by}
use denote.FollowSlice.{heres_id}
use denote.Laws.{Is}
use denote.Lend.{comes_back, LentAgain}
use denote.Memory.{lone, mem}
use denote.RattleType.{RattleType}
use denote.Slice.{slice_val}
use denote.Steps.{only}
use denote.Struct.Tuple.{Tuple}
use Rattle.std.specs.declared.result.Result.{Result}
use Rattle.std.specs.declared.result.Result.TheVariants.{Ok, Err}
use Rattle.std.specs.contracts.result.Result as Res
use Rattle.octets.specs.Bytes.{over, splice}
use Rattle.octets.specs.Cursor.{bytes, position, IsUnchanged, IsViewOf}
use Rattle.octets.specs.Slices.{reference}
use Rattle.octets.specs.Loans.{SliceCursor, LendsHalves, standing}
use Rattle.octets.specs.declared.error.BufferTooShortError.{BufferTooShortError}
use Rattle.octets.specs.contracts.error.BufferTooShortError as Short
use loans.LentValues.{Done}
use loans.ResultValues.{typed_as}
use loans.SliceCursors.{St, lowers}
use Rattle.octets_script.specs.Left.{HandsBoth}
use Rattle.octets_script.proofs.Endings.{length_over, over_at_start}

-- both halves of a cursor as views, or an error
abbrev pub LentHalves : Type 0
LentHalves = Result (SliceCursor × SliceCursor) BufferTooShortError

-- and as a type
abbrev pub lent_halves : Lft → RattleType
lent_halves κ = Res.the_row (Tuple (St (named 0) κ ∷ St (named 0) κ ∷ [])) Short.the_row

-- both halves as slices, or an error
abbrev pub LentPair : Type 0
LentPair = Result (MutBor (List ℕ) × MutBor (List ℕ)) BufferTooShortError

-- and as a type
abbrev pub lent_pair : Lft → RattleType
lent_pair κ = Res.the_row (Tuple (MutSlice (named 0) κ u8 ∷ MutSlice (named 0) κ u8 ∷ [])) Short.the_row

-- the machine value of two halves, or of the error, is of its type
pub lent_halves_typed : (κ : Lft) (r : LentHalves) (v : Val) → Is (lent_halves κ) r (v ∷ [])
    → True (has_ty (lone (lent_halves κ).mir) v) × WT v
lent_halves_typed κ (Ok s) v is =
    let L = lowers (named 0) κ in let pair = is.1.1.1.1.0 in
    let one = L.val_is s.0 pair.0.0 pair.1.1.0 in let two = L.val_is s.1 pair.0.1.0 pair.1.1.1.0 in
    typed_as (lone (lent_halves κ).mir) 0 is.1.0 is.1.1.1.0 (pair.1.0
    ∙ ap (λ (us : List Val). vstruct (of_list (us ++ (pair.0.1.0 ++ []))) ∷ []) one
    ∙ ap (λ (us : List Val). vstruct (of_list ((L.lowered s.0 ∷ []) ++ (us ++ []))) ∷ []) two) (
      tt,
      (
        record { fits = lit< tt },
        (
          (
            ((tt, (record { fits = pair.1.1.0.1.1.0.0.1.0 }, tt)), (record { fits = pair.1.1.0.1.1.1.0.1 }, tt)),
            (
              ((tt, (record { fits = pair.1.1.1.0.1.1.0.0.1.0 }, tt)), (record { fits = pair.1.1.1.0.1.1.1.0.1 }, tt)),
              tt,
            ),
          ),
          tt,
        ),
      ),
    )
lent_halves_typed κ (Err x) v is =
    typed_as (lone (lent_halves κ).mir) 1 is.1.0 is.1.1.1.0 is.1.1.1.1.0.1.0 (tt, (record { fits = lit< tt }, (tt, tt)))

-- the machine value of two slices, where there are two
abbrev pub tag : LentPair → ℕ
tag (Ok s) = 0
tag (Err e) = 1

-- and the fields of that value
abbrev pub fields : LentPair → Vals
fields (Ok s) = of_list (vstruct
    (vcons (slice_val s.0.ref_ptr (length s.0.now)) (vcons (slice_val s.1.ref_ptr (length s.1.now)) vnil)) ∷ [])
fields (Err e) = of_list (vstruct vnil ∷ [])

-- the machine value of two slices, or of the error, is this one
pub lent_pair_is : (κ : Lft) (r : LentPair) (v : Val) → Is (lent_pair κ) r (v ∷ []) → v ≡ live (tag r) (fields r)
lent_pair_is κ (Ok s) v is =
    let pair = is.1.1.1.1.0 in
    ap only is.1.0 ∙ ap (λ (us : List Val). live 0 (of_list us))
    (is.1.1.1.0 ∙ ap (λ (us : List Val). us ++ []) (pair.1.0
    ∙ ap (λ (us : List Val). vstruct (of_list (us ++ (pair.0.1.0 ++ []))) ∷ []) pair.1.1.0.0.0
    ∙ ap (λ (us : List Val). vstruct (of_list ((slice_val s.0.ref_ptr (length s.0.now) ∷ []) ++ (us ++ []))) ∷ [])
    pair.1.1.1.0.0.0))
lent_pair_is κ (Err x) v is = ap only is.1.0
    ∙ ap (λ (us : List Val). live 1 (of_list us)) (is.1.1.1.0 ∙ ap (λ (us : List Val). us ++ []) is.1.1.1.1.0.1.0)

-- and it is of its type
pub lent_pair_typed : (κ : Lft) (r : LentPair) (v : Val) → Is (lent_pair κ) r (v ∷ [])
    → True (has_ty (lone (lent_pair κ).mir) (live (tag r) (fields r))) × WT (live (tag r) (fields r))
lent_pair_typed κ (Ok s) v is = grind (arith, lit<)
lent_pair_typed κ (Err x) v is = (tt, (record { fits = lit< tt }, (tt, tt)))

-- where the tag is 0 there are two
pub tag_ok : (r : LentPair) → tag r ≡ 0 → IsOk r
tag_ok (Ok s) e = refl
tag_ok (Err x) e = absurd (omega (arith, e))

-- where it is 1 there are none
pub tag_err : (r : LentPair) → tag r ≡ 1 → IsOk r → ⊥
tag_err (Ok s) e = absurd (omega (arith, e))
tag_err (Err x) e = λ k. true≢false (sym k)

-- the cursor at the end
abbrev pub last : SliceCursor → LentPair → SliceCursor
last s (Ok r) = standing s (r.0.now ++ r.1.now) s.off
last s (Err e) = s

module _ {M : Type 1} {𝓤 : Ura M} (𝓛 : Logic 𝓤) (κ κ' κα : Lft) (q : Share) (x : MutBor SliceCursor) (δ : ℕ)
    (f g : SliceCursor → List ℕ) where
  abbrev D' : RattleType
  D' = St (named 1) κ'

  abbrev Sl' : RattleType
  Sl' = MutSlice (named 0) κα u8

  -- a slice that is given up has its last value
  given_up : (h : MutBor (List ℕ)) (vs : List Val)
      → ent 𝓤 (sem 𝓛 (Sl'.own_val h vs)) (𝓛.A.res h.ghost_name ((coded_list u8.coded).code h.now))
  given_up h vs = qed 𝓛 (‵ (Sl'.own_val h vs) ∷ []) ∵ fsplit3 ! $ drop !
      $ rewrite ! 0 (λ (l : List ℕ). ‵ (fobs h.ghost_name ((coded_list u8.coded).code l))) (heres_id u8 h.now) refl $
      use1 𝓛 (‵ (fres h.ghost_name ((coded_list u8.coded).code h.now)))
      (𝓛.names.obs-res h.ghost_name ((coded_list u8.coded).code h.now)) $ keep ! (0 ∷ []) $ done !

  -- the loan's end
  pub ends : (t : LentHalves) (r : LentPair) (vs : List Val) → HandsBoth t r f g
      → ent 𝓤 (sep 𝓤 (sem 𝓛 ((lent_pair κα).own_val r vs))
      (sep 𝓤 (sem 𝓛 (LendsHalves (record x { ghost_name = δ }) t))
      (sep 𝓤 (𝓛.A.dead κα) (sem 𝓛 (LentAgain D' κ κα q x.ghost_name x.ref_ptr.0 x.ref_ptr.1 δ x.now)))))
      (𝓛.H.⇛
      (sep 𝓤 (sem 𝓛 ((MutRef (named 0) κ D').own_val (record x { now = last x.now r }) (mut_vals x))) (𝓛.A.lft κ q)))
  unfolding both_by both_if_by
  ends (Ok v) (Ok s) vs hands = qed 𝓛 (‵ ((lent_pair κα).own_val (Ok s) vs) ∷
      ‵ (follows_both D' (Array u8 0) (Array u8 0) δ v.0.buf.ghost_name v.1.buf.ghost_name
      (λ a b. standing x.now (a ++ b) x.now.off)) ∷ ‵ (fdead κα) ∷
      ‵ (LentAgain D' κ κα q x.ghost_name x.ref_ptr.0 x.ref_ptr.1 δ x.now) ∷ []) ∵
      fpick ! (λ us. fsplit ! $ drop !
      $ fpick ! (λ uss. fsplit ! $ drop ! $ fsplit ! $ fpick ! (λ wss. fsplit ! $ drop ! $ fsplit ! $
      use1 𝓛 (‵ (fres s.0.ghost_name ((coded_list u8.coded).code s.0.now))) (given_up s.0 wss.0) $ move ! (1 ∷ [])
      $ fsplit ! $
      use1 𝓛 (‵ (fres s.1.ghost_name ((coded_list u8.coded).code s.1.now))) (given_up s.1 wss.1.0) $
      let Both : GName → GName → Fml =
      λ γ₁ γ₂. follows_both D' (Array u8 0) (Array u8 0) δ γ₁ γ₂ (λ a b. standing x.now (a ++ b) x.now.off) in
      rewrite ! 4 (λ (γ : GName). ‵ (Both γ v.1.buf.ghost_name)) (sym hands.0) refl
      $ rewrite ! 4 (λ (γ : GName). ‵ (Both s.0.ghost_name γ)) (sym hands.1) refl $
      move ! (2 ∷ 0 ∷ []) $ join ! $ move ! (0 ∷ 3 ∷ []) $
      use2 𝓛 (‵ (fres δ (D'.coded.code (standing x.now (s.0.now ++ s.1.now) x.now.off))))
      (followed₂ 𝓛 (mem D') (Arr (mem u8) 0) (Arr (mem u8) 0) (λ a b. standing x.now (a ++ b) x.now.off)
      δ s.0.ghost_name s.1.ghost_name s.0.now s.1.now) $
      keep ! (3 ∷ 4 ∷ 0 ∷ []) $ by ! (comes_back 𝓛 D' (named 0) κ κα q x.ghost_name x.ref_ptr.0 x.ref_ptr.1 δ x.now
      (standing x.now (s.0.now ++ s.1.now) x.now.off)))))
  ends (Err e) (Err e') vs hands =
      qed 𝓛 (‵ ((lent_pair κα).own_val (Err e') vs) ∷ ‵ (fres δ (D'.coded.code x.now)) ∷ ‵ (fdead κα) ∷
      ‵ (LentAgain D' κ κα q x.ghost_name x.ref_ptr.0 x.ref_ptr.1 δ x.now) ∷ []) ∵
      keep ! (2 ∷ 3 ∷ 1 ∷ [])
      $ by ! (comes_back 𝓛 D' (named 0) κ κα q x.ghost_name x.ref_ptr.0 x.ref_ptr.1 δ x.now x.now)
  ends _ _ vs hands = absurd hands

-- what the command ensures
pub after : (s : SliceCursor) (m : ℕ) (wl wr : List ℕ) (t : LentHalves) (r : LentPair) (d : Done)
    → (IsOk t ↔ (m ≤ length s.buf.now))
    → IfOk t (λ v. IsViewOf (take m s.buf.now) v.0 × IsViewOf (drop_list m s.buf.now) v.1)
    → HandsBoth t r (λ v. splice (bytes v) (position v) (over (drop_list (position v) (bytes v)) wl))
    (λ v. splice (bytes v) (position v) (over (drop_list (position v) (bytes v)) wr)) → (IsOk d ↔ IsOk r)
    → let e = last s r in (IsOk d ↔ (m ≤ length s.buf.now))
    × (IfOk d (λ _. bytes e ≡ over (take m s.buf.now) wl ++ over (drop_list m s.buf.now) wr))
    × (position e ≡ position s) × (OnErr d (IsUnchanged s e)) × (reference e ≡ reference s)
after s m wl wr (Ok v) (Ok r) (Ok u) fits shown hands same =
    grind (arith, over_at_start, length-append, length_over, length-take, length-drop)
after s m wl wr (Ok v) (Ok r) (Err e) fits shown hands same = absurd (true≢false (sym (same.1 refl)))
after s m wl wr (Err e) (Err e') (Ok u) fits shown hands same = absurd (true≢false (sym (same.0 refl)))
after s m wl wr (Err e) (Err e') (Err e'') fits shown hands same =
    (((λ k. absurd (true≢false (sym k))), (λ p. fits.1 p)), tt, refl, (refl, refl), refl)
after s m wl wr _ _ d fits shown hands same = absurd hands
