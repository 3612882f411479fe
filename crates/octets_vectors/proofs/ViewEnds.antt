-- The cursor after the loan of a slice that it lent in a Result to `was_lent`, or of a view that was written
-- through and passed on as a slice. Assumes `Logic`.
use Rattle.octets.proofs.loans
use loans.WalkSteps.{◌≡◌, ℕ, ◌≤◌, List, [], ◌∷◌, length, refl, sym, ap, ◌∙◌, arith, MutBor, fres, ‵, ◌$◌, ◌∵◌, !, qed}
use loans.WalkSteps.{by, keep, fsplit, rewrite, u8, MutRef, mut_vals, named, lasts}
use Rattle.std.specs.Prelude.{◌↔◌, IsOk, IfOk, OnErr}
use seplogic.Ra.Ura.{Ura}
use base.Fml.{Lft, Share, fdead}
use base.Logic.{ent, sep}
use types.Logic.{Logic, sem}
use mathlib.Core.Bool.{true≢false}
use denote.Array.{Array}
use denote.Follow.{follows, follows_by}
use denote.FollowSlice.{comes_back_following_slice}
use denote.Lend.{comes_back, LentAgain}
use denote.RattleType.{RattleType}
use denote.Triple.Clauses.{Lasts, at_exit}
use Rattle.std.specs.declared.result.Result.TheVariants.{Ok, Err}
use Rattle.octets.specs.Bytes.{splice}
use Rattle.octets.specs.Cursor.{bytes, position, IsUnchanged, IsViewOf}
use Rattle.octets.specs.Slices.{reference}
use Rattle.octets.specs.Loans.{SliceCursor, LendsBytes, LendsView, standing}
use Rattle.octets.proofs.lemmas.Splices.{length_splice}
use loans.LentValues.{LentBytes, LentView, Done}
use loans.SliceCursors.{St}
use Rattle.octets_script.specs.Left.{Hands, LeftSame}
use Rattle.octets_vectors.specs.contracts.nested.was_lent as h

-- what `was_lent` left after the slice
abbrev pub Behind : Lft → LentBytes → Type 0
Behind κα r = Lasts h.ended (κα, tt) (r, tt)

-- the cursor that had the bytes l, of which those from i on were lent, and whose position is then o
abbrev pub last : (κα : Lft) (s : SliceCursor) (l : List ℕ) (i o : ℕ) (r : LentBytes) → Behind κα r → SliceCursor
last κα s l i o (Ok r) ws = standing s (splice l i ws.0.0) o
last κα s l i o (Err e) ws = s

module _ {M : Type 1} {𝓤 : Ura M} (𝓛 : Logic 𝓤) (κ κ' κα : Lft) (q : Share) (x : MutBor SliceCursor) (δ : ℕ)
    (l : List ℕ) (i o : ℕ) where
  abbrev D' : RattleType
  D' = St (named 1) κ'

  -- the loan's end
  pub slice_ends : (t : LentBytes) (ws : Behind κα t)
      → ent 𝓤 (sep 𝓤 (sem 𝓛 (lasts h.ended (κα, tt) (t, tt) ws))
      (sep 𝓤 (sem 𝓛 (LendsBytes (record x { ghost_name = δ }) l i o t))
      (sep 𝓤 (𝓛.A.dead κα) (sem 𝓛 (LentAgain D' κ κα q x.ghost_name x.ref_ptr.0 x.ref_ptr.1 δ x.now)))))
      (𝓛.H.⇛ (sep 𝓤 (sem 𝓛 ((MutRef (named 0) κ D').own_val (record x { now = last κα x.now l i o t ws }) (mut_vals x)))
      (𝓛.A.lft κ q)))
  unfolding follows_by
  slice_ends (Ok s) ws = qed 𝓛 (‵ (lasts h.ended (κα, tt) (Ok s, tt) ws) ∷
      ‵ (follows D' (Array u8 0) δ s.ghost_name (λ b. standing x.now (splice l i b) o)) ∷ ‵ (fdead κα) ∷
      ‵ (LentAgain D' κ κα q x.ghost_name x.ref_ptr.0 x.ref_ptr.1 δ x.now) ∷ []) ∵
      fsplit ! $ fsplit ! $ fsplit ! $ fsplit ! $ keep ! (0 ∷ 5 ∷ 6 ∷ 7 ∷ []) $
      by ! (comes_back_following_slice 𝓛 D' u8 (λ b. standing x.now (splice l i b) o) (named 0)
      κ κα q x.ghost_name x.ref_ptr.0 x.ref_ptr.1 δ s.ghost_name x.now ws.0.0)
  slice_ends (Err e) ws =
      qed 𝓛 (‵ (lasts h.ended (κα, tt) (Err e, tt) ws) ∷ ‵ (fres δ (D'.coded.code x.now)) ∷ ‵ (fdead κα) ∷
      ‵ (LentAgain D' κ κα q x.ghost_name x.ref_ptr.0 x.ref_ptr.1 δ x.now) ∷ []) ∵
      keep ! (2 ∷ 3 ∷ 1 ∷ [])
      $ by ! (comes_back 𝓛 D' (named 0) κ κα q x.ghost_name x.ref_ptr.0 x.ref_ptr.1 δ x.now x.now)

  -- that of a view
  pub ends : (f : SliceCursor → List ℕ) (t : LentView) (r : LentBytes) (ws : Behind κα r) → Hands t r f
      → ent 𝓤 (sep 𝓤 (sem 𝓛 (lasts h.ended (κα, tt) (r, tt) ws))
      (sep 𝓤 (sem 𝓛 (LendsView (record x { ghost_name = δ }) l i o t))
      (sep 𝓤 (𝓛.A.dead κα) (sem 𝓛 (LentAgain D' κ κα q x.ghost_name x.ref_ptr.0 x.ref_ptr.1 δ x.now)))))
      (𝓛.H.⇛ (sep 𝓤 (sem 𝓛 ((MutRef (named 0) κ D').own_val (record x { now = last κα x.now l i o r ws }) (mut_vals x)))
      (𝓛.A.lft κ q)))
  unfolding follows_by
  ends f (Ok v) (Ok s) ws hands = qed 𝓛 (‵ (lasts h.ended (κα, tt) (Ok s, tt) ws) ∷
      ‵ (follows D' (Array u8 0) δ v.buf.ghost_name (λ b. standing x.now (splice l i b) o)) ∷ ‵ (fdead κα) ∷
      ‵ (LentAgain D' κ κα q x.ghost_name x.ref_ptr.0 x.ref_ptr.1 δ x.now) ∷ []) ∵
      rewrite ! 1 (λ (γ : ℕ). ‵ (follows D' (Array u8 0) δ γ (λ b. standing x.now (splice l i b) o))) (sym hands.0) refl
      $ by ! (slice_ends (Ok s) ws)
  ends f (Err e) (Err e') ws hands = slice_ends (Err e') ws
  ends f _ _ ws hands = absurd hands

-- what a command ensures, where f computes `left` from a view of the bytes that are shown
pub after : (κα : Lft) (s : SliceCursor) (l shown left : List ℕ) (i o : ℕ) (P : Type 0) (f : SliceCursor → List ℕ)
    (t : LentView) (r : LentBytes) (d : Done) (ws : Behind κα r)
    → (P → o ≤ length l) → ((v : SliceCursor) → IsViewOf shown v → f v ≡ left) → (IsOk t ↔ P)
    → IfOk t (λ v. IsViewOf shown v) → Hands t r f → (IsOk d ↔ IsOk r)
    → LeftSame r (at_exit h.ended (κα, tt) (r, tt) ws).0
    → let e = last κα s l i o r ws in (IsOk d ↔ P) × (IfOk d (λ _. bytes e ≡ splice l i left))
    × (IfOk d (λ _. position e ≡ o)) × (OnErr d (IsUnchanged s e)) × (reference e ≡ reference s)
after κα s l shown left i o P f (Ok v) (Ok r) (Ok u) ws inside tells fits shows hands same laid =
    let long = length_splice l i ws.0.0 in let within = inside (fits.0 refl) in (
      ((λ _. fits.0 refl), (λ _. refl)),
      ap (splice l i) (laid ∙ hands.1 ∙ tells v shows),
      omega (arith, long, within),
      tt,
      refl,
    )
after κα s l shown left i o P f (Ok v) (Ok r) (Err e) ws inside tells fits shows hands same laid =
    absurd (true≢false (sym (same.1 refl)))
after κα s l shown left i o P f (Err e) (Err e') (Ok u) ws inside tells fits shows hands same laid =
    absurd (true≢false (sym (same.0 refl)))
after κα s l shown left i o P f (Err e) (Err e') (Err e'') ws inside tells fits shows hands same laid =
    (((λ k. absurd (true≢false (sym k))), (λ p. fits.1 p)), tt, tt, (refl, refl), refl)
after _ s l shown left i o _ f _ _ d ws inside tells fits shows hands same laid = absurd hands
