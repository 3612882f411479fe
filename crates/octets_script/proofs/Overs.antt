-- The cursor after the loan of a slice, which it lent in a Result and `over_part` wrote over. Assumes `Logic`.
use Rattle.octets.proofs.loans
use loans.WalkSteps.{◌≡◌, ℕ, ◌≤◌, List, [], ◌∷◌, length, refl, sym, arith, MutBor, fres, ‵, ◌$◌, ◌∵◌, !, qed, by, keep}
use loans.WalkSteps.{fsplit, u8, MutRef, mut_vals, named, lasts}
use Rattle.std.specs.Prelude.{◌↔◌, IsOk, IfOk, OnErr}
use seplogic.Ra.Ura.{Ura}
use base.Fml.{Lft, Share, fdead}
use base.Logic.{ent, sep}
use types.Logic.{Logic, sem}
use mathlib.Core.Bool.{true≢false}
use denote.Array.{Array}
use denote.Follow.{follows, follows_by}
use denote.FollowSlice.{comes_back_following_slice}
use denote.Lend.{comes_back, LentAgain}
use denote.RattleType.{RattleType}
use denote.Ref.{Bor}
use denote.Triple.Clauses.{Lasts, at_exit}
use Rattle.std.specs.declared.result.Result.TheVariants.{Ok, Err}
use Rattle.octets.specs.Bytes.{over, splice}
use Rattle.octets.specs.Cursor.{bytes, position, IsUnchanged}
use Rattle.octets.specs.Slices.{reference}
use Rattle.octets.specs.Loans.{SliceCursor, LendsBytes, standing}
use Rattle.octets.proofs.lemmas.Splices.{length_splice}
use loans.LentValues.{LentBytes, Done}
use loans.SliceCursors.{St}
use Rattle.octets_script.specs.Left.{Left}
use Rattle.octets_script.specs.contracts.over.slices.over_part as h

-- what `over_part` left after the slice
abbrev pub Behind : (κα κw : Lft) (w : Bor (List ℕ)) → LentBytes → Type 0
Behind κα κw w t = Lasts h.ended (κα, (κw, tt)) (t, (w, tt))

-- the cursor that had the bytes l, of which those from i on were lent, and whose position is then o
abbrev pub last : (κα κw : Lft) (w : Bor (List ℕ)) (s : SliceCursor) (l : List ℕ) (i o : ℕ) (t : LentBytes)
    → Behind κα κw w t → SliceCursor
last κα κw w s l i o (Ok r) ws = standing s (splice l i ws.0.0) o
last κα κw w s l i o (Err e) ws = s

module _ {M : Type 1} {𝓤 : Ura M} (𝓛 : Logic 𝓤) (κ κ' κα κw : Lft) (q : Share) (w : Bor (List ℕ))
    (x : MutBor SliceCursor) (δ : ℕ) (l : List ℕ) (i o : ℕ) where
  abbrev D' : RattleType
  D' = St (named 1) κ'

  -- the loan's end
  pub ends : (t : LentBytes) (ws : Behind κα κw w t)
      → ent 𝓤 (sep 𝓤 (sem 𝓛 (lasts h.ended (κα, (κw, tt)) (t, (w, tt)) ws))
      (sep 𝓤 (sem 𝓛 (LendsBytes (record x { ghost_name = δ }) l i o t))
      (sep 𝓤 (𝓛.A.dead κα) (sem 𝓛 (LentAgain D' κ κα q x.ghost_name x.ref_ptr.0 x.ref_ptr.1 δ x.now)))))
      (𝓛.H.⇛ (sep 𝓤 (sem 𝓛
      ((MutRef (named 0) κ D').own_val (record x { now = last κα κw w x.now l i o t ws }) (mut_vals x))) (𝓛.A.lft κ q)))
  unfolding follows_by
  ends (Ok s) ws = qed 𝓛 (‵ (lasts h.ended (κα, (κw, tt)) (Ok s, (w, tt)) ws) ∷
      ‵ (follows D' (Array u8 0) δ s.ghost_name (λ v. standing x.now (splice l i v) o)) ∷ ‵ (fdead κα) ∷
      ‵ (LentAgain D' κ κα q x.ghost_name x.ref_ptr.0 x.ref_ptr.1 δ x.now) ∷ []) ∵
      fsplit ! $ fsplit ! $ fsplit ! $ fsplit ! $ keep ! (0 ∷ 5 ∷ 6 ∷ 7 ∷ []) $
      by ! (comes_back_following_slice 𝓛 D' u8 (λ v. standing x.now (splice l i v) o) (named 0)
      κ κα q x.ghost_name x.ref_ptr.0 x.ref_ptr.1 δ s.ghost_name x.now ws.0.0)
  ends (Err e) ws =
      qed 𝓛 (‵ (lasts h.ended (κα, (κw, tt)) (Err e, (w, tt)) ws) ∷ ‵ (fres δ (D'.coded.code x.now)) ∷ ‵ (fdead κα) ∷
      ‵ (LentAgain D' κ κα q x.ghost_name x.ref_ptr.0 x.ref_ptr.1 δ x.now) ∷ []) ∵
      keep ! (2 ∷ 3 ∷ 1 ∷ [])
      $ by ! (comes_back 𝓛 D' (named 0) κ κα q x.ghost_name x.ref_ptr.0 x.ref_ptr.1 δ x.now x.now)

-- what a command ensures
pub after : (κα κw : Lft) (w : Bor (List ℕ)) (s : SliceCursor) (l shown : List ℕ) (i o : ℕ) (P : Type 0) (t : LentBytes)
    (d : Done) (ws : Behind κα κw w t)
    → (P → o ≤ length l) → (IsOk t ↔ P) → IfOk t (λ r. r.now ≡ shown) → (IsOk d ↔ IsOk t)
    → Left t (at_exit h.ended (κα, (κw, tt)) (t, (w, tt)) ws).0 w.now
    → let e = last κα κw w s l i o t ws in
    (IsOk d ↔ P) × (IfOk d (λ _. bytes e ≡ splice l i (over shown w.now))) × (IfOk d (λ _. position e ≡ o))
    × (OnErr d (IsUnchanged s e)) × (reference e ≡ reference s)
after κα κw w s l shown i o P (Ok r) (Ok u) ws inside fits shows same laid = grind (arith, length_splice)
after κα κw w s l shown i o P (Ok r) (Err e) ws inside fits shows same laid = absurd (true≢false (sym (same.1 refl)))
after κα κw w s l shown i o P (Err e) (Ok u) ws inside fits shows same laid = absurd (true≢false (sym (same.0 refl)))
after κα κw w s l shown i o P (Err e) (Err e') ws inside fits shows same laid =
    (((λ k. absurd (true≢false (sym k))), (λ p. fits.1 p)), tt, tt, (refl, refl), refl)
