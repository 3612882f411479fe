-- The slice in a cursor after a reference is lent for all the time that the reference has, and the cursor ends with
-- what was last after it. Assumes `Logic`.
use Rattle.octets.proofs.loans
use loans.WalkSteps.{◌≡◌, refl, sym, ap, ℕ, ◌+◌, arith, List, [], ◌∷◌, length, named, Val, full_share, flft, ‵, raw}
use loans.WalkSteps.{use1, use2, use3, ◌⊛◌, some, later, await, ◌$◌, ◌∵◌, !, qed, by, move, pick, show, split, split3}
use loans.WalkSteps.{rewrite, fsplit, fsplit3, fjoin, feq_i, feq_l, done, u8, mem, MutBor, at_last, MutSlice, Room}
use loans.WalkSteps.{mut_slice_vals, slice_val}
use seplogic.Ra.Ura.{Ura}
use base.Stored.{coded_list}
use base.Logic.{SProp, ent, sep, guard}
use base.Fml.{Lft, Incl, GName, Share, Fml, fsep, fobs, fbor}
use types.Logic.{Logic, sem}
use types.Kit.{Item, mean, check, fjoin3, fpick, fpack, updating, now as at_once}
use types.SemTy.{Body, Arr}
use types.Through.{hands_through}
use denote.RattleType.{RattleType}
use denote.Memory.{cell_at, part_at, part_of}
use denote.Follow.{follows}
use denote.Array.{Array}
use denote.Slice.{room}
use denote.FollowSlice.{heres_id, slice_of}
use denote.Through.{renamed}
use Rattle.std.proofs.Common.{min}
use Rattle.octets.specs.Loans.{SliceCursor, standing}
use loans.SliceCursors.{Sl, St, whole_but, apart, again}

abbrev pub lent_ends : SliceCursor → List ℕ → SliceCursor
lent_ends x ws = standing x ws x.off

module _ {M : Type 1} {𝓤 : Ura M} (𝓛 : Logic 𝓤) (κ κ' : Lft) (b o : ℕ) (γ : GName) (x : SliceCursor) where
  open 𝓛 use {H, A}

  abbrev S : RattleType
  S = St (named 1) κ'

  abbrev Slice : RattleType
  Slice = Sl (named 1) κ'

  abbrev h : MutBor (List ℕ)
  h = x.buf

  abbrev n : ℕ
  n = length h.now

  abbrev Held : GName → Fml
  Held δ = Body (Arr (mem u8) n) h.ref_ptr.0 h.ref_ptr.1 δ

  abbrev Cellˢ : Fml
  Cellˢ = cell_at full_share Slice.mir (mut_slice_vals h) b (o + 0)

  abbrev Has : List ℕ → SProp 𝓤
  Has ws = sep 𝓤 (A.obs h.ghost_name ((coded_list u8.coded).code ws))
      (sep 𝓤 (A.bor κ' (Held h.ghost_name)) (sep 𝓤 (sem 𝓛 Cellˢ) (sep 𝓤 (sem 𝓛 (room u8 n)) (whole_but 𝓛 κ' x b o))))

  counts : (ws : List ℕ) → ent 𝓤 (sem 𝓛 ((Arr (mem u8) n).own_at ws h.ref_ptr.0 h.ref_ptr.1))
      (guard 𝓤 (length ws ≡ n) (sem 𝓛 ((Arr (mem u8) n).own_at ws h.ref_ptr.0 h.ref_ptr.1)))
  counts ws = qed 𝓛 (‵ ((Arr (mem u8) n).own_at ws h.ref_ptr.0 h.ref_ptr.1) ∷ []) ∵ fsplit !
      $ feq_l ! (λ e. check ! e $ feq_i ! ℕ (length ws) n e $ done !)

  cut : ent 𝓤 (sem 𝓛 (part_at S full_share x b o)) (Has h.now)
  unfolding part_of
  cut = qed 𝓛 (‵ (part_at S full_share x b o) ∷ []) ∵ use1 𝓛 (‵ (part_at Slice full_share h b (o + 0)) ⊛ raw
      (whole_but 𝓛 κ' x b o)) (apart 𝓛 κ' x b o) $ split ! $ fpick ! (λ vs. fsplit ! $
      move ! (1 ∷ []) $ fsplit3 ! $ fsplit ! $ feq_l ! (λ e.
      rewrite ! 3 (λ (us : List Val). ‵ (cell_at full_share Slice.mir us b (o + 0))) e refl $
      rewrite ! 1 (λ (l : List ℕ). ‵ (fobs h.ghost_name ((coded_list u8.coded).code l))) (heres_id u8 h.now) refl
      $ move ! (1 ∷ 2 ∷ 3 ∷ 0 ∷ []) $ done !))

  back : (ws : List ℕ) → length ws ≡ n → ent 𝓤 (Has ws) (sem 𝓛 (part_at S full_share (lent_ends x ws) b o))
  unfolding part_of
  back ws e =
      let stays : min x.off (length ws) ≡ x.off = let w = x.within in omega (arith, e, w) in
      qed 𝓛 (‵ (fobs h.ghost_name ((coded_list u8.coded).code ws)) ∷ ‵ (fbor κ' (Held h.ghost_name)) ∷ ‵ Cellˢ ∷ ‵
      (room u8 n) ∷ raw (whole_but 𝓛 κ' x b o) ∷ []) ∵
      rewrite ! 0 (λ (l : List ℕ). ‵ (fobs h.ghost_name ((coded_list u8.coded).code l))) (sym (heres_id u8 ws)) refl $
      rewrite ! 1 (λ (k : ℕ). ‵ (fbor κ' (Body (Arr (mem u8) k) h.ref_ptr.0 h.ref_ptr.1 h.ghost_name))) (sym e) refl $
      rewrite ! 2 (λ (k : ℕ). ‵ (cell_at full_share Slice.mir (slice_val h.ref_ptr k ∷ []) b (o + 0))) (sym e) refl
      $ rewrite ! 3 (λ (k : ℕ). ‵ (room u8 k)) (sym e) refl $ move ! (3 ∷ []) $
      feq_i ! (List Val) (mut_slice_vals (at_last h ws)) (mut_slice_vals (at_last h ws)) refl $ fjoin ! $ fjoin3 !
      $ move ! (1 ∷ 0 ∷ []) $ fjoin ! $
      fpack ! (List Val) (λ us. fsep (cell_at full_share Slice.mir us b (o + 0)) (Slice.own_val (at_last h ws) us))
      (mut_slice_vals (at_last h ws)) $
      by ! (again 𝓛 κ' x b o (at_last h ws) (lent_ends x ws) (ap (λ (k : ℕ). (at_last h ws, (k, tt))) stays))

  abbrev pub slice_lent : Share → GName → Item 𝓤
  slice_lent q γ' = ‵ ((MutSlice (named 0) κ u8).own_val (renamed h γ') (mut_slice_vals h)) ⊛ ‵ (flft κ q) ⊛ ‵
      (follows S (Array u8 0) γ γ' (lent_ends x))

  pub lends_within : Incl κ κ' → Room u8 n → (q : Share) → ent 𝓤 (sep 𝓤 (A.obs γ (S.coded.code x))
      (sep 𝓤 (A.bor κ (Body (mem S) b o γ)) (A.lft κ q))) (mean 𝓛 (later (some (slice_lent q))))
  lends_within inc rm q =
      qed 𝓛 (‵ (fobs γ (S.coded.code x)) ∷ ‵ (fbor κ (Body (mem S) b o γ)) ∷ ‵ (flft κ q) ∷ []) ∵ updating ! $
      use3 𝓛 (later (some (λ (γ' : GName). ‵ (fobs γ' ((coded_list u8.coded).code h.now)) ⊛ ‵ (fbor κ (Held γ')) ⊛ ‵
      (flft κ q) ⊛ ‵ (follows S (Array u8 0) γ γ' (lent_ends x)))))
      (hands_through 𝓛 (mem S) (Arr (mem u8) n) (lent_ends x) κ κ' inc b o h.ref_ptr.0 h.ref_ptr.1 γ h.ghost_name
      (sep 𝓤 (sem 𝓛 Cellˢ) (sep 𝓤 (sem 𝓛 (room u8 n)) (whole_but 𝓛 κ' x b o))) (λ ws. length ws ≡ n)
      counts back q x h.now cut) $ await ! tt $ pick ! (λ γ'. split3 ! $
      use2 𝓛 (‵ ((MutSlice (named 0) κ u8).own_val (renamed h γ') (mut_slice_vals h)))
      (slice_of 𝓛 u8 (named 0) κ h.ref_ptr.0 h.ref_ptr.1 γ' h.now rm) $ at_once ! $
      show ! (λ δ. mean 𝓛 (slice_lent q δ)) γ' $ done !)
