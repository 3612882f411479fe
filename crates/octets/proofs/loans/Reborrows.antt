-- Steps of a hand-written proof that lends a reference again, for a lifetime within the reference's, and gets it back.
-- Assumes `Logic`.
--     lends_now own x ∗ [κ]_q becomes, for some α and δ: [α κ]_r,
--     the way back from it, own x at α κ under δ, what is kept
--     ends_now      [α κ]_r ∗ the way back      becomes that α κ is dead, and the half of κ's token
--     comes_home    what the callee left of the loan, and what is kept, become own x at its last value, and [κ]_q
--     comes_left    likewise of a callee that kept the loan, of which it left what was last after it
--     knows         one fact more
use Rattle.octets.proofs.loans
use loans.WalkSteps.{ℕ, List, [], ◌∷◌, MutBor, full_share, flft, named, fact, fact_i, emp, ‵, raw, ◌⊛◌, some, later}
use loans.WalkSteps.{◌$◌, move, keep, drop, fsplit, by, qed, ◌∵◌, !, fres, use0, use1, use2, split, pick, await}
use loans.WalkSteps.{group, MutRef, mut_vals}
use seplogic.Ra.Ura.{Ura}
use base.Fml.{Fml, Lft, Share, fdead, fsep}
use base.FractionLaws.{common}
use base.Logic.{SProp, ent, sep, wand, apply∗}
use base.Share.{left, right, halves}
use contract.BorrowLft.{meet_⊑_left}
use types.Kit.{Goal, Item, Seq, Soaks, Step, step, mean}
use types.Logic.{Logic, sem}
use types.Tokens.{lft_new, lft_end, lft-common}
use denote.Lend.{lends_again, comes_back, LentAgain}
use denote.RattleType.{RattleType}

abbrev pub part_of : Share → Share
part_of q = (common full_share (right q)).0

module _ {M : Type 1} {𝓤 : Ura M} (𝓛 : Logic 𝓤) (κ : Lft) (q : Share) (α : ℕ) where
  open 𝓛 use {A}

  -- both halves of a meet, and the way back to them
  abbrev pub Both : SProp 𝓤
  Both = sep 𝓤 (A.lft (α ∷ []) full_share) (A.lft κ (right q))

  abbrev pub Back : SProp 𝓤
  Back = wand 𝓤 (A.lft (α ∷ κ) (part_of q)) Both

module _ {M : Type 1} {𝓤 : Ura M} {𝓛 : Logic 𝓤} {K : Type 0} {Γ : List (Item 𝓤)} {G : Goal 𝓤 𝓛.H} where
  open 𝓛 use {H, A}

  abbrev pub lends_now : K → Soaks G → (D : RattleType) (κ : Lft) (q : Share) (x : MutBor D.Denot)
      → ((α δ : ℕ) → Seq K 𝓛 (‵ (flft (α ∷ κ) (part_of q)) ∷ raw (Back 𝓛 κ q α) ∷ ‵
      ((MutRef (named 0) (α ∷ κ) D).own_val (record x { ghost_name = δ }) (mut_vals x))
      ∷ ‵ (LentAgain D κ (α ∷ κ) (left q) x.ghost_name x.ref_ptr.0 x.ref_ptr.1 δ x.now) ∷ Γ) G)
      → Seq K 𝓛 (‵ (flft κ q) ∷ ‵ ((MutRef (named 0) κ D).own_val x (mut_vals x)) ∷ Γ) G
  lends_now t a D κ q x k =
      use1 𝓛 (‵ (flft κ (left q)) ⊛ ‵ (flft κ (right q))) (𝓛.lfts.lft_cut κ q (left q) (right q) (halves q)) $ split t
      $ move t (2 ∷ 0 ∷ []) $ lft_new t a (λ α. move t (1 ∷ 2 ∷ []) $
      use2 𝓛
      (later (some (λ (δ : ℕ). ‵ ((MutRef (named 0) (α ∷ κ) D).own_val (record x { ghost_name = δ }) (mut_vals x))
      ⊛ ‵ (LentAgain D κ (α ∷ κ) (left q) x.ghost_name x.ref_ptr.0 x.ref_ptr.1 δ x.now))))
      (lends_again 𝓛 D (named 0) κ (α ∷ κ) (left q) x.ghost_name x.ref_ptr.0 x.ref_ptr.1 (named 0) x.now) $ await t a
      $ pick t (λ δ. split t $ move t (2 ∷ 3 ∷ []) $
      use2 𝓛 (‵ (flft (α ∷ κ) (part_of q)) ⊛ raw (Back 𝓛 κ q α)) (lft-common 𝓛 (α ∷ []) κ full_share (right q))
      $ split t $ k α δ))

  abbrev pub ends_now : K → Soaks G → (κ : Lft) (q : Share) (α : ℕ) → Step K 𝓛
      (‵ (fdead (α ∷ κ)) ∷ ‵ (flft κ (right q)) ∷ Γ) G (‵ (flft (α ∷ κ) (part_of q)) ∷ raw (Back 𝓛 κ q α) ∷ Γ) G
  ends_now t a κ q α = step (λ s. use2 𝓛 (‵ (flft (α ∷ []) full_share) ⊛ ‵ (flft κ (right q)))
      (apply∗ 𝓤 (A.lft (α ∷ κ) (part_of q)) (Both 𝓛 κ q α)) $ split t $ lft_end t a $
      use1 𝓛 (‵ (fdead (α ∷ κ))) (𝓛.lfts.dead-incl (α ∷ κ) (α ∷ []) (meet_⊑_left (α ∷ []) κ)) $ s)

  abbrev pub knows : K → {P : Type 0} → P → Step K 𝓛 (raw (fact 𝓤 P) ∷ Γ) G Γ G
  knows t {P} p = use0 𝓛 (raw (fact 𝓤 P)) (fact_i 𝓤 P (emp 𝓤) p)

module _ {M : Type 1} {𝓤 : Ura M} {𝓛 : Logic 𝓤} {K : Type 0} {Γ : List (Item 𝓤)} {G : Goal 𝓤 𝓛.H} where
  open 𝓛 use {H, A}

  abbrev pub comes_home : K → Soaks G
      → (D : RattleType) (κ : Lft) (q : Share) (α δ : ℕ) (x : MutBor D.Denot) (last : D.Denot) {P Q : Item 𝓤}
      → ent 𝓤 (sep 𝓤 (mean 𝓛 P) (sep 𝓤 (mean 𝓛 Q)
      (sep 𝓤 (A.dead (α ∷ κ)) (sem 𝓛 (LentAgain D κ (α ∷ κ) (left q) x.ghost_name x.ref_ptr.0 x.ref_ptr.1 δ x.now)))))
      (H.⇛ (sep 𝓤 (sem 𝓛 ((MutRef (named 0) κ D).own_val (record x { now = last }) (mut_vals x))) (A.lft κ (left q))))
      → Step K 𝓛 (‵ (flft κ q) ∷ ‵ ((MutRef (named 0) κ D).own_val (record x { now = last }) (mut_vals x)) ∷ Γ) G
      (P ∷ Q ∷ ‵ (flft (α ∷ κ) (part_of q)) ∷ raw (Back 𝓛 κ q α) ∷ ‵
      (LentAgain D κ (α ∷ κ) (left q) x.ghost_name x.ref_ptr.0 x.ref_ptr.1 δ x.now) ∷ Γ) G
  comes_home t a D κ q α δ x last ends =
      step (λ s. move t (2 ∷ 3 ∷ []) $ ends_now t a κ q α $ move t (2 ∷ 3 ∷ 0 ∷ 4 ∷ []) $ group t 4 $
      use1 𝓛 (later (‵ ((MutRef (named 0) κ D).own_val (record x { now = last }) (mut_vals x)) ⊛ ‵ (flft κ (left q))))
      ends $ await t a $ split t $
      move t (1 ∷ 2 ∷ []) $ use2 𝓛 (‵ (flft κ q)) (𝓛.lfts.lft_glue κ q (left q) (right q) (halves q)) $ s)

  pub comes_left : K → Soaks G → (D : RattleType) (κ : Lft) (q : Share) (α δ : ℕ) (x : MutBor D.Denot) (last : D.Denot)
      {borrow rest : Fml} → Step K 𝓛
      (‵ (flft κ q) ∷ ‵ ((MutRef (named 0) κ D).own_val (record x { now = last }) (mut_vals x)) ∷ Γ) G
      (‵ (fsep (fsep (fres δ (D.coded.code last)) borrow) rest) ∷ ‵ (flft (α ∷ κ) (part_of q)) ∷ raw (Back 𝓛 κ q α) ∷ ‵
      (LentAgain D κ (α ∷ κ) (left q) x.ghost_name x.ref_ptr.0 x.ref_ptr.1 δ x.now) ∷ Γ) G
  comes_left t a D κ q α δ x last {borrow} {rest} = step (λ s. fsplit t $ fsplit t $ move t (2 ∷ []) $ drop t $
      comes_home t a D κ q α δ x last (qed 𝓛 (‵ (fres δ (D.coded.code last)) ∷ ‵ borrow ∷ ‵ (fdead (α ∷ κ)) ∷ ‵
      (LentAgain D κ (α ∷ κ) (left q) x.ghost_name x.ref_ptr.0 x.ref_ptr.1 δ x.now) ∷ []) ∵ keep ! (2 ∷ 3 ∷ 0 ∷ []) $
      by ! (comes_back 𝓛 D (named 0) κ (α ∷ κ) (left q) x.ghost_name x.ref_ptr.0 x.ref_ptr.1 δ x.now last)) $ s)
