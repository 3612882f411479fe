-- Steps of a hand-written proof over calls: a call, with all that its contract says after it has returned; and the end
-- of a proof that lends. Assumes `Logic`.
--     calls         a call at y, which what is passed and asked allows: then what it left after its arguments, what it
--                   ensures, the tokens, and its result r, as the value v
--     hears_both    two facts are learned;  hears_beside    likewise, beside what the lender follows
--     hands_over    what the lender follows, the tokens and the result, where nothing is had of n parameters, and two
--                   facts are all that is to be shown
use Rattle.octets.proofs.loans
use loans.WalkSteps.{ℕ, List, [], ◌∷◌, Val, ftrue, fact, fact_i, emp, ‵, raw, ◌⊛◌, some, later, prop, ◌$◌, ◌∵◌, ! }
use loans.WalkSteps.{id⊢, by, move, use0, use1, use2, split, join, pick, await, frame, heard, says, qed, fjoin, done}
use loans.WalkSteps.{nothing, peeks, shows, calls_at, lasts, triple_of}
use Prim.Native.Nat.{zero, suc}
use seplogic.Ra.Ura.{Ura}
use mir.Syntax.{Callee, Place, Opd, Body, seq, call}
use base.Fml.{Fml, fsep}
use base.Logic.{ent, sep}
use sound.WpLaws.{FmC}
use prog.Wp.{Env, Calls, Loops}
use types.Logic.{Logic, sem}
use types.Kit.{Item, Post, Goal, Seq, runs, lands, mean}
use types.Run.{Opds}
use denote.Laws.{Is}
use denote.RattleType.{RattleType}
use denote.Signature.{type_at}
use denote.Triple.Clauses.{Ended, Clauses, Lasts, at_exit, closing}
use denote.Triple.Entry.{Res, alive}
use denote.Triple.Statement.{Contract, Triple}

-- of n parameters nothing is had
abbrev pub none_left : ℕ → Fml
none_left zero = ftrue
none_left (suc n) = fsep ftrue (none_left n)

leaves_none : {M : Type 1} {𝓤 : Ura M} (𝓛 : Logic 𝓤) (n : ℕ) → ent 𝓤 (emp 𝓤) (sem 𝓛 (none_left n))
leaves_none {M} {𝓤} 𝓛 zero = id⊢ 𝓤 (emp 𝓤)
leaves_none {M} {𝓤} 𝓛 (suc n) =
    qed 𝓛 [] ∵ use0 𝓛 (‵ (none_left n)) (leaves_none 𝓛 n) $ nothing ! $ fjoin ! $ done !

module _ {M : Type 1} {𝓤 : Ura M} (𝓛 : Logic 𝓤) (T : Ended) (c : Clauses 𝓤 T) where
  -- the contract of a call
  abbrev pub promised : Contract 𝓤
  promised = triple_of 𝓛 T.signature (closing 𝓛 T c)

module _ {M : Type 1} {𝓤 : Ura M} {𝓛 : Logic 𝓤} {K : Type 0} {Γ : List (Item 𝓤)} {E : Env 𝓤 𝓛.H} {C : Calls 𝓤 𝓛.H}
    {f : Callee} {xs : List Opd} {Λ : Loops 𝓤 𝓛.H} {p : Post 𝓤 𝓛.H} {d : Place} {rest : Body} where
  open 𝓛 use {H}

  pub calls : K → FmC 𝓤 H 𝓛.laws C → (T : Ended) (c : Clauses 𝓤 T) → Triple 𝓤 (C f) (promised 𝓛 T c)
      → (y : (promised 𝓛 T c).Ghost) {passed asked : Item 𝓤}
      → ent 𝓤 (sep 𝓤 (mean 𝓛 passed) (mean 𝓛 asked)) ((promised 𝓛 T c).pre y)
      → Opds K 𝓛 (raw ((promised 𝓛 T c).pre y) ∷ Γ) E xs ((promised 𝓛 T c).args y)
      → ((v : Val) (r : Res T.signature y.0.0) (ws : Lasts T y.0.0 y.0.3)
      → Is (type_at T.signature.result y.0.0) r (v ∷ []) → Seq K 𝓛 (‵ (lasts T y.0.0 y.0.3 ws) ∷
      raw ((c y.0.0 y.0.3).ensures y.1 r (at_exit T y.0.0 y.0.3 ws)) ∷ raw (alive 𝓛 T.signature y.0.0 y.0.1) ∷
      ‵ ((type_at T.signature.result y.0.0).own_val r (v ∷ [])) ∷ Γ) (lands C Λ E d v rest p))
      → Seq K 𝓛 (passed ∷ asked ∷ Γ) (runs C Λ E (seq (call f xs d) rest) p)
  calls t fm T c met y allow os k =
      let R : RattleType = type_at T.signature.result y.0.0 in use2 𝓛 (raw ((promised 𝓛 T c).pre y)) allow $
      calls_at t fm (promised 𝓛 T c) met y os (λ v.
      use1 𝓛 (later (some (λ (r : R.Denot). (raw (alive 𝓛 T.signature y.0.0 y.0.1) ⊛ ‵ (R.own_val r (v ∷ []))) ⊛
      some (λ (ws : Lasts T y.0.0 y.0.3). ‵ (lasts T y.0.0 y.0.3 ws) ⊛
      raw ((c y.0.0 y.0.3).ensures y.1 r (at_exit T y.0.0 y.0.3 ws)))))) (id⊢ 𝓤 _) $ await t tt $
      pick t (λ r. split t $ split t $ move t (2 ∷ []) $ pick t (λ ws. split t $ move t (3 ∷ []) $
      peeks t R _ (shows 𝓛 R) r (v ∷ []) (λ is. move t (1 ∷ 2 ∷ 3 ∷ 0 ∷ []) $ k v r ws is))))

module _ {M : Type 1} {𝓤 : Ura M} {𝓛 : Logic 𝓤} {K : Type 0} {A B : Type 0} where
  open 𝓛 use {H}

  pub hears_both : K → {Γ : List (Item 𝓤)} {G : Goal 𝓤 H} → (A → B → Seq K 𝓛 Γ G)
      → Seq K 𝓛 (raw (sep 𝓤 (fact 𝓤 A) (fact 𝓤 B)) ∷ Γ) G
  hears_both t k = use1 𝓛 (raw (fact 𝓤 A) ⊛ raw (fact 𝓤 B)) (id⊢ 𝓤 _) $ split t $
      heard t A (λ a. heard t B (λ b. k a b))

  pub hears_beside : K → {Γ : List (Item 𝓤)} {G : Goal 𝓤 H} (P : Fml) → (A → B → Seq K 𝓛 (‵ P ∷ Γ) G)
      → Seq K 𝓛 (raw (sep 𝓤 (sem 𝓛 P) (sep 𝓤 (fact 𝓤 A) (fact 𝓤 B))) ∷ Γ) G
  hears_beside t P k = use1 𝓛 (‵ P ⊛ raw (sep 𝓤 (fact 𝓤 A) (fact 𝓤 B))) (id⊢ 𝓤 _) $ split t $ move t (1 ∷ []) $
      hears_both t k

  pub hands_over : K → {tokens result follows : Item 𝓤} (n : ℕ) → A → B
      → Seq K 𝓛 (follows ∷ tokens ∷ result ∷ []) (prop (sep 𝓤 (sep 𝓤 (mean 𝓛 tokens) (sep 𝓤 (sem 𝓛 (none_left n))
      (mean 𝓛 result))) (sep 𝓤 (mean 𝓛 follows) (sep 𝓤 (fact 𝓤 A) (fact 𝓤 B)))))
  hands_over t n a b = use0 𝓛 (‵ (none_left n)) (leaves_none 𝓛 n) $ move t (0 ∷ 3 ∷ []) $ join t $ move t (2 ∷ 0 ∷ []) $
      join t $ frame t $ frame t $ says t b $ by t (fact_i 𝓤 A (emp 𝓤) a)
