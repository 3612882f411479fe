-- The proof of a call that takes a cursor over a slice, which it doesn't return, and an argument. Assumes `Logic`.
--     signature, ended      what such a call takes and returns, for the types of its argument and of its result
--     bound                 what is bound of it;  given, what it is given
--     lends_by              the call meets its contract, if its code is proved from what it is given
use Rattle.octets.proofs.loans
use loans.WalkSteps.{List, [], ◌∷◌, MutBor, Val, proved, ftrue, flft, named, tables, ‵, raw, ◌⊛◌, prop, Sq, yes, no}
use loans.WalkSteps.{owns, MutRef, mut_vals, mut_Tells, plain, Stays, walk_of, stay_dropped, Goes-dropped}
use loans.WalkSteps.{Goes-spent_ref}
use seplogic.Ra.Ura.{Ura}
use mir.Syntax.{Callee, Fn}
use base.Fml.{Incl, Lft, Share}
use contract.Lifetimes.{Lfts}
use contract.Running.{Running}
use prog.Model.{Model}
use prog.Wp.{Closed, WpFn}
use types.Kit.{Item}
use types.Logic.{Logic}
use denote.Builtin.{RefMutOf}
use denote.Laws.{Is, Tells}
use denote.RattleType.{RattleType}
use denote.Signature.{Signature}
use denote.Triple.Clauses.{Ended, Clauses, closing}
use denote.Triple.Spec.{Meets}
use denote.Triple.Statement.{Contract}
use denote.Triple.Walked.{Silent}
use Rattle.octets.specs.Loans.{SliceCursor}
use loans.SliceCursors.{St}

module _ (O : RattleType) (out : Lft → RattleType) where
  abbrev pub signature : Signature
  signature = record {
    lifetimes = 2;
    outlives = record { long = 1; long_ok = tt; short = named 0; short_ok = tt } ∷ [];
    params = RefMutOf (0 ∷ []) tt (plain (λ κs. St (named 1) κs.1.0)) (λ κs. tt) ∷ plain (λ κs. O) ∷ [];
    result = plain (λ κs. out κs.0);
  }

  abbrev pub ended : Ended
  ended = record { signature = signature; kept = (no, (yes, tt)) }

  abbrev pub stayed : Stays signature.params ended.kept
  stayed = (stay_dropped _ no, (stay_dropped _ yes, tt))

  module _ {M : Type 1} {𝓤 : Ura M} (𝓛 : Logic 𝓤) (c : Clauses 𝓤 ended) (vals : O.Denot → List Val) where
    abbrev pub walk : Contract 𝓤
    walk = walk_of 𝓛 ended stayed c

    module _ (κ κ' : Lft) (q q' : Share) (inc : Incl κ κ') (x : MutBor SliceCursor) (a : O.Denot)
        (g : (c (κ, (κ', tt)) (x, (a, tt))).ghost) where
      abbrev pub bound : walk.Ghost
      bound = (((κ, (κ', tt)), (q, (q', tt)), (inc, tt), (x, (a, tt)), (mut_vals x, (vals a, tt))), g)

      abbrev pub given : List (Item 𝓤)
      given = ((‵ (flft κ q) ⊛ ‵ (flft κ' q') ⊛ ‵ ftrue) ⊛
          ‵ (owns (MutRef (named 0) κ (St (named 1) κ') ∷ O ∷ []) bound.0.3 bound.0.4))
          ∷ raw ((c (κ, (κ', tt)) (x, (a, tt))).requires g) ∷ []

    module _ (𝓜 : Model 𝓤 𝓛.H) (𝓡 : Running 𝓤 𝓛.H 𝓜) where
      pub lends_by : Silent 𝓛 2 (plain (λ _. O)) yes → Tells O (Is O) vals → {name : Callee} (fn : Fn)
          → Closed 𝓤 𝓛.H (tables 𝓤 𝓛.H 𝓜 𝓡 𝓡.env).C (tables 𝓤 𝓛.H 𝓜 𝓡 𝓡.env).Λ name fn
          → ((κ κ' : Lft) (q q' : Share) (inc : Incl κ κ') (x : MutBor SliceCursor) (a : O.Denot)
          (g : (c (κ, (κ', tt)) (x, (a, tt))).ghost) → Is O a (vals a) → Sq 𝓛 (given κ κ' q q' inc x a g)
          (prop (WpFn 𝓤 𝓛.H (tables 𝓤 𝓛.H 𝓜 𝓡 𝓡.env).C (tables 𝓤 𝓛.H 𝓜 𝓡 𝓡.env).Λ fn
          (walk.args (bound κ κ' q q' inc x a g)) (walk.post (bound κ κ' q q' inc x a g)))))
          → Meets 𝓛 signature (𝓡.run (𝓡.env name)) (closing 𝓛 ended c)
      lends_by silent tells {name} fn closed walked = proved 𝓛 ended stayed c 𝓜 𝓡 (
        Goes-spent_ref 𝓛 2 (0 ∷ []) tt (plain (λ (κs : Lfts 2). St (named 1) κs.1.0)),
        (Goes-dropped 𝓛 2 (plain (λ _. O)) yes silent, tt),
      ) name fn closed (λ κs. (mut_vals, (vals, tt)))
          (λ κs. (mut_Tells (named 0) κs.0 (St (named 1) κs.1.0), (tells, tt)))
          (λ κs qs bounds a g are.
          (walked κs.0 κs.1.0 qs.0 qs.1.0 bounds.0 a.0 a.1.0 g are.1.0).prf)
