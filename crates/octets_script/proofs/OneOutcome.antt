-- Each command has one outcome, and each list of commands has one run.
use Rattle.std.proofs.Common.{◌≡◌, ℕ, suc, ◌<◌, List, [], ◌∷◌, drop, refl, sym, ap, subst, ◌∙◌, inl, inr}
use Rattle.std.proofs.lemmas.List.Elements.{All-drop}
use Rattle.octets.specs.Bytes.{AreBytes}
use Rattle.octets.proofs.lemmas.Varints.{begins_one}
use Rattle.octets_code.specs.Laws.{EachIsDecided, AnswersAreOne}
use Rattle.octets_script.specs.Plays.{Outcome, Step, always, by_varint, by_decode, step, ComesTo, Plays}
use Rattle.octets_script.specs.Laws.{EachHasAnOutcome, OutcomesAreOne, PlaysAreOne, EachIsAnswered, PlaysGoOn}
use Rattle.octets_script.specs.Laws.{PlaysComeApart}
use Rattle.octets_script.proofs.Decisions.{varint_or_none}

-- a step has an outcome
some_outcome : EachIsDecided → (s : Step) (t : List ℕ) → AreBytes t → (o : Outcome) × ComesTo s t o
some_outcome d (always x) t b = (x, refl)
some_outcome d (by_varint f x) t b = elim (varint_or_none t) [
  | inl v ↦ (f v.0 v.1, inl (v.0, v.1, v.2, refl))
  | inr none ↦ (x, inr (none, refl))
]
some_outcome d (by_decode m f g) t b = elim (d t m b) [
  | inl a ↦ (f a.0, inl (a.0, a.1, refl))
  | inr a ↦ (g a.0, inr (a.0, a.1, refl))
]

-- and only one
one_outcome : AnswersAreOne → (s : Step) (t : List ℕ) (o o' : Outcome) → ComesTo s t o → ComesTo s t o' → o' ≡ o
one_outcome a (always x) t o o' h g = g ∙ sym h
one_outcome a (by_varint f x) t o o' (inl v) (inl u) =
    let one = begins_one t u.0 u.1 v.0 v.1 u.2 v.2 in rw (u.3, one.0, one.1, ← v.3)
one_outcome a (by_varint f x) t o o' (inl v) (inr u) = absurd (u.0 v.0 v.1 v.2)
one_outcome a (by_varint f x) t o o' (inr v) (inl u) = absurd (v.0 u.0 u.1 u.2)
one_outcome a (by_varint f x) t o o' (inr v) (inr u) = u.1 ∙ sym v.1
one_outcome a (by_decode m f g) t o o' (inl v) (inl u) = u.2 ∙ ap f ((a t m).0 u.0 v.0 u.1 v.1) ∙ sym v.2
one_outcome a (by_decode m f g) t o o' (inl v) (inr u) = absurd (u.1.0 v.0 v.1)
one_outcome a (by_decode m f g) t o o' (inr v) (inl u) = absurd (v.1.0 u.0 u.1)
one_outcome a (by_decode m f g) t o o' (inr v) (inr u) = u.2 ∙ ap g ((a t m).1 u.0 v.0 u.1.1 v.1.1) ∙ sym v.2

-- over bytes each command has an outcome
pub each_has_an_outcome : EachIsDecided → EachHasAnOutcome
each_has_an_outcome d c l p b = some_outcome d (step c l p) (drop p l) (All-drop (λ x. x < 256) p l b)

-- and none has two outcomes
pub outcomes_are_one : AnswersAreOne → OutcomesAreOne
outcomes_are_one a c l p o o' h g = one_outcome a (step c l p) (drop p l) o o' h g

-- a list of commands has at most one run
pub plays_are_one : AnswersAreOne → PlaysAreOne
plays_are_one a [] l p [] [] k k' q q' h g = (refl, g.0 ∙ sym h.0, g.1 ∙ sym h.1)
plays_are_one a [] l p (r ∷ rs) rs' k k' q q' h g = absurd h
plays_are_one a (c ∷ cs) l p [] rs' k k' q q' h g = absurd h
plays_are_one a (c ∷ cs) l p (r ∷ rs) (r' ∷ rs') k k' q q' h g =
    let one : g.0 ≡ h.0 = outcomes_are_one a c l p h.0 g.0 h.1 g.1 in
    let more = plays_are_one a cs h.0.bytes h.0.position rs rs' k k' q q' h.3
    (subst (λ o. Plays cs o.bytes o.position rs' k' q') one g.3) in
    let first : r' ≡ r = rw (g.2, one, ← h.2) in
    (ap (λ x. x ∷ rs') first ∙ ap (λ xs. r ∷ xs) more.0, more.1, more.2)
plays_are_one a _ l p _ _ k k' q q' h g = absurd g

-- with one reply for each command
pub each_is_answered : EachIsAnswered
each_is_answered [] l p [] k q h = refl
each_is_answered (c ∷ cs) l p (r ∷ rs) k q h = ap suc (each_is_answered cs h.0.bytes h.0.position rs k q h.3)
each_is_answered _ l p _ k q h = absurd h

-- a run of one list and a run of another, on what the first leaves, are one run of both lists joined
pub plays_go_on : PlaysGoOn
plays_go_on [] ds l p [] ss k m q n h g = subst (λ x. Plays ds x p ss m n) h.0 (subst (λ x. Plays ds k x ss m n) h.1 g)
plays_go_on (c ∷ cs) ds l p (r ∷ rs) ss k m q n h g =
    (h.0, h.1, h.2, plays_go_on cs ds h.0.bytes h.0.position rs ss k m q n h.3 g)
plays_go_on _ ds l p _ ss k m q n h g = absurd h

-- a run of two lists joined is a run of the first, and a run of the second on what the first leaves
pub plays_come_apart : PlaysComeApart
plays_come_apart [] ds l p ts m n h = ([], ts, l, p, refl, (refl, refl), h)
plays_come_apart (c ∷ cs) ds l p [] m n h = absurd h
plays_come_apart (c ∷ cs) ds l p (t ∷ ts) m n h =
    let parts = plays_come_apart cs ds h.0.bytes h.0.position ts m n h.3 in
    (t ∷ parts.0, parts.1, parts.2, parts.3, ap (λ xs. t ∷ xs) parts.4, (h.0, h.1, h.2, parts.5), parts.6)

-- the laws of outcomes, and of runs
pub ruleset outcome_laws = (each_has_an_outcome, outcomes_are_one)

pub ruleset play_laws = (plays_are_one, each_is_answered, plays_go_on, plays_come_apart)
