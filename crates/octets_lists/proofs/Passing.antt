-- What a cursor passed, what it read, and what is unchanged.
use Rattle.std.proofs.Common.{◌≡◌, ℕ, List, [], ◌∷◌, ◌++◌, flat_map, arith, subst, ◌∙◌}
use Rattle.std.proofs.Common.{Result, Ok, Err, IfErr, IsErrAnd}
use Rattle.std.proofs.lemmas.List.{flat_map_more}
use Rattle.octets.specs.Cursor.{Passes, Reads, IsUnchanged}
use Rattle.octets.specs.Octets.{Octets}
use Rattle.octets.proofs.CallerLemmas.{reads_more}
use Rattle.octets.proofs.lemmas.Outcomes.{same_rest}

pub still : (a b : Octets) → IsUnchanged a b → Passes a b 0
still a b h = (omega (arith, h.0), h.1, same_rest a b h)

pub stays : (a b c : Octets) (m : ℕ) → Passes a b m → IsUnchanged b c → Passes a c m
stays a b c m h k = (k.0 ∙ h.0, k.1 ∙ h.1, same_rest b c k ∙ h.2)

-- one more item of a list was read
pub reads_item : (f : ℕ → List ℕ) (a b c : Octets) (xs : List ℕ) (x : ℕ) → Reads a b (flat_map f xs) → Reads b c (f x)
    → Reads a c (flat_map f (xs ++ x ∷ []))
reads_item f a b c xs x h k = subst (Reads a c) (flat_map_more f [] xs x)
    (reads_more a b c (flat_map f xs) (f x) h k)

pub if_err : {T E : Type 0} (P : E → Type 0) (s : E) (r : Result T E) → IsErrAnd r (λ e. e ≡ s) → P s → IfErr r P
if_err P s (Ok x) h p = tt
if_err P s (Err e) h p = rw h p

pub whatever_err : {T E Q : Type 0} (P : E → Type 0) (r : Result T E) → Q → IfErr r (λ e. P e → Q)
whatever_err P (Ok x) q = tt
whatever_err P (Err e) q = λ _. q
