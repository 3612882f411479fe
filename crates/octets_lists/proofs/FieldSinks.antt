-- A field that is given to a sink by three calls, one after the other.
use Rattle.std.proofs.Common.{◌≡◌, ℕ, ◌≤◌, ◌↔◌, Bool, false, IsTrue, List, [], ◌∷◌, ◌++◌, length, Option, IfSome}
use Rattle.std.proofs.Common.{Result, OnOk, OnErr, IsErr, is_ok, sym, ◌∙◌, ap, subst, arith, true}
use Rattle.octets.specs.Bytes.{network}
use Rattle.octets.specs.Sinks.{AppendsFront}
use Rattle.octets.proofs.CallerLemmas.{network_byte}
use Rattle.octets_literal.specs.Puts.{Puts}
use Rattle.octets_literal.proofs.Putting.{puts_then, puts_less, appended_ok, appended_err, is_ok-refused}
use Rattle.octets_lists.specs.HeaderFields.{mark}
use Rattle.octets_lists.specs.declared.header_field.Indexing.{Indexing}
use Rattle.octets_lists.specs.declared.header_field.Indexing.TheVariants.{Incremental, Without, Never}

mark_byte : (i : Indexing) → network 1 (mark i) ≡ mark i ∷ []
unfolding mark
mark_byte Incremental = network_byte 64 (omega arith)
mark_byte Without = network_byte 0 (omega arith)
mark_byte Never = network_byte 16 (omega arith)

module _ {S : Type 0} (written : S → List ℕ) (room : S → Option ℕ) (whole : S → Bool) where
  -- the mark was put, and then what follows it
  pub marked_then : {m : ℕ} (i : Indexing) (old mid new : S) (done : Bool) (t : List ℕ) → m ≡ mark i
      → Puts written room whole old mid true (m ∷ []) → Puts written room whole mid new done t
      → Puts written room whole old new done (network 1 (mark i) ++ t)
  marked_then {m} i old mid new done t e p q =
      subst (λ x. Puts written room whole old new done (x ++ t)) (ap (λ n. n ∷ []) e ∙ sym (mark_byte i))
      (puts_then written room whole old mid new done (m ∷ []) t p q)

  -- the mark wasn't put
  pub unmarked : {m : ℕ} (i : Indexing) (old new : S) (t : List ℕ) → m ≡ mark i
      → Puts written room whole old new false (m ∷ []) → Puts written room whole old new false (network 1 (mark i) ++ t)
  unmarked {m} i old new t e p =
      subst (λ x. Puts written room whole old new false (x ++ t)) (ap (λ n. n ∷ []) e ∙ sym (mark_byte i))
      (puts_less written room whole old new (m ∷ []) t p)

  -- what the contract of a call on a sink says of its result
  pub told : {T E : Type 0} (old new : S) (r : Result T E) (t : List ℕ) → Puts written room whole old new (is_ok r) t
      → OnOk r (written new ≡ written old ++ t) × OnErr r (AppendsFront (written old) (written new) t)
      × IfSome (room old) (λ c. IsTrue (is_ok r) ↔ (length t ≤ c))
  unfolding Puts
  told old new r t p = (appended_ok r _ _ t p.0, appended_err r _ _ t p.0, p.1)

  pub told_error : {T E : Type 0} (old new : S) (r : Result T E) (t : List ℕ) → IsErr r
      → Puts written room whole old new false t
      → OnErr r (AppendsFront (written old) (written new) t)
      × IfSome (room old) (λ c. IsTrue (is_ok r) ↔ (length t ≤ c))
  told_error old new r t h p =
      let all = told old new r t (subst (λ b. Puts written room whole old new b t) (sym (is_ok-refused r h)) p) in
      (all.1, all.2)
