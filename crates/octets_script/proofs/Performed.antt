-- How the calls of a cursor give replies. What a call does, its clause `performs` says.
use Rattle.std.proofs.Common.{◌≡◌, ℕ, List, Result, Ok, Err, IfOk, OnOk, OnErr, MutBor, sym, ap, subst, ◌∙◌, inl}
use Rattle.octets.specs.Cursor.{bytes, position, holder, Advances}
use Rattle.octets.specs.Slices.{reference}
use Rattle.octets.specs.Loans.{SliceCursor}
use Rattle.octets.specs.Does.{Does}
use Rattle.octets_script.specs.Calls.{Call, Answer, answer_of}
use Rattle.octets_script.specs.Plays.{Performs, ends, HoldsByte}
use Rattle.octets_script.specs.Runs.{PerformsAs, RefusedForMemory}
use Rattle.octets_script.specs.declared.reply.Reply.{Reply}

-- a cursor over the same buffer is over the same slice
pub same_slice : (s t : SliceCursor) → holder t ≡ holder s → reference t ≡ reference s
same_slice s t h = ap (λ (b : MutBor (List ℕ)). b.ghost_name) h

-- the reply to a call is the answer of it
pub performed : (c : Call) (s t : SliceCursor) (a b : Answer) → Does c s a t → b ≡ a → PerformsAs c s b t
unfolding Does
performed c s t a b h e =
    (subst (λ x. Performs c (bytes s) (position s) (ends x (bytes t) (position t))) (sym e) h.0, same_slice s t h.1)

-- Reads of bytes. The call c had the answer a and changed s to m, and y is a copy of the answer. The cursor t is
-- m, or its position is that of s if the copy couldn't be allocated.
module _ (c : Call) (s m t : SliceCursor) (a : Answer) (does : Does c s a m × Advances s m)
    (same_bytes : bytes t ≡ bytes m) (same_reference : reference t ≡ reference m) where
  -- the copy is the reply
  pub copied : {F : Type 0} (y : Result Reply F) → IfOk y (λ z. answer_of z ≡ a) → OnOk y (position t ≡ position m)
      → IfOk y (λ z. PerformsAs c s (answer_of z) t)
  unfolding Does
  copied (Ok z) is stays =
      let same : ends (answer_of z) (bytes t) (position t) ≡ ends a (bytes m) (position m) = cc in
      (subst (Performs c (bytes s) (position s)) (sym same) does.0.0, same_reference ∙ same_slice s m does.0.1)
  copied (Err e) is stays = tt

  -- with no memory for the copy, nothing is changed, and the call needs memory
  pub lacking : {F : Type 0} (y : Result Reply F) → OnErr y (HoldsByte a) → OnErr y (position t ≡ position s)
      → OnErr y (RefusedForMemory c s t)
  unfolding Does
  lacking (Ok z) some back = tt
  lacking (Err e) some back = (
    (same_bytes ∙ ap (λ (b : MutBor (List ℕ)). b.now) does.1.1, back, same_reference ∙ same_slice s m does.0.1),
    inl (ends a (bytes m) (position m), does.0.0, some),
  )
