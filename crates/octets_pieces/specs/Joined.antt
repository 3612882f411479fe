-- What a decode of several pieces returns, in terms of their joined bytes.
use Rattle.std.specs.Prelude.{◌≡◌, ℕ, ◌≤◌, List, ◌++◌, length, take, drop}
use Rattle.octets_code.specs.Answers.{IsRefusal, IsAnswer}
use Rattle.octets.specs.Reading.{IsReadBefore}
use Rattle.octets.specs.Stops.{IsStoppedBy}
use Rattle.octets_pieces.specs.declared.error.PiecesError.{PiecesError}

-- A decode of the text t into m bytes decodes the bytes v, and then fails for the reason that e says. It has passed as
-- many bytes as e says.
pub record Fails (e : PiecesError) (v t : List ℕ) (m : ℕ) : Type 0 where
  pub refusal : IsRefusal t m e.passed
  pub within : length v ≤ m
  pub read : IsReadBefore v t m
  pub why : IsStoppedBy e.why v t m

-- A decode of t into a slice fails so after at least n bytes. The slice, whose bytes were before, then begins with
-- the bytes that were decoded; its other bytes are unchanged.
abbrev pub FailsFrom : ℕ → PiecesError → List ℕ → List ℕ → List ℕ → Type 0
FailsFrom n e t before after =
    (v : List ℕ) × Fails e v t (length before) × (n ≤ length v) × (after ≡ v ++ drop (length v) before)

-- a decode of t into a slice fails so
abbrev pub FailsInto : PiecesError → List ℕ → List ℕ → List ℕ → Type 0
FailsInto e t before after = FailsFrom 0 e t before after

-- the text t has the value that the slice begins with, which has n bytes; its other bytes are unchanged
pub record Answers (t before after : List ℕ) (n : ℕ) : Type 0 where
  pub fits : n ≤ length before
  pub answer : IsAnswer t (length before) (take n after)
  pub behind : drop n after ≡ drop n before
