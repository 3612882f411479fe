-- The laws of pieces.
use Rattle.std.specs.Prelude.{◌≡◌, ◌⊎◌, ℕ, ◌+◌, ◌-◌, ◌≤◌, Bool, List, [], ◌++◌, length, take}
use Rattle.octets_code.specs.Steps.{IsFill}
use Rattle.octets_code.specs.Texts.{bits, text, AreBytes, IsCut}
use Rattle.octets.specs.declared.error.IntoError.TheVariants.{NotText, NoRoom}
use Rattle.octets_pieces.specs.Pieces.{AreRead, HasRead, StopsForEnd, StopsForRoom}
use Rattle.octets_pieces.specs.Joined.{Fails, FailsInto, Answers}
use Rattle.octets_pieces.specs.declared.error.PiecesError.{PiecesError}

-- a new decoder has read no bits
abbrev pub NothingIsRead : Type 0
NothingIsRead = AreRead [] [] []

-- what was read first, and what was read after it, are what was read of the joined bits
abbrev pub ReadsJoin : Type 0
ReadsJoin = (x y p q : List Bool) (v w : List ℕ) → AreRead x v p → AreRead (p ++ y) w q → AreRead (x ++ y) (v ++ w) q

-- what was read is the cut of the bits
abbrev pub ReadIsCut : Type 0
ReadIsCut = (x q : List Bool) (v : List ℕ) → AreRead x v q → IsCut x v q

-- bits are read in one way
abbrev pub ReadIsOne : Type 0
ReadIsOne = (x p q : List Bool) (v w : List ℕ) → AreRead x v p → AreRead x w q → (v ≡ w) × (p ≡ q)

-- if 0 to 7 one bits are left, the bytes that were read are the text of the bytes that were written
abbrev pub EndIsText : Type 0
EndIsText = (t v : List ℕ) (q : List Bool) → AreBytes t → AreRead (bits t) v q → IsFill q → t ≡ text v

-- If what was read of the first n bytes of t is within the limit m, and a decode stops there, then one decode of t
-- fails: the end code ends in the next byte, or this byte completes too many bytes, or no bytes are left, and the bits
-- that are left are no padding. It has decoded what was read, and in the second case as many of these bytes as fit.
abbrev pub EndFails : Type 0
EndFails = (t v : List ℕ) (q : List Bool) (n m : ℕ) → AreRead (bits (take n t)) v q → length v ≤ m → StopsForEnd q t n
    → Fails record { passed = n + 1; why = NotText (length v) } v t m

abbrev pub RoomFails : Type 0
RoomFails = (t v : List ℕ) (q : List Bool) (n m room : ℕ) → AreRead (bits (take n t)) v q → length v + room ≡ m
    → (s : StopsForRoom q t n room) → Fails record { passed = n + 1; why = NoRoom } (v ++ take room s.1.value) t m

abbrev pub RestFails : Type 0
RestFails = (t v : List ℕ) (q : List Bool) (m : ℕ) → AreRead (bits t) v q → length v ≤ m → ¬ IsFill q
    → Fails record { passed = length t; why = NotText (length v) } v t m

-- a decode of the same bytes into the same slice fails in one way and leaves one slice, or has one answer, and not
-- both
abbrev pub FailureIsOne : Type 0
FailureIsOne = (f g : PiecesError) (t a b c : List ℕ) → FailsInto f t a b → FailsInto g t a c → (f ≡ g) × (b ≡ c)

abbrev pub AnswerIsOne : Type 0
AnswerIsOne = (t a b c d : List ℕ) (n k : ℕ) → Answers t a b n → Answers t c d k → length a ≡ length c
    → length b ≡ length a → length d ≡ length c → (n ≡ k) × (take n b ≡ take k d)

abbrev pub NeverBoth : Type 0
NeverBoth = (f : PiecesError) (t a b c : List ℕ) (n : ℕ) → Answers t a b n → ¬ FailsInto f t a c

-- why a decode stops before byte number n of the piece t: there is none, or there is no room, or the end code ends in
-- it
abbrev pub Stops : List Bool → List ℕ → ℕ → ℕ → Type 0
Stops q t n room = (n ≡ length t) ⊎ (StopsForRoom q t n room ⊎ StopsForEnd q t n)

-- The contract of a decode determines everything: how many bytes are read and written, the bits that are left, and the
-- slice.
abbrev pub DecodeIsOne : Type 0
DecodeIsOne = (p q r : List Bool) (t a b c : List ℕ) (n i k j : ℕ) → length b ≡ length a → length c ≡ length a
    → HasRead p q t a b n k → HasRead p r t a c i j → Stops q t n (length a - k) → Stops r t i (length a - j) →
    (n ≡ i) × (k ≡ j) × (q ≡ r) × (b ≡ c)

-- and whether it is an error
abbrev pub StopIsOne : Type 0
StopIsOne = (q : List Bool) (t : List ℕ) (n room : ℕ) → StopsForRoom q t n room → ¬ StopsForEnd q t n
