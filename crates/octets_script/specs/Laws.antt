-- The laws of outcomes and of runs. Each of them exists, and there is only one.
use Rattle.std.specs.Prelude.{◌≡◌, ℕ, List, ◌++◌, length, ⊤}
use Rattle.std.specs.List.{All}
use Rattle.octets.specs.Bytes.{AreBytes}
use Rattle.octets_script.specs.Plays.{Outcome, Performs, Plays}
use Rattle.octets_script.specs.Calls.{Call, GetBytesMut, PeekBytesMut, PutU8, PutU16, PutU24, PutU32}
use Rattle.octets_script.specs.Calls.{PutU64, PutVarint, PutVarintWithLen, PutBytes, PutHuffman}
use Rattle.octets_script.specs.Calls.{PutHuffmanLower, Slice, SliceLast, SplitAt, AsMut, Answer}

-- each command on a list of bytes has an outcome
abbrev pub EachHasAnOutcome : Type 0
EachHasAnOutcome = (c : Call) (l : List ℕ) (p : ℕ) → AreBytes l → (o : Outcome) × Performs c l p o

-- no command has two outcomes
abbrev pub OutcomesAreOne : Type 0
OutcomesAreOne = (c : Call) (l : List ℕ) (p : ℕ) (o o' : Outcome) → Performs c l p o → Performs c l p o' → o' ≡ o

-- a list of commands has at most one run
abbrev pub PlaysAreOne : Type 0
PlaysAreOne = (cs : List Call) (l : List ℕ) (p : ℕ) (rs rs' : List Answer) (k k' : List ℕ) (q q' : ℕ)
    → Plays cs l p rs k q → Plays cs l p rs' k' q' → (rs' ≡ rs) × (k' ≡ k) × (q' ≡ q)

-- a run has one reply for each command
abbrev pub EachIsAnswered : Type 0
EachIsAnswered = (cs : List Call) (l : List ℕ) (p : ℕ) (rs : List Answer) (k : List ℕ) (q : ℕ) → Plays cs l p rs k q
    → length rs ≡ length cs

-- a run of one list and a run of another, on what the first leaves, are one run of both lists joined
abbrev pub PlaysGoOn : Type 0
PlaysGoOn = (cs ds : List Call) (l : List ℕ) (p : ℕ) (rs ss : List Answer) (k m : List ℕ) (q n : ℕ)
    → Plays cs l p rs k q → Plays ds k q ss m n → Plays (cs ++ ds) l p (rs ++ ss) m n

-- a run of two lists joined is a run of the first, and a run of the second on what the first leaves
abbrev pub PlaysComeApart : Type 0
PlaysComeApart = (cs ds : List Call) (l : List ℕ) (p : ℕ) (ts : List Answer) (m : List ℕ) (n : ℕ)
    → Plays (cs ++ ds) l p ts m n
    → (rs ss : List Answer) × (k : List ℕ) × (q : ℕ) × (ts ≡ rs ++ ss) × Plays cs l p rs k q × Plays ds k q ss m n

-- the command writes bytes
abbrev pub WritesBytes : Call → Type 0
WritesBytes (GetBytesMut n w) = AreBytes w
WritesBytes (PeekBytesMut n w) = AreBytes w
WritesBytes (PutU8 v w) = AreBytes w
WritesBytes (PutU16 v w) = AreBytes w
WritesBytes (PutU24 v w) = AreBytes w
WritesBytes (PutU32 v w) = AreBytes w
WritesBytes (PutU64 v w) = AreBytes w
WritesBytes (PutVarint v w) = AreBytes w
WritesBytes (PutVarintWithLen v w) = AreBytes w
WritesBytes (PutBytes v) = AreBytes v
WritesBytes (PutHuffman v) = AreBytes v
WritesBytes (PutHuffmanLower v) = AreBytes v
WritesBytes (Slice n w) = AreBytes w
WritesBytes (SliceLast n w) = AreBytes w
WritesBytes (SplitAt i v w) = AreBytes v × AreBytes w
WritesBytes (AsMut w) = AreBytes w
WritesBytes _ = ⊤

-- on a list of bytes, each list of commands that write bytes has a run, which leaves as many bytes
abbrev pub EachIsPlayed : Type 0
EachIsPlayed = (cs : List Call) (l : List ℕ) (p : ℕ) → AreBytes l → All WritesBytes cs
    → (rs : List Answer) × (k : List ℕ) × (q : ℕ) × Plays cs l p rs k q × AreBytes k × (length k ≡ length l)
