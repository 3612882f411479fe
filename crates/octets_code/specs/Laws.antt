-- The laws of the code, of its texts, and of what a decoder returns for them.
use Rattle.std.specs.Prelude.{◌≡◌, ◌≢◌, ◌⊎◌, ◌↔◌, ℕ, ◌*◌, ◌<◌, ◌≤◌, Bool, List, [], ◌∷◌, ◌++◌, length}
use Rattle.std.specs.List.{All}
use Rattle.octets_code.specs.Codes.{code}
use Rattle.octets_code.specs.States.{path}
use Rattle.octets_code.specs.Steps.{IsOpen}
use Rattle.octets_code.specs.Texts.{bits, ones, AreBytes, IsText, IsCut, text}
use Rattle.octets_code.specs.Answers.{IsFault, HasNoFault, IsFaultRead, IsAnswer, IsRefusal, IsPassed, AreSteps}

-- no code is a prefix of another
abbrev pub CodesApart : Type 0
CodesApart = (s t : ℕ) (r : List Bool) → s ≤ 256 → t ≤ 256 → code t ≡ code s ++ r → s ≡ t

-- if a prefix of a code isn't a code, each bit extends it to a prefix of a code
abbrev pub FrontsGoOn : Type 0
FrontsGoOn = (s : ℕ) (p r : List Bool) (b : Bool) → s ≤ 256 → code s ≡ p ++ r → r ≢ []
    → (t : ℕ) × (q : List Bool) × (t ≤ 256) × (code t ≡ p ++ (b ∷ q))

-- the end code is the only one that consists of one bits
abbrev pub OnlyEndIsOnes : Type 0
OnlyEndIsOnes = (s : ℕ) → s ≤ 256 → (code s ≡ ones (length (code s))) ↔ (s ≡ 256)

-- the paths of the 256 states are exactly the prefixes of codes that aren't codes
abbrev pub StatesAreFronts : Type 0
StatesAreFronts = (p : List Bool) → IsOpen p ↔ ((n : ℕ) × (n < 256) × (path n ≡ p))

-- two different states have different paths
abbrev pub StatesApart : Type 0
StatesApart = (m n : ℕ) → m < 256 → n < 256 → path m ≡ path n → m ≡ n

-- each value has exactly one text
abbrev pub EachHasOneText : Type 0
EachHasOneText = (v : List ℕ) → AreBytes v → (t : List ℕ) × IsText v t × ((u : List ℕ) → IsText v u → u ≡ t)

-- two different values have different texts
abbrev pub TextsApart : Type 0
TextsApart = (v w t : List ℕ) → AreBytes v → AreBytes w → IsText v t → IsText w t → v ≡ w

-- two values with the same text are equal
abbrev pub TextIsInjective : Type 0
TextIsInjective = (v w : List ℕ) → AreBytes v → AreBytes w → text v ≡ text w → v ≡ w

-- text v is the only text of v
abbrev pub TextIsText : Type 0
TextIsText = (v t : List ℕ) → AreBytes v → IsText v (text v) × (IsText v t → t ≡ text v)

-- bits can be cut in exactly one way
abbrev pub EachHasOneCut : Type 0
EachHasOneCut = (x : List Bool) → (s : List ℕ) × (r : List Bool) × IsCut x s r
    × ((s' : List ℕ) (r' : List Bool) → IsCut x s' r' → (s' ≡ s) × (r' ≡ r))

-- the cut of a text has the symbols of its value, and then 0 to 7 one bits
abbrev pub TextIsCut : Type 0
TextIsCut = (v t : List ℕ) → AreBytes v → IsText v t → (n : ℕ) × (n < 8) × IsCut (bits t) v (ones n)

-- if the cut of some bytes has no end code and leaves 0 to 7 one bits, the bytes are the text of its symbols
abbrev pub CutIsText : Type 0
CutIsText = (t s : List ℕ) (n : ℕ) → AreBytes t → n < 8 → IsCut (bits t) s (ones n) → All (λ c. c ≢ 256) s
    → AreBytes s × (t ≡ text s)

-- a decoder returns the value of a text, under every limit that the value is within
abbrev pub TextIsAnswered : Type 0
TextIsAnswered = (v t : List ℕ) (m : ℕ) → AreBytes v → IsText v t → length v ≤ m
    → IsAnswer t m v × ((w : List ℕ) → IsAnswer t m w → w ≡ v)

-- a text has no fault under a limit that its value is within
abbrev pub TextHasNoFault : Type 0
TextHasNoFault = (v t : List ℕ) (m : ℕ) → AreBytes v → IsText v t → length v ≤ m → HasNoFault (bits t) m

-- either there is a fault, or there is none
abbrev pub FaultOrNone : Type 0
FaultOrNone = (x : List Bool) (m : ℕ) → ((e : ℕ) × IsFault x m e) ⊎ HasNoFault x m

-- bits have at most one fault under a limit
abbrev pub FaultIsOne : Type 0
FaultIsOne = (x : List Bool) (m e f : ℕ) → IsFault x m e → IsFault x m f → e ≡ f

-- a fault ends within the bits, and after at least five of them
abbrev pub FaultEndsWithin : Type 0
FaultEndsWithin = (x : List Bool) (m e : ℕ) → IsFault x m e → (5 ≤ e) × (e ≤ length x)

-- a decoder meets the fault
abbrev pub FaultIsRead : Type 0
FaultIsRead = (x : List Bool) (m e : ℕ) → IsFault x m e ↔ IsFaultRead x m e

-- under each limit, bytes have a value, or a decode of them fails after some number of bytes
abbrev pub EachIsDecided : Type 0
EachIsDecided = (t : List ℕ) (m : ℕ) → AreBytes t → ((v : List ℕ) × IsAnswer t m v) ⊎ ((n : ℕ) × IsRefusal t m n)

-- the value, the number of bytes that a failure has passed, and the number of steps are each determined
abbrev pub AnswersAreOne : Type 0
AnswersAreOne = (t : List ℕ) (m : ℕ)
    → ((v w : List ℕ) → IsAnswer t m v → IsAnswer t m w → v ≡ w)
    × ((n k : ℕ) → IsPassed t m n → IsPassed t m k → n ≡ k)
    × ((n k : ℕ) → AreSteps t m n → AreSteps t m k → n ≡ k)

-- a decode passes at most all bytes, and takes at most two steps for each byte
abbrev pub WorkIsBounded : Type 0
WorkIsBounded = (t : List ℕ) (m n : ℕ) → (IsPassed t m n → n ≤ length t) × (AreSteps t m n → n ≤ 2 * length t)

-- a value has at most 1.6 times as many bytes as its text, and a text at most four bytes for each byte of its value
abbrev pub LengthsAreBounded : Type 0
LengthsAreBounded = (v t : List ℕ) → AreBytes v → IsText v t → (5 * length v ≤ 8 * length t) × (length t ≤ 4 * length v)
