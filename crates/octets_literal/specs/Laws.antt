-- The laws of literals.
use Rattle.std.specs.Prelude.{◌≡◌, ◌≢◌, ◌⊎◌, ℕ, ◌+◌, ◌-◌, ◌*◌, ◌^◌, ◌<◌, ◌≤◌, List, [], ◌∷◌, ◌++◌, length, take}
use Rattle.octets_code.specs.Texts.{AreBytes}
use Rattle.octets_literal.specs.Integers.{IsInteger, integer}
use Rattle.octets_literal.specs.Literals.{BeginsLiteral, canon}
use Rattle.octets_literal.specs.Faults.{IsRefused}
use Rattle.octets_literal.specs.declared.error.LiteralError.{LiteralError}
use Rattle.octets_literal.specs.declared.error.LiteralError.TheVariants.{OutOfMemory}

-- at most one prefix of a list is a literal, and it is a literal of one value
abbrev pub FrontIsOne : Type 0
FrontIsOne = (l : List ℕ) (j k : ℕ) (v w : List ℕ) → BeginsLiteral l j v → BeginsLiteral l k w → (j ≡ k) × (v ≡ w)

-- what is written for a value of at most 4294967295 bytes is a literal of the value, whatever follows
abbrev pub CanonIsLiteral : Type 0
CanonIsLiteral = (v after : List ℕ) → AreBytes v → length v ≤ 4294967295
    → BeginsLiteral (canon v ++ after) (length (canon v)) v

-- what is written for v is a literal of v, up to its last byte
abbrev pub CanonIsLiteralOf : List ℕ → Type 0
CanonIsLiteralOf v = BeginsLiteral (canon v) (length (canon v)) v

-- if l begins with what is written for a value of at most 4294967295 bytes, l begins with a literal of that value
unfoldable pub CanonBegins : List ℕ → Type 0
CanonBegins l = (v : List ℕ) → AreBytes v → length v ≤ 4294967295 → take (length (canon v)) l ≡ canon v
    → BeginsLiteral l (length (canon v)) v

-- the same if l is exactly what is written for a value
unfoldable pub CanonAlone : List ℕ → Type 0
CanonAlone l = (v : List ℕ) → AreBytes v → length v ≤ 4294967295 → l ≡ canon v → BeginsLiteral l (length (canon v)) v

-- what is written for n is an integer of n, if five groups hold what the prefix doesn't
abbrev pub ShortestIsInteger : Type 0
ShortestIsInteger = (size mark n : ℕ) → n < 2 ^ size - 1 + 2 ^ 35 → IsInteger size mark n (integer size mark n)

-- no integer of n is shorter than the one that is written
abbrev pub ShortestIsLeast : Type 0
ShortestIsLeast = (size mark n : ℕ) (b : List ℕ) → IsInteger size mark n b → length (integer size mark n) ≤ length b

-- the integers of RFC 7541, Appendix C.1, are read as there: 10 and 1337 with a prefix of 5 bits, whatever the
-- other bits of the byte are, and 42 with a prefix of 8 bits
abbrev pub AppendixIsRead : Type 0
AppendixIsRead = ((mark : ℕ) → IsInteger 5 mark 10 ((mark * 32 + 10) ∷ [])
    × IsInteger 5 mark 1337 ((mark * 32 + 31) ∷ 154 ∷ 10 ∷ [])) × IsInteger 8 0 42 (42 ∷ [])

-- these integers are what is written for their numbers
abbrev pub AppendixIsWritten : Type 0
AppendixIsWritten = ((mark : ℕ) → (integer 5 mark 10 ≡ (mark * 32 + 10) ∷ [])
    × (integer 5 mark 1337 ≡ (mark * 32 + 31) ∷ 154 ∷ 10 ∷ [])) × (integer 8 0 42 ≡ 42 ∷ [])

-- errors other than OutOfMemory: a read of some bytes fails with at most one of them
abbrev pub RefusalIsOne : Type 0
RefusalIsOne = (l : List ℕ) (m : ℕ) (e f : LiteralError) → e ≢ OutOfMemory → f ≢ OutOfMemory → IsRefused l m e
    → IsRefused l m f → e ≡ f

-- if bytes begin with a literal of a value within the limit, a read of them fails with none of these errors
abbrev pub RefusedIsNoLiteral : Type 0
RefusedIsNoLiteral = (l : List ℕ) (m k : ℕ) (v : List ℕ) (e : LiteralError) → e ≢ OutOfMemory → IsRefused l m e
    → BeginsLiteral l k v → length v ≤ m → ⊥

-- bytes begin with a literal of a value within the limit, or a read of them fails with one of these errors
abbrev pub LiteralOrRefusal : Type 0
LiteralOrRefusal = (l : List ℕ) (m : ℕ) → AreBytes l
    → ((k : ℕ) × (v : List ℕ) × BeginsLiteral l k v × (length v ≤ m))
    ⊎ ((e : LiteralError) × (e ≢ OutOfMemory) × IsRefused l m e)
