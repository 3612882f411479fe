-- What a decoder returns for a text under a limit. The limit is the greatest number of bytes that the value may
-- have (RFC 7541, section 5.2).
use Rattle.std.specs.Prelude.{◌≡◌, ◌⊎◌, ℕ, suc, ◌+◌, ◌*◌, ◌/◌, ◌<◌, ◌≤◌, Some}
use Rattle.std.specs.Prelude.{Bool, List, ◌++◌, length, take, slice_get}
use Rattle.octets_code.specs.Codes.{code}
use Rattle.octets_code.specs.Texts.{bits, codes, AreBytes, IsText, IsCut}

-- under the limit m a decode stops at a symbol that follows k others: it is the end code, or symbol number m + 1
abbrev pub IsRefusedSymbol : ℕ → ℕ → ℕ → Type 0
IsRefusedSymbol m k symbol = (k ≡ m) ⊎ (symbol ≡ 256)

-- in the cut of the bits x, the first symbol that is refused under the limit m ends after e bits
pub record IsFault (x : List Bool) (m e : ℕ) : Type 0 where
  pub symbols : List ℕ
  pub rest : List Bool
  pub cut : IsCut x symbols rest
  pub place : ℕ
  pub symbol : ℕ
  pub there : slice_get symbols place ≡ Some symbol
  pub refused : IsRefusedSymbol m place symbol
  pub least : (j s : ℕ) → j < place → slice_get symbols j ≡ Some s → ¬ IsRefusedSymbol m j s
  pub ends : e ≡ length (codes (take (suc place) symbols))

-- the bits x have no fault under the limit m
abbrev pub HasNoFault : List Bool → ℕ → Type 0
HasNoFault x m = (e : ℕ) → ¬ IsFault x m e

-- in the bits x, a symbol that is refused under the limit m follows the codes of the bytes v, which are within the
-- limit; it ends after e bits
pub record IsFaultBehind (v : List ℕ) (x : List Bool) (m e : ℕ) : Type 0 where
  pub symbol : ℕ
  pub rest : List Bool
  pub bytes : AreBytes v
  pub is_symbol : symbol ≤ 256
  pub within : length v ≤ m
  pub refused : IsRefusedSymbol m (length v) symbol
  pub parts : x ≡ codes v ++ (code symbol ++ rest)
  pub ends : e ≡ length (codes v) + length (code symbol)

-- The fault as a decoder meets it, before it knows what follows. A law says that this is the fault of IsFault.
abbrev pub IsFaultRead : List Bool → ℕ → ℕ → Type 0
IsFaultRead x m e = (v : List ℕ) × IsFaultBehind v x m e

-- the bytes t are the text of v, and v is within the limit m
abbrev pub IsAnswer : List ℕ → ℕ → List ℕ → Type 0
IsAnswer t m v = AreBytes v × (length v ≤ m) × IsText v t

-- t is the text of no value within the limit m
abbrev pub HasNoAnswer : List ℕ → ℕ → Type 0
HasNoAnswer t m = (v : List ℕ) → ¬ IsAnswer t m v

-- A decode of t under the limit m that fails has passed n bytes: all up to the byte in which the fault ends, or all
-- bytes if there is no fault.
abbrev pub IsPassed : List ℕ → ℕ → ℕ → Type 0
IsPassed t m n = ((e : ℕ) × IsFault (bits t) m e × (n ≡ (e + 7) / 8)) ⊎ (HasNoFault (bits t) m × (n ≡ length t))

-- a decode of t under the limit m fails, and has passed n bytes
abbrev pub IsRefusal : List ℕ → ℕ → ℕ → Type 0
IsRefusal t m n = HasNoAnswer t m × IsPassed t m n

-- A decode of t under the limit m takes n steps: one for each half byte up to the one in which the fault ends, or
-- two for each byte if there is no fault.
abbrev pub AreSteps : List ℕ → ℕ → ℕ → Type 0
AreSteps t m n = ((e : ℕ) × IsFault (bits t) m e × (n ≡ (e + 3) / 4)) ⊎ (HasNoFault (bits t) m × (n ≡ 2 * length t))
