-- What a step of the automaton does. A state is seen as its path, which is the bits since the last code.
use Rattle.std.specs.Prelude.{◌≡◌, ◌≢◌, ℕ, ◌<◌, ◌≤◌, Bool, List, [], ◌++◌, length, ⊤}
use Rattle.octets_code.specs.declared.automaton.Step.{Step}
use Rattle.octets_code.specs.declared.automaton.Step.TheVariants.{On, Byte, End}
use Rattle.octets_code.specs.Codes.{code}
use Rattle.octets_code.specs.Texts.{ones}

-- p is a prefix of some code, but not a code
abbrev pub IsOpen : List Bool → Type 0
IsOpen p = (s : ℕ) × (r : List Bool) × (s ≤ 256) × (r ≢ []) × (code s ≡ p ++ r)

-- p is 0 to 7 one bits, with which a text may end (RFC 7541, section 5.2)
abbrev pub IsFill : List Bool → Type 0
IsFill p = (length p < 8) × (p ≡ ones (length p))

-- the step from the path p over the bits x: it completes no code, or the code of a byte, or the end code
abbrev pub IsStep : List Bool → List Bool → Step → Type 0
IsStep p x (On s) = s ≡ p ++ x
IsStep p x (Byte s b) = (b < 256) × (p ++ x ≡ code b ++ s)
IsStep p x End = (r : List Bool) × (p ++ x ≡ code 256 ++ r)

-- the path of the state after the step is open
abbrev pub IsOpenStep : Step → Type 0
IsOpenStep (On s) = IsOpen s
IsOpenStep (Byte s b) = IsOpen s
IsOpenStep End = ⊤
