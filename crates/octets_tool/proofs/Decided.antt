-- Each input is a script, or has a first line that breaks a rule: for each line it is decided whether it follows
-- the rules.
use Rattle.std.proofs.Common.{◌≡◌, ◌⊎◌, ℕ, zero, suc, ◌+◌, ◌≤◌, lit≤, eqb, List, [], ◌∷◌, ◌++◌, length, drop, inl, inr}
use Rattle.std.proofs.Common.{refl, ap, sym, subst, ◌∙◌, arith}
use Rattle.std.proofs.Math.Decide.{dec_le, dec_lt, map_dec}
use Rattle.std.proofs.lemmas.List.Elements.{All-nil, All-cons}
use Rattle.std.proofs.lemmas.List.Splits.{length-slice_split}
use Rattle.octets_tool.specs.Commands.{MayBeSpelled}
use Rattle.octets_script.specs.Calls.{Call}
use Rattle.octets_tool.specs.Limits.{most_buffer, most_commands}
use Rattle.octets_tool.specs.Scripts.{ScriptText, buffer_line, IsBufferLine, IsScript, unended, lines_of, MayStand}
use Rattle.octets_tool.specs.Scripts.{AllStand, IsFaultLine}
use Rattle.octets_script.proofs.Decisions.{both_decided, AreBytes_decided}
use Rattle.octets_tool.proofs.HexWords.{bytes_of, bytes_of-hex}
use Rattle.octets_tool.proofs.LineWords.{IsLineOf_decided, equal_decided}
use Rattle.octets_tool.proofs.ScriptLines.{AreLinesOf, script-lines_of}

-- whether the line gives a buffer
IsBufferLine_decided : (l : List ℕ) → Dec ((b : List ℕ) × IsBufferLine l b)
IsBufferLine_decided l =
    let b = bytes_of (drop 7 l) in
    map_dec (λ h. (b, (h.0, h.1.0, h.1.1)))
    (λ h. (let is = subst (IsBufferLine l) (sym (ap (λ t. bytes_of (drop 7 t)) h.1.2 ∙ bytes_of-hex h.0 h.1.0)) h.1 in
    (is.0, (is.1, is.2))))
    (both_decided (AreBytes_decided b) (both_decided (dec_le (length b) most_buffer) (equal_decided l (buffer_line b))))

-- whether the line follows the rules after k lines
MayStand_decided : (k : ℕ) (l : List ℕ) → Dec (MayStand k l)
MayStand_decided zero l = IsBufferLine_decided l
MayStand_decided (suc k) l = both_decided (dec_lt k most_commands) (IsLineOf_decided l)

-- one of these lines, after k others, is the first that breaks a rule
abbrev FirstFault : ℕ → List (List ℕ) → Type 0
FirstFault k ls = (front : List (List ℕ)) × (l : List ℕ) × (after : List (List ℕ)) × (ls ≡ front ++ l ∷ after)
    × AllStand k front × (¬ MayStand (k + length front) l)

-- all of them follow the rules, or one is the first that doesn't
all_or_fault : (k : ℕ) (ls : List (List ℕ)) → AllStand k ls ⊎ FirstFault k ls
all_or_fault k [] = inl tt
all_or_fault k (l ∷ ls) = elim (MayStand_decided k l) [
  | no never ↦ inr ([], l, ls, refl, tt, λ stands. never (subst (λ n. MayStand n l) (omega arith) stands))
  | yes stands ↦ elim (all_or_fault (suc k) ls) [
    | inl all ↦ inl (stands, all)
    | inr f ↦ inr (
      l ∷ f.0,
      f.1,
      f.2,
      ap (λ t. l ∷ t) f.3,
      (stands, f.4),
      λ other. f.5 (subst (λ n. MayStand n f.1) (omega arith) other),
    )
  ]
]

-- the commands of lines that follow the rules
commands_of : (k : ℕ) (ls : List (List ℕ)) → k ≤ most_commands → AllStand (suc k) ls
    → (cs : List Call) × AreLinesOf ls cs × (k + length cs ≤ most_commands)
commands_of k [] few all = ([], (All-nil MayBeSpelled, refl), omega arith)
commands_of k (l ∷ ls) few all =
    let more = commands_of (suc k) ls (omega (arith, all.0.0)) all.1 in (
      all.0.1.0 ∷ more.0,
      (All-cons MayBeSpelled all.0.1.0 more.0 all.0.1.1.0 more.1.0, cc (all.0.1.1.1, more.1.1)),
      omega (arith, more.2),
    )

-- an input whose lines all follow the rules is a script
script_by_lines : (input : List ℕ) (ls : List (List ℕ)) → lines_of input ≡ ls → AllStand 0 ls
    → (s : ScriptText) × IsScript input s
script_by_lines input [] e all = absurd (let some = length-slice_split (λ b. eqb b 10) (unended input) in
    omega (arith, some, ap length e))
script_by_lines input (l ∷ ls) e all =
    let buffer = all.0 in
    let commands = commands_of 0 ls (lit≤ tt) all.1 in
    let s : ScriptText = record { buffer = buffer.0; commands = commands.0 } in
    (s, script-lines_of input s (l ∷ ls) (buffer.1, omega (arith, commands.2), commands.1) e)

-- each input is a script, or has a first line that breaks a rule
pub script_or_fault : (input : List ℕ) → ((s : ScriptText) × IsScript input s) ⊎ ((n : ℕ) × IsFaultLine input n)
script_or_fault input = elim (all_or_fault 0 (lines_of input)) [
  | inl all ↦ inl (script_by_lines input (lines_of input) refl all)
  | inr fault ↦ inr (
    length fault.0 + 1,
    (
      fault.0,
      fault.1,
      fault.2,
      fault.3,
      fault.4,
      (λ stands. fault.5 (subst (λ n. MayStand n fault.1) (omega arith) stands)),
      refl,
    ),
  )
]
