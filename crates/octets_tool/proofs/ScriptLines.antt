-- The lines of a script, and the first that breaks a rule.
use Rattle.std.proofs.Common.{◌≡◌, ◌≢◌, ◌↔◌, ◌⊎◌, ℕ, suc, ◌+◌, ◌<◌, ◌≤◌, lit≤, false, eqb, List, [], ◌∷◌, ◌++◌, length}
use Rattle.std.proofs.Common.{flat_map, codes, get_or, Result, Ok, Err, inl, inr, refl, ap, sym, subst, ◌∙◌, arith}
use Rattle.std.proofs.Common.{append_assoc, append-nil}
use Rattle.std.specs.Prelude.{map}
use Rattle.std.specs.List.{All, slice_split, join_with_byte}
use Rattle.std.proofs.lemmas.Grind.{common_steps}
use Rattle.std.proofs.lemmas.Bool.{cases_eq, cases_order}
use Rattle.std.proofs.lemmas.Bool.Decides.{nat_tests}
use Rattle.std.proofs.lemmas.List.{append_cancel_left, append_cancel_right, length-map, length_push, map_push}
use Rattle.std.proofs.lemmas.List.{length-append, get_or_at}
use Rattle.std.proofs.lemmas.List.Elements.{All-cons, All-head, All-tail, All-append, All-push, All-map, All-weaker}
use Rattle.std.proofs.lemmas.List.Elements.{All-from_recursion}
use Rattle.std.proofs.lemmas.List.Splits.{join_with_byte-slice_split}
use Rattle.octets.specs.Bytes.{AreBytes}
use Rattle.octets_script.specs.Calls.{Call}
use Rattle.octets_tool.specs.Limits.{most_commands}
use Rattle.octets_tool.specs.declared.script.ScriptFault.{ScriptFault}
use Rattle.octets_tool.specs.declared.script.ScriptFault.TheVariants.{Line, Memory}
use Rattle.octets_tool.specs.Laws.{ScriptsAreOne, ScriptHasNoFault, FaultsAreOne}
use Rattle.octets_tool.specs.Lines.{hex, line}
use Rattle.octets_tool.specs.Commands.{said, values_words, spelled, MayBeSpelled, IsLineOf}
use Rattle.octets_tool.specs.Scripts.{ScriptText, buffer_line, script_lines, IsBufferLine, IsScript, unended, lines_of}
use Rattle.octets_tool.specs.Scripts.{MayStand, AllStand, IsFaultLine}
use Rattle.octets_tool.proofs.Cutting.{slice_split-join}
use Rattle.octets_tool.proofs.HexWords.{hex_injective}
use Rattle.octets_tool.proofs.Spelled.{said_words}
use Rattle.octets_tool.proofs.LineWords.{words_plain, line_once}
use Rattle.octets_tool.proofs.Decimals.{Plain, hex-plain}

-- ---- the line feed at the end

-- a text with a line feed after it, without the line feed
pub unended-feed : (s : List ℕ) → unended (s ++ 10 ∷ []) ≡ s
unended-feed (b ∷ c ∷ s) = rw (unended-feed (c ∷ s))
unended-feed _ = refl

last_one : (b : ℕ) → b ≢ 10 → unended (b ∷ []) ≡ b ∷ []
last_one b other = let e : eqb b 10 ≡ false = grind (arith, nat_tests) in rw e

-- what no line feed ends stays as it is
pub unended-same : (s : List ℕ) → ((front : List ℕ) → s ≢ front ++ 10 ∷ []) → unended s ≡ s
unended-same [] never = refl
unended-same (b ∷ []) never = last_one b (λ e. never [] (ap (λ x. x ∷ []) e))
unended-same (b ∷ c ∷ s) never = rw (unended-same (c ∷ s) (λ front e. never (b ∷ front) (ap (λ t. b ∷ t) e)))

-- an input is what is left of it unended, with a line feed or without
pub unended_either : (s : List ℕ) → (s ≡ unended s ++ 10 ∷ []) ⊎ (s ≡ unended s)
unended_either [] = inr refl
unended_either (b ∷ []) = grind (arith, cases_eq, last_one)
unended_either (b ∷ c ∷ s) = grind (arith, (unended_either (c ∷ s)))

-- ---- lines and their text

-- the input is these lines, each with a line feed, which the last one may lack
abbrev AreLines : List ℕ → List (List ℕ) → Type 0
AreLines input ls = (input ≡ flat_map line ls) ⊎ (input ++ codes "\n" ≡ flat_map line ls)

flat-join : (l : List ℕ) (ls : List (List ℕ)) → flat_map line (l ∷ ls) ≡ join_with_byte 10 (l ∷ ls) ++ 10 ∷ []
flat-join l [] = append-nil (l ++ 10 ∷ [])
flat-join l (m ∷ ls) = grind (arith, append_assoc, (flat-join m ls))

-- a line of a script: no line feed, and not empty
abbrev pub IsLine : List ℕ → Type 0
IsLine l = All (λ b. 32 ≤ b) l × (0 < length l)

no_feed : (l : List ℕ) → All (λ b. 32 ≤ b) l → All (λ b. eqb b 10 ≡ false) l
no_feed l high = λ k d h. (let p = high k d h in grind (arith, nat_tests))

unended-line : (l : List ℕ) → All (λ b. 32 ≤ b) l → unended l ≡ l
unended-line l high = grind (arith, unended-same, length-append, get_or_at)

unended-append : (s t : List ℕ) → 0 < length t → unended (s ++ t) ≡ s ++ unended t
unended-append (b ∷ []) [] h = absurd (omega arith)
unended-append (b ∷ c ∷ s) t h = rw (unended-append (c ∷ s) t h)
unended-append _ _ h = refl

join-some : (c : ℕ) (l : List ℕ) (ls : List (List ℕ)) → length l ≤ length (join_with_byte c (l ∷ ls))
join-some c l [] = omega arith
join-some c l (m ∷ ls) = omega (arith, length-append l (c ∷ join_with_byte c (m ∷ ls)))

unended-join : (l : List ℕ) (ls : List (List ℕ)) → All IsLine (l ∷ ls)
    → unended (join_with_byte 10 (l ∷ ls)) ≡ join_with_byte 10 (l ∷ ls)
unended-join l [] are = unended-line l (All-head IsLine l [] are).0
unended-join l (m ∷ ls) are =
    let rest = join_with_byte 10 (m ∷ ls) in
    let more = All-tail IsLine l (m ∷ ls) are in
    let front = append_assoc l (10 ∷ []) rest in
    let some : 0 < length rest = omega (arith, join-some 10 m ls, (All-head IsLine m ls more).1) in
    rw (← front, unended-append (l ++ 10 ∷ []) rest some, unended-join m ls more, front)

cut_join : (l : List ℕ) (ls : List (List ℕ)) → All IsLine (l ∷ ls)
    → slice_split (λ b. eqb b 10) (join_with_byte 10 (l ∷ ls)) ≡ l ∷ ls
cut_join l ls are = slice_split-join 10 l ls (no_feed l (All-head IsLine l ls are).0)
    (λ k d h. no_feed (get_or ls k d) (All-tail IsLine l ls are k d h).0)

-- the lines of an input that is such lines are just these
pub lines_of-text : (input : List ℕ) (l : List ℕ) (ls : List (List ℕ)) → All IsLine (l ∷ ls) → AreLines input (l ∷ ls)
    → lines_of input ≡ l ∷ ls
lines_of-text input l ls are (inl e) =
    rw (e, flat-join l ls, unended-feed (join_with_byte 10 (l ∷ ls)), cut_join l ls are)
lines_of-text input l ls are (inr e) =
    let same : input ≡ join_with_byte 10 (l ∷ ls) =
    grind (arith, common_steps, append_cancel_right, flat-join) in rw (same, unended-join l ls are, cut_join l ls are)

-- an input is its lines
pub text_of-lines : (input : List ℕ) (l : List ℕ) (ls : List (List ℕ)) → lines_of input ≡ l ∷ ls
    → AreLines input (l ∷ ls)
text_of-lines input l ls e =
    let joined : unended input ≡ join_with_byte 10 (l ∷ ls) = rw (← join_with_byte-slice_split 10 (unended input), e) in
    elim (unended_either input) [
      | inl ended ↦ inl (ended ∙ ap (λ t. t ++ 10 ∷ []) joined ∙ sym (flat-join l ls))
      | inr bare ↦ inr (ap (λ t. t ++ 10 ∷ []) (bare ∙ joined) ∙ sym (flat-join l ls))
    ]

-- ---- the lines of a script

-- the lines spell the commands, each its own
abbrev pub AreLinesOf : List (List ℕ) → List Call → Type 0
AreLinesOf ls cs = All MayBeSpelled cs × (ls ≡ map spelled cs)

-- the lines of a script within the limits
abbrev pub AreScriptLines : List (List ℕ) → ScriptText → Type 0
AreScriptLines [] s = ⊥
AreScriptLines (l ∷ ls) s = IsBufferLine l s.buffer × (length s.commands ≤ most_commands) × AreLinesOf ls s.commands

high_from_plain : (w : List ℕ) → All Plain w → All (λ b. 32 ≤ b) w
high_from_plain w plain = λ k d h. (let p = plain k d h in omega arith)

join-high : (w : List ℕ) (ws : List (List ℕ)) → All Plain w → All (λ v. All Plain v) ws
    → All (λ b. 32 ≤ b) (join_with_byte 32 (w ∷ ws))
join-high w [] p ps = high_from_plain w p
join-high w (v ∷ ws) p ps =
    All-append (λ b. 32 ≤ b) w (32 ∷ join_with_byte 32 (v ∷ ws)) (high_from_plain w p)
    (All-cons (λ b. 32 ≤ b) 32 (join_with_byte 32 (v ∷ ws)) (lit≤ tt)
    (join-high v ws (All-head (λ v. All Plain v) v ws ps) (All-tail (λ v. All Plain v) v ws ps)))

-- the line of a command is one
pub IsLine-command : (l : List ℕ) (c : Call) → IsLineOf l c → IsLine l
IsLine-command l c is =
    let ws = values_words (said c).kinds (said c).values in
    let plain = words_plain (said c).name ws c (said_words c is.0) in
    rw is.1
    (join-high (said c).name ws plain.0 plain.2, omega (arith, plain.1, join-some 32 (said c).name ws))

-- so is the first line of a script
pub IsLine-buffer : (b : List ℕ) → AreBytes b → IsLine (buffer_line b)
IsLine-buffer b are = grind (arith, All-append, All-from_recursion, high_from_plain, hex-plain)

command-lines : (cs : List Call) → All MayBeSpelled cs → All IsLine (map spelled cs)
command-lines cs h = All-map IsLine spelled cs
    (All-weaker MayBeSpelled (λ c. IsLine (spelled c)) (λ c may. IsLine-command (spelled c) c (may, refl)) cs h)

-- the lines of a script's text are its lines
pub lines_of-script : (input : List ℕ) (s : ScriptText) → IsScript input s → AreScriptLines (lines_of input) s
lines_of-script input s is =
    let ls = map spelled s.commands in
    let all =
    All-cons IsLine (buffer_line s.buffer) ls (IsLine-buffer s.buffer is.0.0) (command-lines s.commands is.0.3) in
    rw (lines_of-text input (buffer_line s.buffer) ls all is.1)
    ((is.0.0, is.0.1, refl), is.0.2, (is.0.3, refl))

-- an input whose lines are those of a script is its text
pub script-lines_of : (input : List ℕ) (s : ScriptText) (ls : List (List ℕ)) → AreScriptLines ls s → lines_of input ≡ ls
    → IsScript input s
script-lines_of input s [] are e = absurd are
script-lines_of input s (l ∷ ls) are e =
    let same : l ∷ ls ≡ script_lines s = cc (are.0.2, are.2.1) in
    ((are.0.0, are.0.1, are.1, are.2.0), subst (AreLines input) same (text_of-lines input l ls e))

-- ---- each script has its own lines

same_commands : (cs ds : List Call) → All MayBeSpelled cs → All MayBeSpelled ds
    → map spelled cs ≡ map spelled ds → cs ≡ ds
same_commands [] [] h k e = refl
same_commands (c ∷ cs) (d ∷ ds) h k e =
    let one : spelled c ≡ spelled d = cc in
    let first : c ≡ d =
    sym (line_once (spelled c) c d (All-head MayBeSpelled c cs h, refl) (All-head MayBeSpelled d ds k, one)) in
    cc (first, same_commands cs ds (All-tail MayBeSpelled c cs h) (All-tail MayBeSpelled d ds k) (cc))
same_commands _ _ h k e = cc

-- lines are those of one script at most
pub same_script : (ls : List (List ℕ)) (s t : ScriptText) → AreScriptLines ls s → AreScriptLines ls t → s ≡ t
same_script [] s t h k = absurd h
same_script (l ∷ ls) s t h k =
    let word : hex s.buffer ≡ hex t.buffer = grind (arith, common_steps, append_cancel_left) in
    let first : s.buffer ≡ t.buffer = hex_injective s.buffer t.buffer h.0.0 k.0.0 word in
    let rest = same_commands s.commands t.commands h.2.0 k.2.0 (sym h.2.1 ∙ k.2.1) in rw (first, rest)

-- ---- the first line that breaks a rule

commands_stand : (k : ℕ) (cs : List Call) → All MayBeSpelled cs → k + length cs ≤ most_commands
    → AllStand (suc k) (map spelled cs)
commands_stand k [] h few = tt
commands_stand k (c ∷ cs) h few =
    grind (arith, All-head, All-tail, (commands_stand (suc k) cs (All-tail MayBeSpelled c cs h) (omega arith)))

-- the lines of a script break no rule
pub script_stands : (ls : List (List ℕ)) (s : ScriptText) → AreScriptLines ls s → AllStand 0 ls
script_stands [] s h = tt
script_stands (l ∷ ls) s h = grind (arith, commands_stand)

-- of lines that follow the rules, each before the last follows them too
stands_before : (k n : ℕ) (f g p r : List (List ℕ)) (l : List ℕ) → f ++ l ∷ p ≡ g ++ r → n ≡ k + length f
    → length f < length g → AllStand k g → MayStand n l
stands_before k n f [] p r l e at few all = absurd (omega arith)
stands_before k n [] (z ∷ g) p r l e at few all = grind (arith, common_steps)
stands_before k n (x ∷ f) (z ∷ g) p r l e at few all =
    stands_before (suc k) n f g p r l (cc) (omega arith) (omega arith) all.1

fault_before : (input : List ℕ) (n m : ℕ) → IsFaultLine input n → IsFaultLine input m → n < m → ⊥
fault_before input n m a b less = grind (arith, stands_before)

-- one line at most is the first that breaks a rule
pub faults_are_one : FaultsAreOne
faults_are_one input n m a b = elim (cases_order n m) [
  | inl same ↦ sym same
  | inr less
      ↦ elim less [ inl h ↦ absurd (fault_before input n m a b h) | inr h ↦ absurd (fault_before input m n b a h) ]
]

-- and none does where the input spells a script
pub script_has_no_fault : ScriptHasNoFault
script_has_no_fault input s n is fault =
    let all = script_stands (lines_of input) s (lines_of-script input s is) in
    let few : length fault.0 < length (lines_of input) = grind (arith, common_steps, length-append) in
    fault.5 (stands_before 0 (length fault.0) fault.0 (lines_of input) fault.2 [] fault.1 (sym fault.3
    ∙ sym (append-nil (lines_of input))) (omega arith) few all)

-- an input spells one script at most
pub scripts_are_one : ScriptsAreOne
scripts_are_one input s t is it =
    same_script (lines_of input) t s (lines_of-script input t it) (lines_of-script input s is)

-- ---- the result for an input

-- the result that an input has
abbrev IsScriptResult : List ℕ → Result ScriptText ScriptFault → Type 0
IsScriptResult input (Ok s) = IsScript input s
IsScriptResult input (Err (Line n)) = IsFaultLine input n
IsScriptResult input (Err Memory) = ⊥

result_once : (input : List ℕ) (r q : Result ScriptText ScriptFault) → IsScriptResult input r
    → IsScriptResult input q → r ≡ q
result_once input (Ok s) (Ok t) is it = rw (scripts_are_one input t s it is)
result_once input (Err (Line n)) (Err (Line m)) is it = rw (faults_are_one input m n it is)
result_once input (Ok s) (Err (Line n)) is it = absurd (script_has_no_fault input s n is it)
result_once input (Err (Line n)) (Ok s) is it = absurd (script_has_no_fault input s n it is)
result_once input (Err Memory) q is it = absurd is
result_once input r (Err Memory) is it = absurd it

-- what is said of a result that an input has: with it the input is a script, or has a line that breaks a rule
pub answered : (input : List ℕ) (r : Result ScriptText ScriptFault) → IsScriptResult input r
    → ((s : ScriptText) → (r ≡ Ok s) ↔ IsScript input s) × ((n : ℕ) → (r ≡ Err (Line n)) ↔ IsFaultLine input n)
answered input r is = (
  (λ s. ((λ e. subst (IsScriptResult input) e is), result_once input r (Ok s) is)),
  (λ n. ((λ e. subst (IsScriptResult input) e is), result_once input r (Err (Line n)) is)),
)

script_count : (ls : List (List ℕ)) (s : ScriptText) → AreScriptLines ls s → length ls ≡ suc (length s.commands)
script_count [] s h = absurd h
script_count (l ∷ ls) s h = rw (h.2.1, length-map s.commands spelled)

-- the line l after the lines of a script, which breaks a rule there
pub fault_behind : (input : List ℕ) (ls : List (List ℕ)) (s : ScriptText) (l : List ℕ) (after : List (List ℕ)) (n : ℕ)
    → AreScriptLines ls s → lines_of input ≡ ls ++ l ∷ after
    → (MayStand (suc (length s.commands)) l → ⊥) → n ≡ length s.commands + 2 → IsFaultLine input n
fault_behind input ls s l after n may e never number = grind (arith, script_count, script_stands)

-- a first line that gives no buffer
pub fault_first : (input : List ℕ) (l : List ℕ) (after : List (List ℕ)) → lines_of input ≡ l ∷ after
    → ((b : List ℕ) → IsBufferLine l b → ⊥) → IsFaultLine input 1
fault_first input l after e never = ([], l, after, e, tt, (λ stands. never stands.0 stands.1), refl)

-- one line more is read
pub lines_more : (ls : List (List ℕ)) (s : ScriptText) (l : List ℕ) (c : Call) → AreScriptLines ls s
    → length s.commands ≢ most_commands → IsLineOf l c
    → AreScriptLines (ls ++ l ∷ []) (record { buffer = s.buffer; commands = s.commands ++ c ∷ [] })
lines_more [] s l c h room is = absurd h
lines_more (m ∷ ls) s l c h room is = grind (arith, common_steps, map_push, length_push, All-push)
