-- Two words are those of a decode or of a literal alone.
use Rattle.std.proofs.Common.{◌≡◌, ◌↔◌, ℕ, ◌≤◌, List, [], ◌∷◌, codes, Some, arith}
use Rattle.std.specs.Fmt.{decimal}
use Rattle.octets_tool.specs.declared.arguments.Task.{Task}
use Rattle.octets_tool.specs.declared.arguments.Task.TheVariants.{Decode, Literal}
use Rattle.octets_tool.specs.Limits.{most_count}
use Rattle.octets_tool.specs.Words.{IsCommandLine}
use Rattle.octets_tool.proofs.arguments.task_of_words.Goals as goal

module _ (command limit : List ℕ) (k : ℕ)
    (read : (n : ℕ) → (Some k ≡ Some n) ↔ ((n ≤ most_count) × (limit ≡ decimal n))) where
  words_of_decode : command ≡ codes "decode" → (task : Task)
      → (Some (Decode k) ≡ Some task) ↔ IsCommandLine (command ∷ limit ∷ []) task
  words_of_decode e task = grind (arith, read k)

  words_of_literal : command ≡ codes "string" → (task : Task)
      → (Some (Literal k) ≡ Some task) ↔ IsCommandLine (command ∷ limit ∷ []) task
  words_of_literal e task = grind (arith, read k)

pub returns-in_ok-count_of-in-decode : goal.returns-in_ok-count_of-in-decode
returns-in_ok-count_of-in-decode c =
    words_of_decode c.args.command.now c.args.limit.now c.in_ok-count_of-in-decode.field-0
    (rw c.as_bytes.ensures.value at c.in_ok-count_of-in-decode.ensures) c.in-decode.is

pub returns-in_ok-count_of-in-string : goal.returns-in_ok-count_of-in-string
returns-in_ok-count_of-in-string c =
    words_of_literal c.args.command.now c.args.limit.now c.in_ok-count_of-in-string.field-0
    (rw c.as_bytes-in-string.ensures.value at c.in_ok-count_of-in-string.ensures) c.in-string.is
