-- A buffer that is filled by one read after another.
use Rattle.std.proofs.Common.{◌≡◌, ℕ, ◌+◌, ◌≤◌, Option, List, ◌++◌, length, take, sym, ap, ◌∙◌, length-take-le}
use Rattle.std.proofs.Math.Seq.{take-append-add}
use Rattle.std.proofs.lemmas.List.{take-append-le}
use Rattle.std.specs.Io.KnownBytes.{Consumes}
use Rattle.std.proofs.KnownBytes.{Consumes-trans}

-- the first bytes of the buffer were read, and then n bytes that follow them
pub Consumes-behind : (a b c : Option (List ℕ)) (buffer part rest : List ℕ) (filled n : ℕ) → filled ≤ length buffer
    → n ≤ length part
    → Consumes a b (take filled buffer) → Consumes b c (take n part)
    → Consumes a c (take (filled + n) (take filled buffer ++ (part ++ rest)))
Consumes-behind a b c buffer part rest filled n fits within before read =
    let front = take filled buffer in
    let long : length front ≡ filled = length-take-le filled buffer fits in
    let joined = ap (λ k. take (k + n) (front ++ (part ++ rest))) (sym long) ∙ take-append-add front (part ++ rest) n
    ∙ ap (λ l. front ++ l) (take-append-le n part rest within) in
    rw joined (Consumes-trans a b c _ _ before read)

-- at one more read
pub ruleset consumed = (Consumes-behind)
