-- Of the codes that bits can begin with one is the first.
use Rattle.std.proofs.Common.{◌≡◌, ℕ, ◌+◌, ◌-◌, ◌*◌, ◌<◌, ◌≤◌, Bool, List, ◌++◌, length, take, drop, ◌∙◌, ap, arith}
use Rattle.std.proofs.Common.{length-append, length-drop, Option, None, Some, IfNone}
use Rattle.std.proofs.lemmas.Grind.{common_steps}
use Rattle.std.proofs.Math.Seq.{take-append-add}
use Rattle.octets_code.specs.Bits.{bits_of}
use Rattle.octets_code.specs.Codes.{code}
use Rattle.octets_code.specs.Looks.{BeginsWithCode}
use Rattle.octets_code.specs.Steps.{IsOpen}
use Rattle.octets_code.specs.Texts.{bits, ones}
use Rattle.octets_code.proofs.CodesLemmas.{length-code}
use Rattle.octets_code.proofs.TextLemmas.{first_code, open_no_code}
use Rattle.octets.specs.Windows.{filled, IsWindow, BeginsWithByte}
use Rattle.octets.proofs.lemmas.CodeFacts.{length-bits}

-- if there is none, a weaker fact holds too
pub where_none : {A : Type 0} (r : Option A) (P Q : Type 0) → IfNone r P → (P → Q) → IfNone r Q
where_none None P Q p f = f p
where_none (Some x) P Q p f = tt

-- if the end code comes first, the code of no byte does
pub end_first : (x : List Bool) (n : ℕ) → BeginsWithCode x 256 → ¬ BeginsWithByte x n
end_first x n e b = grind (arith, first_code)

-- if the code of a byte comes first and has more bits, no code with so few bits does
pub longer_first : (x : List Bool) (c n : ℕ) → c < 256 → BeginsWithCode x c → n < length (code c) → ¬ BeginsWithByte x n
longer_first x c n h e l b = grind (arith, first_code)

-- if the first twelve bits are only a part of a code, no code of at most twelve bits comes first
pub open_first : (x : List Bool) (n : ℕ) → IsOpen (take 12 x) → n ≤ 12 → ¬ BeginsWithByte x n
open_first x n o h b =
    let k : ℕ = 12 - length (code b.0) in
    let sum : 12 ≡ length (code b.0) + k = omega arith in
    let front : take 12 x ≡ code b.0 ++ take k b.3.0 =
    ap (take 12) b.3.1 ∙ ap (λ j. take j (code b.0 ++ b.3.0)) sum ∙ take-append-add (code b.0) b.3.0 k in
    open_no_code _ o b.0 (omega arith) _ front

-- the window at a position begins with the code with which the encoding continues there
pub window_begins : (t : List ℕ) (at w n : ℕ) → at ≤ 8 * length t → IsWindow t at w
    → BeginsWithByte (drop at (bits t)) n
    → BeginsWithByte (bits_of 64 w) (8 * length t - at)
unfolding filled
window_begins t at w n h iw b =
    let c : List Bool = code b.0 in let r : List Bool = b.3.0 in let k : ℕ = 64 - length c in
    let sum : 64 ≡ length c + k = omega (arith, ((length-code b.0 (omega arith)).1)) in
    let fits : length c ≤ 8 * length t - at =
    omega (arith, length-drop at (bits t), length-bits, ap length b.3.1, length-append c r) in
    let begins : take 64 (drop at (bits t ++ ones 128)) ≡ c ++ take k (r ++ ones 128) =
    ap (take 64) (grind (arith, common_steps, length-bits))
    ∙ ap (λ j. take j (c ++ (r ++ ones 128))) sum ∙ take-append-add c (r ++ ones 128) k in grind arith
