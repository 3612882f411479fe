-- The line by its pieces: the length is in it if the text isn't longer than the value.
use Rattle.std.proofs.Common.{◌≡◌, ◌↔◌, ℕ, ◌≤◌, ◌++◌, nat_le, true, false, List, length, codes, refl, ◌∙◌, rules}
use Rattle.std.proofs.Common.{append_assoc, arith}
use Rattle.std.specs.Fmt.{decimal}
use Rattle.std.proofs.lemmas.Bool.{le-leb, lt-leb}
use Rattle.octets_tool.specs.Lines.{hex}
use Rattle.octets_tool.specs.Output.{Output, answered, encode_output}
use Rattle.octets_tool.specs.declared.output.Status.TheVariants.{Answered}
use Rattle.octets.specs.Requests.{may_refuse}
use Rattle.octets_tool.proofs.commands.encode_command.output.Goals as goal
use Rattle.octets_tool.proofs.commands.encode_command.output.Goals.{in-Ok+in_ok-text-in-Ok, in-Err+in_ok-text-in-Err}

pieces : (h rest line : List ℕ) → line ≡ codes "text " ++ (h ++ (rest ++ codes "\n"))
    → ◌≡◌ {A = Output} (record { text = line; status = Answered }) (answered (codes "text " ++ h ++ rest))
pieces h rest line e = rw e (simp append_assoc)

module _ (t v d line : List ℕ) (same : d ≡ t) where
  told : (n : ℕ) → n ≡ length t → length t ≤ length v
      → line ≡ codes "text " ++ (hex d ++ (codes " len " ++ (decimal n ++ codes "\n")))
      → ◌≡◌ {A = Output} (record { text = line; status = Answered }) (encode_output t v)
  told n len fits e =
      rw (le-leb _ _ fits) (pieces (hex t) (codes " len " ++ decimal (length t)) line (rw (same, len) at e))

  longer : (false ≡ true) ↔ (length t ≤ length v) → line ≡ codes "text " ++ (hex d ++ codes " longer\n")
      → ◌≡◌ {A = Output} (record { text = line; status = Answered }) (encode_output t v)
  longer fits e =
      let no : length t ≤ length v → ⊥ = λ h. cc (fits.1 h) in
      let test : nat_le (length t) (length v) ≡ false = lt-leb _ _ (omega (arith, no)) in
      rw test (pieces (hex t) (codes " longer") line (rw same at e))

pub returns : goal.returns
returns g c =
    let same = c.deref.ensures.value ∙ c.in_ok-encoded.ensures in
    c.answered.ensures ∙ elim c.match-huffman_encoding_len.branch [
      | in-Ok+in_ok-text-in-Ok w ↦ (
          let len = w.in-Ok.ensures in
          rw w.text-is (told _ _ _ _ same _ len.len (len.shorter.0 refl) w.in_ok-text-in-Ok.ensures.ok)
          )
      | in-Err+in_ok-text-in-Err w ↦
          rw w.text-is (longer _ _ _ _ same w.in-Err.ensures.shorter w.in_ok-text-in-Err.ensures.ok)
    ]

-- the line is formatted in memory for which this function asks
pub returns-in_err-text-in-Ok : goal.returns-in_err-text-in-Ok
returns-in_err-text-in-Ok g c = search (rules, may_refuse)

pub returns-in_err-text-in-Err : goal.returns-in_err-text-in-Err
returns-in_err-text-in-Err g c = search (rules, may_refuse)
