-- The line of an output with the status `Refused`.
use Rattle.octets_literal.specs.Laws as law
use Rattle.std.proofs.Common.{◌≡◌, ℕ, List, ◌++◌, codes, append_assoc, ◌≢◌, ◌-◌, length, inl, inr, refl, sym, ◌∙◌}
use Rattle.std.proofs.Common.{arith}
use Rattle.std.specs.Fmt.{decimal}
use Rattle.octets_tool.specs.declared.output.Status.TheVariants.{Refused}
use Rattle.octets_tool.specs.Output.{Output, refused, answered, packet_output, encode_output, literal_output}
use Rattle.octets_tool.specs.Output.{replies_output, IsPacketOutput, IsDecodeOutput, IsLiteralOutput, IsScriptOutput}
use Rattle.std.proofs.lemmas.List.Elements.{All-weaker}
use Rattle.octets.specs.Bytes.{AreBytes}
use Rattle.octets_code.specs.Laws.{AnswersAreOne, EachIsDecided}
use Rattle.octets_code.specs.Texts.{text, lower}
use Rattle.octets_literal.specs.Faults.{IsRefused}
use Rattle.octets_literal.specs.declared.error.LiteralError.{LiteralError}
use Rattle.octets_literal.specs.declared.error.LiteralError.TheVariants.{Short, Length, Value, OutOfMemory}
use Rattle.octets_script.specs.Laws.{PlaysAreOne, EachIsPlayed, WritesBytes}
use Rattle.octets_tool.proofs.Decided.{script_or_fault}
use Rattle.octets_tool.specs.Packets.{OneByte, ShortestVarint}
use Rattle.octets_tool.proofs.PacketLaws.{Tells, tells_byte, tells_shortest, result_once, result_comes}
use Rattle.octets_tool.specs.declared.arguments.Task.TheVariants.{Packet, Packet2, Encode, EncodeLower, Decode}
use Rattle.octets_tool.specs.declared.arguments.Task.TheVariants.{Literal, Script}
use Rattle.octets_tool.specs.Laws.{EachHasAnOutput, OutputsAreOne}
use Rattle.octets_tool.specs.Lines.{hex}
use Rattle.octets_tool.specs.Commands.{MayBeSpelled}
use Rattle.octets_tool.proofs.Spelled.{writes_bytes}
use Rattle.octets_tool.proofs.ScriptLines.{scripts_are_one, script_has_no_fault, faults_are_one}

-- a word, a decimal and a line feed are the line of such an output
pub refused_line : (word text : List ℕ) (n : ℕ) → text ≡ word ++ (decimal n ++ codes "\n")
    → ◌≡◌ {A = Output} (record { text = text; status = Refused }) (refused (word ++ decimal n))
refused_line word text n e = rw (e, ← append_assoc word (decimal n) (codes "\n"))

-- A task has one output for an input.

one_packet : (Kind : List ℕ → ℕ → Type 0) → Tells Kind → (input : List ℕ) (o p : Output) → IsPacketOutput Kind input o
    → IsPacketOutput Kind input p → p ≡ o
one_packet Kind tells input o p h k = rw (k.2, result_once Kind tells input k.0 h.0 k.1 h.1, ← h.2)

some_packet : (Kind : List ℕ → ℕ → Type 0) → Tells Kind → (input : List ℕ) → (o : Output) × IsPacketOutput Kind input o
some_packet Kind tells input = let r = result_comes Kind tells input in (packet_output r.0, (r.0, r.1, refl))

one_decode : AnswersAreOne → (m : ℕ) (t : List ℕ) (o p : Output) → IsDecodeOutput m t o → IsDecodeOutput m t p → p ≡ o
one_decode one m t o p (inl h) (inl k) = rw (k.2, (one t m).0 k.0 h.0 k.1 h.1, ← h.2)
one_decode one m t o p (inl h) (inr k) = absurd (k.1.0 h.0 h.1)
one_decode one m t o p (inr h) (inl k) = absurd (h.1.0 k.0 k.1)
one_decode one m t o p (inr h) (inr k) = rw (k.2, (one t m).1 k.0 h.0 k.1.1 h.1.1, ← h.2)

one_literal : law.FrontIsOne → law.RefusalIsOne → law.RefusedIsNoLiteral → (m : ℕ) (t : List ℕ) (o p : Output)
    → IsLiteralOutput m t o → IsLiteralOutput m t p → p ≡ o
one_literal front one none m t o p is it = grind (arith, front, one, none)

one_script : PlaysAreOne → (input : List ℕ) (o p : Output) → IsScriptOutput input o → IsScriptOutput input p → p ≡ o
one_script one input o p (inl h) (inl k) =
    let same = scripts_are_one input h.0 k.0 h.4 k.4 in
    let played = rw same at k.5 in
    let ends = one h.0.commands h.0.buffer 0 h.1 k.1 h.2 k.2 h.3 k.3 h.5 played in
    cc (k.6, h.6, ends.0, ends.1, ends.2)
one_script one input o p (inl h) (inr k) = absurd (script_has_no_fault input h.0 k.0 h.4 k.1)
one_script one input o p (inr h) (inl k) = absurd (script_has_no_fault input k.0 h.0 k.4 h.1)
one_script one input o p (inr h) (inr k) = rw (k.2, faults_are_one input h.0 k.0 h.1 k.1, ← h.2)

-- a task has one output at most for an input of bytes
module _ (answers : AnswersAreOne) (front : law.FrontIsOne) (one : law.RefusalIsOne) (none : law.RefusedIsNoLiteral)
    (plays : PlaysAreOne) where
  pub outputs_are_one : OutputsAreOne
  outputs_are_one Packet input o p bytes h k = one_packet OneByte tells_byte input o p h k
  outputs_are_one Packet2 input o p bytes h k = one_packet ShortestVarint tells_shortest input o p h k
  outputs_are_one (Decode limit) input o p bytes h k = one_decode answers limit input o p h k
  outputs_are_one (Literal limit) input o p bytes h k = one_literal front one none limit input o p h k
  outputs_are_one Script input o p bytes h k = one_script plays input o p h k
  outputs_are_one _ input o p bytes h k = k ∙ sym h

some_script : EachIsPlayed → (input : List ℕ) → (o : Output) × IsScriptOutput input o
some_script played input = elim (script_or_fault input) [
  | inl h ↦
      let play = played h.0.commands h.0.buffer 0 h.1.0.0
      (All-weaker MayBeSpelled WritesBytes writes_bytes h.0.commands h.1.0.3) in
      (replies_output play.0 play.1 play.2, inl (h.0, play.0, play.1, play.2, h.1, play.3, refl))
  | inr k ↦ (refused (codes "refused at line " ++ decimal k.0), inr (k.0, k.1, refl))
]

some_decode : EachIsDecided → (m : ℕ) (t : List ℕ) → AreBytes t → (o : Output) × IsDecodeOutput m t o
some_decode decided m t bytes = elim (decided t m bytes) [
  | inl h ↦ (answered (codes "value " ++ hex h.0), inl (h.0, h.1, refl))
  | inr k ↦ (refused (codes "refused at " ++ decimal k.0), inr (k.0, k.1, refl))
]

some_refusal : (m : ℕ) (t : List ℕ) (e : LiteralError) → e ≢ OutOfMemory → IsRefused t m e
    → (o : Output) × IsLiteralOutput m t o
some_refusal m t Short other h = (refused (codes "refused short"), inr (inl (h, refl)))
some_refusal m t Length other h = (refused (codes "refused length"), inr (inr (inl (h, refl))))
some_refusal m t Value other h = (refused (codes "refused value"), inr (inr (inr (h, refl))))
some_refusal m t OutOfMemory other h = absurd (other refl)

some_literal : law.LiteralOrRefusal → (m : ℕ) (t : List ℕ) → AreBytes t → (o : Output) × IsLiteralOutput m t o
some_literal decided m t bytes = elim (decided t m bytes) [
  | inl h ↦ (literal_output h.1 (length t - h.0), inl (h.0, h.1, h.2, h.3, refl))
  | inr k ↦ some_refusal m t k.0 k.1 k.2
]

-- and at least one
module _ (decided : EachIsDecided) (literals : law.LiteralOrRefusal) (played : EachIsPlayed) where
  pub each_has_an_output : EachHasAnOutput
  each_has_an_output Packet input bytes = some_packet OneByte tells_byte input
  each_has_an_output Packet2 input bytes = some_packet ShortestVarint tells_shortest input
  each_has_an_output Encode input bytes = (encode_output (text input) input, refl)
  each_has_an_output EncodeLower input bytes = (encode_output (text (lower input)) input, refl)
  each_has_an_output (Decode limit) input bytes = some_decode decided limit input bytes
  each_has_an_output (Literal limit) input bytes = some_literal literals limit input bytes
  each_has_an_output Script input bytes = some_script played input
