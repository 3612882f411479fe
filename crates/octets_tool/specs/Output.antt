-- What each task writes for an input, and with which status.
use Rattle.std.specs.Prelude.{◌≡◌, ◌⊎◌, List, ℕ, ◌-◌, ◌≤◌, nat_le, if◌then◌else◌}
use Rattle.std.specs.Prelude.{◌++◌, codes, length, flat_map, Result, Ok, Err}
use Rattle.std.specs.Fmt.{decimal}
use Rattle.std.specs.String.{string_bytes}
use Rattle.octets_code.specs.Answers.{IsAnswer, IsRefusal}
use Rattle.octets_code.specs.Texts.{text, lower}
use Rattle.octets_literal.specs.Faults.{IsRefused}
use Rattle.octets_literal.specs.Literals.{BeginsLiteral, canon}
use Rattle.octets_literal.specs.declared.error.LiteralError.TheVariants.{Short, Length, Value}
use Rattle.octets_script.specs.Calls.{Answer}
use Rattle.octets_script.specs.Plays.{Plays}
use Rattle.octets_tool.specs.declared.arguments.Task.{Task}
use Rattle.octets_tool.specs.declared.arguments.Task.TheVariants.{Packet, Packet2, Encode, EncodeLower}
use Rattle.octets_tool.specs.declared.arguments.Task.TheVariants.{Decode, Literal, Script}
use Rattle.octets_tool.specs.declared.output.Output as code
use Rattle.octets_tool.specs.declared.output.Status.{Status}
use Rattle.octets_tool.specs.declared.output.Status.TheVariants.{Answered, Refused}
use Rattle.octets_tool.specs.declared.packet.PacketFault.{PacketFault}
use Rattle.octets_tool.specs.declared.packet.PacketFault.TheVariants as fault
use Rattle.octets_tool.specs.Lines.{hex, line}
use Rattle.octets_tool.specs.Packets.{PacketFields, IsResultOf, OneByte, ShortestVarint}
use Rattle.octets_tool.specs.Replies.{ended_line}
use Rattle.octets_tool.specs.Scripts.{ScriptText, IsScript, IsFaultLine}

-- the text that a task writes, and its status
pub record Output : Type 0 where
  pub text : List ℕ
  pub status : Status

-- an output of the program, with its text as a list of bytes
abbrev pub shown : code.Output → Output
shown output = record { text = string_bytes output.text; status = output.status }

-- the output of a task that succeeded: one line
abbrev pub answered : List ℕ → Output
answered text = record { text = line text; status = Answered }

-- the output of a task that refused the input: one line that says where or why
abbrev pub refused : List ℕ → Output
refused text = record { text = line text; status = Refused }

-- the fields of a packet, or the offset at which its read failed, or how many bytes follow it
abbrev pub packet_output : Result PacketFields PacketFault → Output
packet_output (Ok fields) = answered (codes "kind " ++ decimal fields.kind ++ codes " number " ++ decimal fields.number
    ++ codes " payload " ++ hex fields.payload)
packet_output (Err (fault.Refused offset)) = refused (codes "refused at " ++ decimal offset)
packet_output (Err (fault.Trailing count)) = refused (codes "trailing " ++ decimal count)

-- the output for an input that is read as a packet with this form of kind
abbrev pub IsPacketOutput : (List ℕ → ℕ → Type 0) → List ℕ → Output → Type 0
IsPacketOutput Kind input output = (r : Result PacketFields PacketFault) × IsResultOf Kind input r
    × (output ≡ packet_output r)

-- the text t of the value v, and its length if that is at most the length of v
abbrev pub encode_output : List ℕ → List ℕ → Output
encode_output t v =
    answered (codes "text " ++ hex t
    ++ (if nat_le (length t) (length v) then codes " len " ++ decimal (length t) else codes " longer"))

-- the value of the text t, if it is within the limit, or how many bytes a decode that fails has passed
abbrev pub IsDecodeOutput : ℕ → List ℕ → Output → Type 0
IsDecodeOutput limit t output =
    ((v : List ℕ) × IsAnswer t limit v × (output ≡ answered (codes "value " ++ hex v)))
    ⊎ ((n : ℕ) × IsRefusal t limit n × (output ≡ refused (codes "refused at " ++ decimal n)))

-- the value v of a literal, the number n of bytes that follow the literal, and the literal that is written for v
abbrev pub literal_output : List ℕ → ℕ → Output
literal_output v n =
    answered (codes "value " ++ hex v ++ codes " rest " ++ decimal n ++ codes " canon " ++ hex (canon v))

-- the value of the literal with which t begins, if it is within the limit, or why the read fails
abbrev pub IsLiteralOutput : ℕ → List ℕ → Output → Type 0
IsLiteralOutput limit t output =
    ((k : ℕ) × (v : List ℕ) × BeginsLiteral t k v × (length v ≤ limit) × (output ≡ literal_output v (length t - k)))
    ⊎ ((IsRefused t limit Short × (output ≡ refused (codes "refused short")))
    ⊎ ((IsRefused t limit Length × (output ≡ refused (codes "refused length")))
    ⊎ (IsRefused t limit Value × (output ≡ refused (codes "refused value")))))

-- a line for each reply, and then the buffer and the offset
abbrev pub replies_output : List Answer → List ℕ → ℕ → Output
replies_output rs l p =
    record {
      text = flat_map ended_line rs ++ line (codes "buffer " ++ hex l ++ codes " off " ++ decimal p);
      status = Answered;
    }

-- the replies to the calls of the script on a cursor at the start of the buffer, and what they leave; or the first
-- line that breaks a rule
abbrev pub IsScriptOutput : List ℕ → Output → Type 0
IsScriptOutput input output =
    ((s : ScriptText) × (rs : List Answer) × (l : List ℕ) × (p : ℕ) × IsScript input s
    × Plays s.commands s.buffer 0 rs l p × (output ≡ replies_output rs l p))
    ⊎ ((n : ℕ) × IsFaultLine input n × (output ≡ refused (codes "refused at line " ++ decimal n)))

-- the task's output for the input
abbrev pub IsOutput : Task → List ℕ → Output → Type 0
IsOutput Packet input output = IsPacketOutput OneByte input output
IsOutput Packet2 input output = IsPacketOutput ShortestVarint input output
IsOutput Encode input output = output ≡ encode_output (text input) input
IsOutput EncodeLower input output = output ≡ encode_output (text (lower input)) input
IsOutput (Decode limit) input output = IsDecodeOutput limit input output
IsOutput (Literal limit) input output = IsLiteralOutput limit input output
IsOutput Script input output = IsScriptOutput input output
