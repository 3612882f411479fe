use Rattle.std.proofs.Common.{◌≡◌, take, map, flat_map}
use Rattle.std.specs.String.{string_bytes}
use Rattle.octets_script.specs.Calls.{answer_of}
use Rattle.octets_tool.specs.Replies.{ended_line}
use Rattle.octets_tool.proofs.commands.script_command.lines_of.Given as goal

abbrev pub invariant-loop-reply : goal.invariant-loop-reply
invariant-loop-reply l = string_bytes l.lines ≡ flat_map ended_line (map answer_of (take l.reply-index l.replies))
