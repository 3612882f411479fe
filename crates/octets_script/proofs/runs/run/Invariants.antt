-- The commands so far were performed, and the replies to the others fit into the list.
use Rattle.std.proofs.Common.{◌≡◌, length, take, map}
use Rattle.std.specs.Prelude.{vec_len, vec_capacity}
use Rattle.octets.specs.Cursor.{bytes, position}
use Rattle.octets.specs.Slices.{reference}
use Rattle.octets_script.specs.Calls.{call_of, answer_of}
use Rattle.octets_script.specs.Plays.{Plays}
use Rattle.octets_script.proofs.runs.run.Given as goal

abbrev pub invariant-loop-done : goal.invariant-loop-done
invariant-loop-done l = record {
  played : Plays (map call_of (take l.done l.commands)) (bytes l.fn.cursor) (position l.fn.cursor)
      (map answer_of l.replies.items) (bytes l.cursor) (position l.cursor);
  same_reference : reference l.cursor ≡ reference l.fn.cursor;
  count : vec_len l.replies ≡ l.done;
  room : vec_capacity l.replies ≡ length l.commands;
}
