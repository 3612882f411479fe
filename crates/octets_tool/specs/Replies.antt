-- The lines of replies.
use Rattle.std.specs.Prelude.{List, ℕ, ◌++◌, codes}
use Rattle.std.specs.Fmt.{decimal}
use Rattle.octets_script.specs.Calls.{Answer, Done, Number, Bytes, Two, Short, Overlong}
use Rattle.octets_tool.specs.Lines.{hex, line}

-- the line of a reply, without its line feed
abbrev pub reply_line : Answer → List ℕ
reply_line Done = codes "done"
reply_line (Number n) = codes "number " ++ decimal n
reply_line (Bytes b) = codes "bytes " ++ hex b
reply_line (Two l r) = codes "two " ++ hex l ++ codes " " ++ hex r
reply_line Short = codes "short"
reply_line Overlong = codes "overlong"

-- the line of a reply, with its line feed
abbrev pub ended_line : Answer → List ℕ
ended_line r = line (reply_line r)
