use Rattle.std.proofs.Common.{◌≡◌, ℕ, List, ◌≤◌, take, drop, length, ◌∙◌, ap, arith}
use Rattle.std.proofs.lemmas.Grind.{common_steps}
use Rattle.std.specs.Int.{to_be_bytes, w64}
use Rattle.octets.specs.Bytes.{part}
use Rattle.octets.specs.Cursor.{bytes, position, rest}
use Rattle.octets.proofs.lemmas.Writes.{is_write}
use Rattle.octets.proofs.cursor.writable.cursor_target.CursorTarget.put_at_once.Goals as goal

length-part : (l : List ℕ) (i n : ℕ) → n ≤ length (drop i l) → length (part l i n) ≡ n
length-part l i n h = grind (arith, common_steps)

pub returns-clause-all : goal.returns-clause-all
returns-clause-all g c = λ _. let w = take c.args.len (to_be_bytes w64 c.args.word) in
    let long : length w ≡ c.args.len = grind (arith, common_steps) in
    let fits : c.args.len ≤ length (rest c.args.self.now) =
    omega (arith, c.if-cap-len.false, c.cap.ensures.remaining) in
    let lent : length c.part_mut.result.now ≡ c.args.len =
    ap length c.part_mut.ensures.shows
    ∙ length-part (bytes c.args.self.now) (position c.args.self.now) c.args.len fits in
    let written : c.put_front.new.to ≡ w = c.put_front.ensures ∙ ap (λ n. take n (to_be_bytes w64 c.args.word)) lent in
    is_write c.args.self.now _ w (omega arith) (omega arith) (cc (written))
