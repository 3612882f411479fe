-- The loop reads one byte after another. Each byte adds its two halves to what was read.
use Rattle.std.proofs.lemmas.Grind.{common_steps}
use Rattle.std.proofs.Common.{◌≡◌, ℕ, List, ◌<◌, ◌+◌, ◌-◌, ◌≤◌, length, take, drop, get_or, arith}
use Rattle.octets.proofs.lemmas.TextsRead.{read_more, refused_at}
use Rattle.octets.proofs.huffman.decode.reading.read_part.Goals as goal

-- a byte of a part is one of the text
at_part : (t : List ℕ) (from to i : ℕ) → to ≤ length t → i < length (take (to - from) (drop from t))
    → (from + i < length t) × (get_or (take (to - from) (drop from t)) i 0 ≡ get_or t (from + i) 0)
at_part t from to i h k = grind (arith, common_steps)

pub loop-i-init : goal.loop-i-init
loop-i-init g c = grind arith

pub loop-i-preserved : goal.loop-i-preserved
loop-i-preserved g c =
    let i = c.loop-i.invariant in let b =
    at_part c.args.text.now c.args.from _ c.loop-i.i (omega arith) c.loop-i-test.true in record {
      read = let e : c.args.from + (c.loop-i.i + 1) ≡ c.args.from + c.loop-i.i + 1 = omega arith in
          rw e (read_more c.args.text.now _ c.args.max_len _ _ _ _ b.0 i.read
          (rw b.1 at c.in-Some.ensures.read));
      few = omega arith;
      room = grind arith;
      counted = grind arith;
      added = (_, g.met.S.Store.adds_more _ _ _ _ _ i.added.1 c.in-Some.ensures.added.1);
    }

pub returns-in-None-clause-refused : goal.returns-in-None-clause-refused
returns-in-None-clause-refused g c =
    let b = at_part c.args.text.now c.args.from _ c.loop-i.i (omega arith) c.loop-i-test.true in
    (refused_at c.args.text.now _ c.args.max_len _ _ _ _ b.0 c.loop-i.invariant.read
    (rw b.1 at c.in-None.ensures.read).1).0

pub returns-in-None-clause-counted : goal.returns-in-None-clause-counted
returns-in-None-clause-counted g c =
    let b = at_part c.args.text.now c.args.from _ c.loop-i.i (omega arith) c.loop-i-test.true in
    let n = rw b.1 at c.in-None.ensures.read in (
      _,
      (refused_at c.args.text.now _ c.args.max_len n.0 _ _ _ b.0 c.loop-i.invariant.read
          n.1).1,
      omega arith,
    )

pub returns-in-None-clause-behind : goal.returns-in-None-clause-behind
returns-in-None-clause-behind g c =
    let b = at_part c.args.text.now c.args.from _ c.loop-i.i (omega arith) c.loop-i-test.true in
    (refused_at c.args.text.now _ c.args.max_len _ _ _ _ b.0 c.loop-i.invariant.read
    (rw b.1 at c.in-None.ensures.read).1).2

pub returns-in-None-clause-few : goal.returns-in-None-clause-few
returns-in-None-clause-few g c = grind (arith, at_part)

pub returns-in-None-clause-added : goal.returns-in-None-clause-added
returns-in-None-clause-added g c =
    (_, g.met.S.Store.adds_more _ _ _ _ _ c.loop-i.invariant.added.1 c.in-None.ensures.added.1)

pub returns-clause-read : goal.returns-clause-read
returns-clause-read g c = grind (arith, common_steps)
