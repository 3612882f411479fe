-- The bits that were read are complete codes, and the window begins after them. A group of codes is
-- written at once. Every code has at least five bits, so the store is large enough.
use Rattle.std.proofs.Common.{◌≡◌, ◌+◌, ◌*◌, ◌<◌, ◌≤◌, ◌++◌, length, take, ap, arith, length-append, length-take, ◌∙◌}
use Rattle.std.proofs.lemmas.List.Elements.{All-append}
use Rattle.octets.specs.Windows.{low_bytes}
use Rattle.octets.proofs.lemmas.FirstCodes.{window_begins}
use Rattle.octets.proofs.lemmas.Groups.{cut_none, cut_on, cut_few, low_bytes-bytes, length-low_bytes}
use Rattle.octets.proofs.lemmas.Fronts.{ones_left}
use Rattle.octets.proofs.lemmas.ShortTexts.{shown_cut}
use Rattle.octets.proofs.huffman.decode.window_loop.read_whole.Goals as goal

pub returns-then-text-clause-cut : goal.returns-then-text-clause-cut
returns-then-text-clause-cut g c = cut_none c.args.text.now _ c.requires.empty

pub put_first-requires : goal.put_first-requires
put_first-requires g c =
    let f = c.look_through-found.result in let s = c.look_through-found.ensures in
    let v = take f.count c.look_through-found.new.value in
    let cut = (shown_cut c.args.text.now v c.first_window-window.result 8 f.at f.count f.inverse c.if-text-le8.true
    c.first_window-window.ensures s c.if-found-total.true).0 in
    let few = cut_few c.args.text.now v f.at cut s.bytes c.if-found-total.true in
    omega (
      arith,
      c.requires.room,
      c.if-found-max_len.true,
      few,
      c.if-found-total.true,
      ap length c.requires.empty,
      length-take f.count c.look_through-found.new.value,
    )

pub returns-clause-filled : goal.returns-clause-filled
returns-clause-filled g c = grind (arith, ones_left)

pub groups-init : goal.groups-init
groups-init g c = elim c.if-text-le8.branch [
  | goal.then-text-le8+then-found-gt0+then-found-total+then-found-max_len w ↦
      let f = w.look_through-found.result in let s = w.look_through-found.ensures in
      let v = take f.count w.look_through-found.new.value in
      let both = shown_cut c.args.text.now v c.first_window-window.result 8 f.at f.count f.inverse w.if-text-le8.true
      c.first_window-window.ensures s w.if-found-total.true in
      let held = g.met.S.Store.held_after _ _ _ w.put_first.ensures ∙ ap (λ l. l ++ v) c.requires.empty in
      rw (w.at-is, w.window-is, w.value-is) (record {
        inside = w.if-found-total.true;
        window = both.1;
        cut = rw held both.0;
        bytes = rw held s.bytes;
        within = omega (
          arith,
          ap length held,
          length-take f.count w.look_through-found.new.value,
          w.if-found-max_len.true,
        );
        room = let same = g.met.S.Store.room_after _ _ _ w.put_first.ensures in omega (arith, c.requires.room, same);
        added = rw held w.put_first.ensures;
      })
  | goal.then-text-le8+else-found-gt0 w ↦ grind (arith, cut_none)
  | goal.else-text-le8 w ↦ grind (arith, cut_none)
]

pub put_word-requires-clause-room : goal.put_word-requires-clause-room
put_word-requires-clause-room g c =
    let i = c.groups.invariant in let e = c.in-Some.ensures in let k = c.in-Some.codes in
    let v = g.S.Store.held c.groups.value in let b = low_bytes k.count k.bytes in
    let fit : c.groups.at + k.len ≤ 8 * length c.args.text.now = omega (arith, e.within, i.inside) in
    let few : 5 * length (v ++ b) ≤ c.groups.at + k.len =
    cut_few c.args.text.now (v ++ b) (c.groups.at + k.len)
    (cut_on c.args.text.now v c.groups.at c.groups.window k.len k.count k.bytes fit i.window e.group i.cut)
    (All-append (λ z. z < 256) v b i.bytes (low_bytes-bytes k.count k.bytes)) fit in
    omega
    (arith, i.room, i.within, e.within, c.count.ensures, few, fit, length-append v b, length-low_bytes k.count k.bytes)

pub groups-preserved : goal.groups-preserved
groups-preserved g c =
    let i = c.groups.invariant in let e = c.in-Some.ensures in let k = c.in-Some.codes in
    let v = g.S.Store.held c.groups.value in let b = low_bytes k.count k.bytes in
    let fit : c.groups.at + k.len ≤ 8 * length c.args.text.now = omega (arith, e.within, i.inside) in
    let held : g.S.Store.held c.put_word.new.self ≡ v ++ b = g.met.S.Store.held_after _ _ _ c.put_word.ensures in
    record {
      inside = fit;
      window = c.next_window-window.ensures c.args.text.now c.groups.at i.window c.bits_behind-next.ensures;
      cut = rw held
          (cut_on c.args.text.now v c.groups.at c.groups.window k.len k.count k.bytes fit i.window e.group i.cut);
      bytes = rw held (All-append (λ z. z < 256) v b i.bytes (low_bytes-bytes k.count k.bytes));
      within = omega (
        arith,
        ap length held,
        length-append v b,
        length-low_bytes k.count k.bytes,
        e.within,
        i.within,
        c.count.ensures,
      );
      room = let same = g.met.S.Store.room_after _ _ _ c.put_word.ensures in omega (arith, i.room, same);
      added = rw held (g.met.S.Store.adds_more _ _ _ _ _ i.added c.put_word.ensures);
    }

pub returns-in_default-clause-stopped : goal.returns-in_default-clause-stopped
returns-in_default-clause-stopped g c = λ _ _ few b.
    let i = c.groups.invariant in
    c.in_default.ensures.none (omega (arith, few, c.count.ensures))
    (window_begins c.args.text.now c.groups.at c.groups.window 30 i.inside i.window b)
