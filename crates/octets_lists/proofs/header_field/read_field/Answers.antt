-- The cursor peeks, and is then after the first byte, the name and the value.
use Rattle.std.proofs.Common.{◌+◌, refl, sym, ◌∙◌}
use Rattle.octets.proofs.CallerLemmas.{passes_more}
use Rattle.octets_lists.specs.HeaderFields.{no_name, no_value}
use Rattle.octets_lists.proofs.Fields.{past_mark, past_name}
use Rattle.octets_lists.proofs.Passing.{stays, if_err}
use Rattle.octets_lists.proofs.header_field.read_field.Goals as goal

pub returns-in_err-name-clause-refused : goal.returns-in_err-name-clause-refused
returns-in_err-name-clause-refused c =
    let start = c.args.cursor.now in
    let peek = c.in_ok-peek_u8.ensures in
    let name = c.in_err-name.ensures in
    let one = past_mark start c.peek_u8.new.self c.skip.new.self peek.stays c.in_ok-skip.ensures.passes in
    let there = rw one.2 at name.refused in
    let refused = no_name c.in_ok-indexing.indexing
    (peek.fits.0 refl, sym peek.value ∙ c.in_ok-indexing.ensures.marked) there in
    if_err _ _ c.from_residual-in_err-name.result c.from_residual-in_err-name.ensures.1
    (1, refused, stays start c.skip.new.self c.get_string.new.cursor 1 one name.unchanged)

pub returns-in_err-value-clause-refused : goal.returns-in_err-value-clause-refused
returns-in_err-value-clause-refused c =
    let start = c.args.cursor.now in
    let peek = c.in_ok-peek_u8.ensures in
    let name = c.in_ok-name.ensures.value in
    let value = c.in_err-value.ensures in
    let at = past_name start c.skip.new.self c.get_string.new.cursor c.in_ok-indexing.indexing _ _
    (peek.fits.0 refl, sym peek.value ∙ c.in_ok-indexing.ensures.marked)
    (past_mark start c.peek_u8.new.self c.skip.new.self peek.stays c.in_ok-skip.ensures.passes) name.1 name.3 in
    let there = rw at.behind at value.refused in
    let refused = no_value _ _ _ at.is_marked at.is_name
    c.in_ok-name.ensures.within there in
    if_err _ _ c.from_residual-in_err-value.result c.from_residual-in_err-value.ensures.1 (
      1 + name.0,
      refused,
      stays start c.get_string.new.cursor c.get_string-2.new.cursor
          (1 + name.0) at.passes value.unchanged,
    )

pub returns-clause-field : goal.returns-clause-field
returns-clause-field c =
    let start = c.args.cursor.now in
    let peek = c.in_ok-peek_u8.ensures in
    let name = c.in_ok-name.ensures.value in
    let value = c.in_ok-value.ensures.value in
    let at = past_name start c.skip.new.self c.get_string.new.cursor c.in_ok-indexing.indexing _ _
    (peek.fits.0 refl, sym peek.value ∙ c.in_ok-indexing.ensures.marked)
    (past_mark start c.peek_u8.new.self c.skip.new.self peek.stays c.in_ok-skip.ensures.passes) name.1 name.3 in (
      1 + name.0 + value.0,
      record {
        name_width = name.0;
        value_width = value.0;
        is_marked = at.is_marked;
        is_name = at.is_name;
        is_value = rw at.behind at value.1;
        takes = refl;
      },
      passes_more start c.get_string.new.cursor c.get_string-2.new.cursor (1 + name.0) value.0 at.passes value.3,
    )
