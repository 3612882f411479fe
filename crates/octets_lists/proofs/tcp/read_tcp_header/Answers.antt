-- Each read begins where the one before it ended.
use Rattle.octets.proofs.CallerLemmas.{passes_more, reads_more, reads_rest}
use Rattle.octets_lists.proofs.tcp.read_tcp_header.Goals as goal

pub returns-clause-fields : goal.returns-clause-fields
returns-clause-fields c =
    let a = c.args.cursor.now in
    let one = c.in_ok-source.ensures.passes in
    let two = passes_more a c.get_u16.new.self c.get_u16-2.new.self 2 2 one c.in_ok-destination.ensures.passes in
    let three = passes_more a c.get_u16-2.new.self c.get_u32.new.self 4 4 two c.in_ok-sequence.ensures.passes in
    let four = passes_more a c.get_u32.new.self c.get_u32-2.new.self 8 4 three c.in_ok-acknowledgment.ensures.passes in
    let five = passes_more a c.get_u32-2.new.self c.get_u16-3.new.self 12 2 four
    c.in_ok-offset_and_flags.ensures.passes in
    let six = passes_more a c.get_u16-3.new.self c.get_u16-4.new.self 14 2 five c.in_ok-window.ensures.passes in
    let seven = passes_more a c.get_u16-4.new.self c.get_u16-5.new.self 16 2 six c.in_ok-checksum.ensures.passes in (
      c.in_ok-source.ensures.value,
      rw one.2 at c.in_ok-destination.ensures.value,
      rw two.2 at c.in_ok-sequence.ensures.value,
      rw three.2 at c.in_ok-acknowledgment.ensures.value,
      rw four.2 at c.in_ok-offset_and_flags.ensures.value,
      rw five.2 at c.in_ok-window.ensures.value,
      rw six.2 at c.in_ok-checksum.ensures.value,
      rw seven.2 at c.in_ok-urgent.ensures.value,
    )

pub returns-clause-passes : goal.returns-clause-passes
returns-clause-passes c =
    let a = c.args.cursor.now in
    let one = c.in_ok-source.ensures.passes in
    let two = passes_more a c.get_u16.new.self c.get_u16-2.new.self 2 2 one c.in_ok-destination.ensures.passes in
    let three = passes_more a c.get_u16-2.new.self c.get_u32.new.self 4 4 two c.in_ok-sequence.ensures.passes in
    let four = passes_more a c.get_u32.new.self c.get_u32-2.new.self 8 4 three c.in_ok-acknowledgment.ensures.passes in
    let five = passes_more a c.get_u32-2.new.self c.get_u16-3.new.self 12 2 four
    c.in_ok-offset_and_flags.ensures.passes in
    let six = passes_more a c.get_u16-3.new.self c.get_u16-4.new.self 14 2 five c.in_ok-window.ensures.passes in
    let seven = passes_more a c.get_u16-4.new.self c.get_u16-5.new.self 16 2 six c.in_ok-checksum.ensures.passes in
    passes_more a c.get_u16-5.new.self c.get_u16-6.new.self 18 2 seven c.in_ok-urgent.ensures.passes

pub returns-clause-spelled : goal.returns-clause-spelled
returns-clause-spelled c =
    let a = c.args.cursor.now in
    let one = c.in_ok-source.ensures.spelled in
    let two = reads_more a _ c.get_u16-2.new.self _ _ one c.in_ok-destination.ensures.spelled in
    let three = reads_more a _ c.get_u32.new.self _ _ two c.in_ok-sequence.ensures.spelled in
    let four = reads_more a _ c.get_u32-2.new.self _ _ three c.in_ok-acknowledgment.ensures.spelled in
    let five = reads_more a _ c.get_u16-3.new.self _ _ four c.in_ok-offset_and_flags.ensures.spelled in
    let six = reads_more a _ c.get_u16-4.new.self _ _ five c.in_ok-window.ensures.spelled in
    let seven = reads_more a _ c.get_u16-5.new.self _ _ six c.in_ok-checksum.ensures.spelled in
    let eight = reads_more a _ c.get_u16-6.new.self _ _ seven c.in_ok-urgent.ensures.spelled in
    reads_rest a c.get_u16-6.new.self _ eight
