use Rattle.octets.specs.Encodes.{cased}
use Rattle.octets_literal.specs.Literals.{canon}
use Rattle.octets_literal.proofs.Putting.{puts_by, puts_done, puts_front, puts_less, puts_then}
use Rattle.octets_lists.proofs.FieldSinks.{marked_then, unmarked, told, told_error}
use Rattle.octets_lists.proofs.header_field.put_field.Goals as goal

pub returns-in_err-put_bytes-clause-err : goal.returns-in_err-put_bytes-clause-err
returns-in_err-put_bytes-clause-err g c =
    let W = g.W.OctetsWriter in let e = c.in_err-put_bytes.ensures in
    let first = puts_front W.written W.room W.whole _ _ _ _ e.err.1 e.fits e.capacity e.same_kind in
    (told_error W.written W.room W.whole _ _ c.from_residual.result _ c.from_residual.ensures.0
    (unmarked W.written W.room W.whole c.args.indexing _ _ _ c.mark_of.ensures first)).0

pub returns-in_err-put_bytes-clause-fits : goal.returns-in_err-put_bytes-clause-fits
returns-in_err-put_bytes-clause-fits g c =
    let W = g.W.OctetsWriter in let e = c.in_err-put_bytes.ensures in
    let first = puts_front W.written W.room W.whole _ _ _ _ e.err.1 e.fits e.capacity e.same_kind in
    (told_error W.written W.room W.whole _ _ c.from_residual.result _ c.from_residual.ensures.0
    (unmarked W.written W.room W.whole c.args.indexing _ _ _ c.mark_of.ensures first)).1

pub returns-in_err-put_string-clause-err : goal.returns-in_err-put_string-clause-err
unfolding cased
returns-in_err-put_string-clause-err g c =
    let W = g.W.OctetsWriter in let a = c.in_ok-put_bytes.ensures in let e = c.in_err-put_string.ensures in
    let first = puts_done W.written W.room W.whole _ _ _ a.ok a.fits a.capacity a.same_kind in
    let name = puts_front W.written W.room W.whole _ _ _ _ e.err.1 e.fits e.capacity e.same_kind in
    let both = puts_less W.written W.room W.whole _ _ _ (canon c.args.value.now) name in
    (told_error W.written W.room W.whole _ _ c.from_residual-in_err-put_string.result _
    c.from_residual-in_err-put_string.ensures.0
    (marked_then W.written W.room W.whole c.args.indexing _ _ _ _ _ c.mark_of.ensures first both)).0

pub returns-in_err-put_string-clause-fits : goal.returns-in_err-put_string-clause-fits
unfolding cased
returns-in_err-put_string-clause-fits g c =
    let W = g.W.OctetsWriter in let a = c.in_ok-put_bytes.ensures in let e = c.in_err-put_string.ensures in
    let first = puts_done W.written W.room W.whole _ _ _ a.ok a.fits a.capacity a.same_kind in
    let name = puts_front W.written W.room W.whole _ _ _ _ e.err.1 e.fits e.capacity e.same_kind in
    let both = puts_less W.written W.room W.whole _ _ _ (canon c.args.value.now) name in
    (told_error W.written W.room W.whole _ _ c.from_residual-in_err-put_string.result _
    c.from_residual-in_err-put_string.ensures.0
    (marked_then W.written W.room W.whole c.args.indexing _ _ _ _ _ c.mark_of.ensures first both)).1

pub returns-clause-ok : goal.returns-clause-ok
unfolding cased
returns-clause-ok g c =
    let W = g.W.OctetsWriter in let a = c.in_ok-put_bytes.ensures in let b = c.in_ok-put_string.ensures in
    let first = puts_done W.written W.room W.whole _ _ _ a.ok a.fits a.capacity a.same_kind in
    let name = puts_done W.written W.room W.whole _ _ _ b.ok b.fits b.capacity b.same_kind in
    let e = c.put_string-2.ensures in let r = c.put_string-2.result in
    let value = puts_by W.written W.room W.whole _ _ r _ e.ok e.err e.fits e.capacity e.same_kind in
    (told W.written W.room W.whole _ _ r _
    (marked_then W.written W.room W.whole c.args.indexing _ _ _ _ _ c.mark_of.ensures first
    (puts_then W.written W.room W.whole _ _ _ _ _ _ name value))).0

pub returns-clause-err : goal.returns-clause-err
unfolding cased
returns-clause-err g c =
    let W = g.W.OctetsWriter in let a = c.in_ok-put_bytes.ensures in let b = c.in_ok-put_string.ensures in
    let first = puts_done W.written W.room W.whole _ _ _ a.ok a.fits a.capacity a.same_kind in
    let name = puts_done W.written W.room W.whole _ _ _ b.ok b.fits b.capacity b.same_kind in
    let e = c.put_string-2.ensures in let r = c.put_string-2.result in
    let value = puts_by W.written W.room W.whole _ _ r _ e.ok e.err e.fits e.capacity e.same_kind in
    (told W.written W.room W.whole _ _ r _
    (marked_then W.written W.room W.whole c.args.indexing _ _ _ _ _ c.mark_of.ensures first
    (puts_then W.written W.room W.whole _ _ _ _ _ _ name value))).1

pub returns-clause-fits : goal.returns-clause-fits
unfolding cased
returns-clause-fits g c =
    let W = g.W.OctetsWriter in let a = c.in_ok-put_bytes.ensures in let b = c.in_ok-put_string.ensures in
    let first = puts_done W.written W.room W.whole _ _ _ a.ok a.fits a.capacity a.same_kind in
    let name = puts_done W.written W.room W.whole _ _ _ b.ok b.fits b.capacity b.same_kind in
    let e = c.put_string-2.ensures in let r = c.put_string-2.result in
    let value = puts_by W.written W.room W.whole _ _ r _ e.ok e.err e.fits e.capacity e.same_kind in
    (told W.written W.room W.whole _ _ r _
    (marked_then W.written W.room W.whole c.args.indexing _ _ _ _ _ c.mark_of.ensures first
    (puts_then W.written W.room W.whole _ _ _ _ _ _ name value))).2
