-- There are three cases: the length is incomplete, its bytes are, or neither is. Each case proves all clauses at once.
use Rattle.std.proofs.Common.{refl, arith, rules}
use Rattle.octets.proofs.lemmas.Outcomes.{on_err, none_prefixed, not_prefixed, err_iff, prefixed_by_varint}
use Rattle.octets.proofs.lemmas.Outcomes.{short_of_varint}
use Rattle.octets.proofs.lemmas.Performs.{after_varint, short_after_varint, no_varint}
use Rattle.octets.specs.Cursor.{rest}
use Rattle.octets.specs.Varints.LacksPrefixed.{no_length, no_bytes}
use Rattle.octets.proofs.cursor.Cursor.get_bytes_with_varint_length.Goals as goal

pub returns-in_err-len : goal.returns-in_err-len
returns-in_err-len g c =
    let none = c.in_err-len.ensures.none in let r = c.from_residual.result in
    let fits = none_prefixed r (rest c.args.self.now) (search rules) none in (
      (refl, (λ _. tt), ((λ w n v. absurd (none w n v)), (λ _. c.in_err-len.ensures.refused))),
      record {
        leaves = tt;
        fits = fits;
        one = (λ w n v. absurd (none w n v));
        view = search rules;
        refused = on_err r (no_length none);
        performs = λ t at. no_varint c.args.self.now t r (search rules) none (at.1 none);
      },
    )

pub returns-then-len-cap : goal.returns-then-len-cap
returns-then-len-cap g c =
    let n = c.in_ok-len.len in let read = c.in_ok-len.ensures.value in
    let short = short_of_varint c.args.self.now c.get_varint.new.self read.0 n read.1 read.2 (grind arith) in
    let lacking = (short read.0 n read.1).0 in
    let fits = err_iff (not_prefixed (rest c.args.self.now) read.0 n read.1 lacking) in (
      (refl, (λ _. tt), ((λ w n v. (tt, (short w n v).1)), (λ none. absurd (none read.0 n read.1)))),
      record {
        leaves = tt;
        fits = fits;
        one = (λ w n v. (err_iff (λ k. omega (arith, (short w n v).0)), tt));
        view = tt;
        refused = no_bytes _ _ read.1 lacking;
        performs = λ t at. short_after_varint c.args.self.now t read.0 n read.1 lacking (at.0 read.0 n read.1).1;
      },
    )

pub returns : goal.returns
returns g c =
    let read = c.in_ok-len.ensures.value in let view = c.get_bytes.ensures in
    let p = prefixed_by_varint c.args.self.now c.get_varint.new.self c.get_bytes.follows.lender-at-none
    c.get_bytes.result read.0 c.in_ok-len.len
    read.1 read.2 (grind arith) view.fits view.view c.get_bytes.follows.holds-at-none in
    let one = p.4 read.0 c.in_ok-len.len read.1 in (
      (refl, (λ _. tt), p.0),
      record {
        leaves = tt;
        fits = p.1;
        one = p.4;
        view = p.2;
        refused = p.3;
        performs = λ t at. after_varint c.args.self.now t c.get_bytes.result read.0 c.in_ok-len.len read.1 one.0 one.1
            (at.0 read.0 c.in_ok-len.len read.1);
      },
    )
