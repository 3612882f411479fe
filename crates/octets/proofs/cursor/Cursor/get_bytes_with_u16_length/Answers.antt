-- The number is incomplete, or it is read and then the bytes after it. Each case proves all clauses at once.
use Rattle.std.proofs.Common.{◌∙◌, ◌<◌, ◌≤◌, length, refl, IsErr, arith, rules}
use Rattle.octets.specs.Cursor.{rest}
use Rattle.octets.specs.Does.{Does}
use Rattle.octets.proofs.lemmas.Performs.{after_number, no_number, two_reads}
use Rattle.octets.proofs.cursor.Cursor.get_bytes_with_u16_length.Goals as goal

pub returns-in_err-len : goal.returns-in_err-len
unfolding Does
returns-in_err-len g c =
    let s = c.args.self.now in let r = c.from_residual.result in let err : IsErr r = search rules in
    let lacks : length (rest s) < 2 = grind arith in (
      (
        refl,
        (λ _. tt),
        (
          search rules,
          (λ has. absurd (omega (arith, lacks, has))),
          (λ _. c.in_err-len.ensures.refused),
        ),
      ),
      record {
        leaves = tt;
        fits = grind arith;
        view = search rules;
        performs = λ t at. let none = no_number s t r 2 err lacks (at.2 lacks) in ((none.0, none.1), none.2);
      },
    )

pub returns : goal.returns
unfolding Does
returns g c =
    let s = c.args.self.now in let run = c.get_bytes.ensures in let r = c.get_bytes.result in
    let has : 2 ≤ length (rest s) = grind arith in
    let two = two_reads s c.get_u16.new.self c.get_bytes.follows.lender-at-none r 2 _ _
    (c.from.ensures ∙ c.in_ok-len.ensures.value) c.in_ok-len.ensures.passes has run.fits run.view
    c.get_bytes.follows.holds-at-none in (
      (refl, (λ _. tt), (two.2, (λ _. two.3), (λ lacks. absurd (omega (arith, lacks, has))))),
      record {
        leaves = tt;
        fits = two.0;
        view = two.1;
        performs = λ t at. let told = after_number s t r 2 has two.0 two.1 at.0 (at.1 has) in
            ((told.0, told.1), told.2);
      },
    )
