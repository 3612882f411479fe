-- What the `Vec` holds after the loan is the splice, whatever was written.
use Rattle.std.proofs.Common.{◌≡◌, ◌+◌, ◌-◌, ◌++◌, refl, ap, arith, ◌∙◌, take, drop, length}
use Rattle.octets.specs.Bytes.{splice, part}
use Rattle.octets.proofs.CallerLemmas.{splice_refilled}
use Rattle.octets_vectors.proofs.owned.DatagramBuffer.part_mut.Goals as goal

pub returns : goal.returns
returns c =
    let v = c.self.inside.payload in
    let from = c.args.from in
    let n : from + c.args.len - from ≡ c.args.len = omega arith in (
      (
        refl,
        λ w.
            let front = take from v.items ++ (w ++ drop (length w) (drop from v.items)) in
            ap (λ n. take n (front ++ drop (length front) v.items)) v.ok.0
            ∙ splice_refilled v.items from w (drop (length front) v.items)
            ∙ ap (λ l. splice l from w) c.self.view_is,
      ),
      record {
        writes_back = tt;
        shows = c.slice_mut.ensures.value ∙ ap (λ n. take n (drop from v.items)) n
            ∙ ap (λ l. part l from c.args.len) c.self.view_is;
      },
    )
