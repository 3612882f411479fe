-- The two stores write the first bytes and the last bytes, and overlap.
use Rattle.std.proofs.Common.{length, take, refl, ap, ◌∙◌}
use Rattle.std.specs.Int.{to_le_bytes, w64}
use Rattle.octets.proofs.lemmas.TextBytes.{two_stores}
use Rattle.octets.proofs.huffman.encode.front.put_front.Goals as goal

pub returns-then-len-ge4 : goal.returns-then-len-ge4
returns-then-len-ge4 c =
    two_stores 4 (length c.args.to.now) (to_le_bytes w64 c.turned-bytes.result) c.args.to.now _ _ _ _ c.if-len-ge4.true
    c.requires.few c.requires.few refl c.four_bytes.ensures c.put_first.ensures c.four_bytes-then-len-ge4.ensures
    c.put_last.ensures
    ∙ ap (take (length c.args.to.now)) c.turned-bytes.ensures
