-- The text of a value, as a function.
use Rattle.std.proofs.Common.{◌≡◌, ℕ, List, subst}
use Rattle.octets_code.specs.Texts.{codes, AreBytes, IsText, text}
use Rattle.octets_code.proofs.TextLemmas.{same_text, texts_apart, are_bytes}
use Rattle.octets_code.specs.Laws.{EachHasOneText, CutIsText}
use Rattle.octets_code.proofs.BytesOf.{filled_up}

-- text v is a text of v
pub text_is_text : (v : List ℕ) → IsText v (text v)
unfolding text
text_is_text v = filled_up (codes v)

-- a text is the text
pub text_from : (v t : List ℕ) → IsText v t → t ≡ text v
text_from v t h = same_text v t (text v) h (text_is_text v)

-- a value has a text, and no second one
pub each_has_one_text : EachHasOneText
each_has_one_text v hv = (text v, text_is_text v, λ u h. text_from v u h)

-- two values whose texts are the same are one
pub text_injective : (v w : List ℕ) → AreBytes v → AreBytes w → text v ≡ text w → v ≡ w
text_injective v w hv hw e =
    texts_apart v w (text w) hv hw (subst (λ t. IsText v t) e (text_is_text v)) (text_is_text w)

-- bytes that are cut into bytes and 0 to 7 ones are their text
pub cut_is_text : CutIsText
cut_is_text t s n ht hn c other =
    let bytes = are_bytes s c.0 other in
    (bytes, text_from s t (ht, (n, hn, c.1.0)))

-- a text is bytes
pub text-bytes : (v : List ℕ) → AreBytes (text v)
text-bytes v = (text_is_text v).0
