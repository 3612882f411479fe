-- The lemmas on the code that this crate uses: on its bits, and on what a decoder returns for a text.
pub use Rattle.octets_code.proofs.BitLemmas.{length-bits_of}
pub use Rattle.octets_code.proofs.ByteBits.{length-bits, bits-append, bits-push, bits-at, halves}
pub use Rattle.octets_code.proofs.CodesLemmas.{codes-append, codes-push}
pub use Rattle.octets_code.proofs.TextLemmas.{two_fronts, open_no_code, texts_apart}
pub use Rattle.octets_code.proofs.TextOf.{text_is_text, text_from}
pub use Rattle.octets_code.proofs.Faults.{answers_are_one, passed_within, steps_within, lengths_are_bounded}
pub use Rattle.octets_code.proofs.Faults.{fault_from_read, clear_at_end, answered, refused_in_fault, refused_at_end}
