-- A number with a width.
pub use Rattle.octets.specs.Calls.{WideNumber}
