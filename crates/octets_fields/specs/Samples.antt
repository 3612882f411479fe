use Rattle.std.specs.Prelude.{ℕ, List, Result, ◌≡◌, ◌<◌, ◌^◌, ◌++◌, IsOkAnd}
use Rattle.octets.specs.Bytes.{network}
use Rattle.octets_fields.specs.declared.samples.Sample.{Sample}

-- the first three numbers of a sample, of four bytes each
unfoldable pub ids : ℕ → ℕ → ℕ → List ℕ
ids source sensor count = network 4 source ++ network 4 sensor ++ network 4 count

-- three times, of eight bytes each
unfoldable pub times : ℕ → ℕ → ℕ → List ℕ
times begun ended sent = network 8 begun ++ network 8 ended ++ network 8 sent

-- the 44 bytes of a sample
unfoldable pub sample_bytes : Sample → List ℕ
sample_bytes s = ids s.source s.sensor s.count ++ times s.begun s.ended s.sent ++ network 8 s.value

-- every sample with whose bytes l begins is the result r
abbrev pub ReadsEvery : {E : Type 0} → List ℕ → Result Sample E → Type 0
ReadsEvery l r = (s : Sample) (after : List ℕ) → s.source < 2 ^ 32 → s.sensor < 2 ^ 32 → s.count < 2 ^ 32
    → s.begun < 2 ^ 64 → s.ended < 2 ^ 64 → s.sent < 2 ^ 64 → s.value < 2 ^ 64
    → l ≡ sample_bytes s ++ after → IsOkAnd r (λ t. t ≡ s)
