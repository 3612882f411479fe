-- What a growing sink has taken, and how much memory it has.
use Rattle.std.specs.Prelude.{ℕ, List, vec_capacity}
use Rattle.octets_lists.specs.declared.growing_sink.GrowingSink.{GrowingSink}

abbrev pub taken : GrowingSink → List ℕ
taken sink = sink.bytes.items

-- how many bytes the sink holds before it has to allocate more memory
abbrev pub held : GrowingSink → ℕ
held sink = vec_capacity sink.bytes
