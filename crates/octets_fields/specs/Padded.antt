use Rattle.std.specs.Prelude.{ℕ, List, ◌+◌, ◌-◌, ◌%◌, ◌++◌, length}
use Rattle.octets.specs.Bytes.{network, number, part}

-- how many bytes of padding bring n bytes to a multiple of four: 0 to 3
unfoldable pub padding_len : ℕ → ℕ
padding_len n = (4 - n % 4) % 4

-- the padding after n bytes: padding_len n zero bytes
unfoldable pub padding_bytes : ℕ → List ℕ
padding_bytes n = network (padding_len n) 0

-- the length that the first w bytes of l say
abbrev pub said : ℕ → List ℕ → ℕ
said w l = number (part l 0 w)

-- how many bytes l has to have: those of the length, of the run and of the padding
abbrev pub padded_len : ℕ → List ℕ → ℕ
padded_len w l = w + said w l + padding_len (said w l)

-- the run v after its length in w bytes, its padding, and other bytes
abbrev pub padded : ℕ → List ℕ → List ℕ → List ℕ
padded w v after = network w (length v) ++ v ++ padding_bytes (length v) ++ after
