-- The 256 prefixes of codes that aren't codes, by the number of their state. The first eight are 0 to 7 one bits.
use Rattle.std.specs.Prelude.{ℕ, Bool, List, [], ◌∷◌, slice_index_or}
use Rattle.octets_code.specs.Bits.{bits_of}
use Rattle.octets_code.specs.Codes.{Row}

-- a path of n bits, which spell the number x
unfoldable pub row : ℕ → ℕ → Row
row n x = record { len = n; number = x }

-- the length of each state's path, and the number that its bits spell
unfoldable pub state_rows : List Row
state_rows =
    row 0 0 ∷ row 1 0x1 ∷ row 2 0x3 ∷ row 3 0x7 ∷ row 4 0xf ∷ row 5 0x1f ∷ row 6 0x3f ∷ row 7 0x7f ∷
    row 1 0x0 ∷ row 2 0x0 ∷ row 2 0x1 ∷ row 2 0x2 ∷ row 3 0x0 ∷ row 3 0x1 ∷ row 3 0x2 ∷ row 3 0x3 ∷
    row 3 0x4 ∷ row 3 0x5 ∷ row 3 0x6 ∷ row 4 0x0 ∷ row 4 0x1 ∷ row 4 0x2 ∷ row 4 0x3 ∷ row 4 0x4 ∷
    row 4 0x5 ∷ row 4 0x6 ∷ row 4 0x7 ∷ row 4 0x8 ∷ row 4 0x9 ∷ row 4 0xa ∷ row 4 0xb ∷ row 4 0xc ∷
    row 4 0xd ∷ row 4 0xe ∷ row 5 0xa ∷ row 5 0xb ∷ row 5 0xc ∷ row 5 0xd ∷ row 5 0xe ∷ row 5 0xf ∷
    row 5 0x10 ∷ row 5 0x11 ∷ row 5 0x12 ∷ row 5 0x13 ∷ row 5 0x14 ∷ row 5 0x15 ∷ row 5 0x16 ∷ row 5 0x17 ∷
    row 5 0x18 ∷ row 5 0x19 ∷ row 5 0x1a ∷ row 5 0x1b ∷ row 5 0x1c ∷ row 5 0x1d ∷ row 5 0x1e ∷ row 6 0x2e ∷
    row 6 0x2f ∷ row 6 0x30 ∷ row 6 0x31 ∷ row 6 0x32 ∷ row 6 0x33 ∷ row 6 0x34 ∷ row 6 0x35 ∷ row 6 0x36 ∷
    row 6 0x37 ∷ row 6 0x38 ∷ row 6 0x39 ∷ row 6 0x3a ∷ row 6 0x3b ∷ row 6 0x3c ∷ row 6 0x3d ∷ row 6 0x3e ∷
    row 7 0x7c ∷ row 7 0x7d ∷ row 7 0x7e ∷ row 8 0xfe ∷ row 8 0xff ∷ row 9 0x1fc ∷ row 9 0x1fd ∷ row 9 0x1fe ∷
    row 9 0x1ff ∷ row 10 0x3fd ∷ row 10 0x3fe ∷ row 10 0x3ff ∷ row 11 0x7fd ∷ row 11 0x7fe ∷ row 11 0x7ff
    ∷ row 12 0xffc ∷
    row 12 0xffd ∷ row 12 0xffe ∷ row 12 0xfff ∷ row 13 0x1ffe ∷ row 13 0x1fff ∷ row 14 0x3ffe ∷ row 14 0x3fff
    ∷ row 15 0x7fff ∷
    row 16 0xfffe ∷ row 16 0xffff ∷ row 17 0x1fffc ∷ row 17 0x1fffd ∷ row 17 0x1fffe ∷ row 17 0x1ffff ∷ row 18 0x3fff8
    ∷ row 18 0x3fff9 ∷
    row 18 0x3fffa ∷ row 18 0x3fffb ∷ row 18 0x3fffc ∷ row 18 0x3fffd ∷ row 18 0x3fffe ∷ row 18 0x3ffff ∷ row 19 0x7fff3
    ∷ row 19 0x7fff4 ∷
    row 19 0x7fff5 ∷ row 19 0x7fff6 ∷ row 19 0x7fff7 ∷ row 19 0x7fff8 ∷ row 19 0x7fff9 ∷ row 19 0x7fffa ∷ row 19 0x7fffb
    ∷ row 19 0x7fffc ∷
    row 19 0x7fffd ∷ row 19 0x7fffe ∷ row 19 0x7ffff ∷ row 20 0xfffee ∷ row 20 0xfffef ∷ row 20 0xffff0 ∷ row 20 0xffff1
    ∷ row 20 0xffff2 ∷
    row 20 0xffff3 ∷ row 20 0xffff4 ∷ row 20 0xffff5 ∷ row 20 0xffff6 ∷ row 20 0xffff7 ∷ row 20 0xffff8 ∷ row 20 0xffff9
    ∷ row 20 0xffffa ∷
    row 20 0xffffb ∷ row 20 0xffffc ∷ row 20 0xffffd ∷ row 20 0xffffe ∷ row 20 0xfffff ∷ row 21 0x1fffe9
    ∷ row 21 0x1fffea ∷ row 21 0x1fffeb ∷
    row 21 0x1fffec ∷ row 21 0x1fffed ∷ row 21 0x1fffee ∷ row 21 0x1fffef ∷ row 21 0x1ffff0 ∷ row 21 0x1ffff1
    ∷ row 21 0x1ffff2 ∷ row 21 0x1ffff3 ∷
    row 21 0x1ffff4 ∷ row 21 0x1ffff5 ∷ row 21 0x1ffff6 ∷ row 21 0x1ffff7 ∷ row 21 0x1ffff8 ∷ row 21 0x1ffff9
    ∷ row 21 0x1ffffa ∷ row 21 0x1ffffb ∷
    row 21 0x1ffffc ∷ row 21 0x1ffffd ∷ row 21 0x1ffffe ∷ row 21 0x1fffff ∷ row 22 0x3fffec ∷ row 22 0x3fffed
    ∷ row 22 0x3fffee ∷ row 22 0x3fffef ∷
    row 22 0x3ffff0 ∷ row 22 0x3ffff1 ∷ row 22 0x3ffff2 ∷ row 22 0x3ffff3 ∷ row 22 0x3ffff4 ∷ row 22 0x3ffff5
    ∷ row 22 0x3ffff6 ∷ row 22 0x3ffff7 ∷
    row 22 0x3ffff8 ∷ row 22 0x3ffff9 ∷ row 22 0x3ffffa ∷ row 22 0x3ffffb ∷ row 22 0x3ffffc ∷ row 22 0x3ffffd
    ∷ row 22 0x3ffffe ∷ row 22 0x3fffff ∷
    row 23 0x7ffff5 ∷ row 23 0x7ffff6 ∷ row 23 0x7ffff7 ∷ row 23 0x7ffff8 ∷ row 23 0x7ffff9 ∷ row 23 0x7ffffa
    ∷ row 23 0x7ffffb ∷ row 23 0x7ffffc ∷
    row 23 0x7ffffd ∷ row 23 0x7ffffe ∷ row 23 0x7fffff ∷ row 24 0xfffff6 ∷ row 24 0xfffff7 ∷ row 24 0xfffff8
    ∷ row 24 0xfffff9 ∷ row 24 0xfffffa ∷
    row 24 0xfffffb ∷ row 24 0xfffffc ∷ row 24 0xfffffd ∷ row 24 0xfffffe ∷ row 24 0xffffff ∷ row 25 0x1fffff0
    ∷ row 25 0x1fffff1 ∷ row 25 0x1fffff2 ∷
    row 25 0x1fffff3 ∷ row 25 0x1fffff4 ∷ row 25 0x1fffff5 ∷ row 25 0x1fffff6 ∷ row 25 0x1fffff7 ∷ row 25 0x1fffff8
    ∷ row 25 0x1fffff9 ∷ row 25 0x1fffffa ∷
    row 25 0x1fffffb ∷ row 25 0x1fffffc ∷ row 25 0x1fffffd ∷ row 25 0x1fffffe ∷ row 25 0x1ffffff ∷ row 26 0x3ffffef
    ∷ row 26 0x3fffff0 ∷ row 26 0x3fffff1 ∷
    row 26 0x3fffff2 ∷ row 26 0x3fffff3 ∷ row 26 0x3fffff4 ∷ row 26 0x3fffff5 ∷ row 26 0x3fffff6 ∷ row 26 0x3fffff7
    ∷ row 26 0x3fffff8 ∷ row 26 0x3fffff9 ∷
    row 26 0x3fffffa ∷ row 26 0x3fffffb ∷ row 26 0x3fffffc ∷ row 26 0x3fffffd ∷ row 26 0x3fffffe ∷ row 26 0x3ffffff
    ∷ row 27 0x7fffff1 ∷ row 27 0x7fffff2 ∷
    row 27 0x7fffff3 ∷ row 27 0x7fffff4 ∷ row 27 0x7fffff5 ∷ row 27 0x7fffff6 ∷ row 27 0x7fffff7 ∷ row 27 0x7fffff8
    ∷ row 27 0x7fffff9 ∷ row 27 0x7fffffa ∷
    row 27 0x7fffffb ∷ row 27 0x7fffffc ∷ row 27 0x7fffffd ∷ row 27 0x7fffffe ∷ row 27 0x7ffffff ∷ row 28 0xfffffff
    ∷ row 29 0x1ffffffe ∷ row 29 0x1fffffff ∷
    []

-- the length and number of the path of the state with the number i
unfoldable pub row_of_state : ℕ → Row
row_of_state i = slice_index_or state_rows i (record { len = 0; number = 0 })

-- the path of the state with the number i
unfoldable pub path : ℕ → List Bool
path i = bits_of (row_of_state i).len (row_of_state i).number
