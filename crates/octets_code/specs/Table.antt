-- The Huffman code of HPACK (RFC 7541, Appendix B). The codes of one length are consecutive numbers, which belong
-- to the symbols of that length in ascending order.
use Rattle.std.specs.Prelude.{ℕ, List, [], ◌∷◌}

-- the codes of one length: the number of the first code, and the symbols that have them, in order
pub record Group : Type 0 where
  pub len : ℕ
  pub first : ℕ
  pub symbols : List ℕ

-- the codes of Appendix B, with a group for each length, the shortest first
unfoldable pub groups : List Group
groups =
    record { len = 5; first = 0x0; symbols = 48 ∷ 49 ∷ 50 ∷ 97 ∷ 99 ∷ 101 ∷ 105 ∷ 111 ∷ 115 ∷ 116 ∷ [] } ∷
    record {
      len = 6;
      first = 0x14;
      symbols = 32 ∷ 37 ∷ 45 ∷ 46 ∷ 47 ∷ 51 ∷ 52 ∷ 53 ∷ 54 ∷ 55 ∷ 56 ∷ 57 ∷ 61 ∷ 65 ∷ 95
          ∷ 98 ∷ 100 ∷ 102 ∷ 103 ∷ 104 ∷ 108 ∷ 109 ∷ 110 ∷ 112 ∷ 114 ∷ 117 ∷ [];
    } ∷
    record {
      len = 7;
      first = 0x5c;
      symbols = 58 ∷ 66 ∷ 67 ∷ 68 ∷ 69 ∷ 70 ∷ 71 ∷ 72 ∷ 73 ∷ 74 ∷ 75 ∷ 76 ∷ 77 ∷ 78 ∷ 79 ∷ 80 ∷ 81 ∷ 82 ∷ 83 ∷ 84 ∷ 85 ∷
          86 ∷ 87 ∷ 89 ∷ 106 ∷ 107 ∷ 113 ∷ 118 ∷ 119 ∷ 120 ∷ 121 ∷ 122 ∷ [];
    } ∷
    record { len = 8; first = 0xf8; symbols = 38 ∷ 42 ∷ 44 ∷ 59 ∷ 88 ∷ 90 ∷ [] } ∷
    record { len = 10; first = 0x3f8; symbols = 33 ∷ 34 ∷ 40 ∷ 41 ∷ 63 ∷ [] } ∷
    record { len = 11; first = 0x7fa; symbols = 39 ∷ 43 ∷ 124 ∷ [] } ∷
    record { len = 12; first = 0xffa; symbols = 35 ∷ 62 ∷ [] } ∷
    record { len = 13; first = 0x1ff8; symbols = 0 ∷ 36 ∷ 64 ∷ 91 ∷ 93 ∷ 126 ∷ [] } ∷
    record { len = 14; first = 0x3ffc; symbols = 94 ∷ 125 ∷ [] } ∷
    record { len = 15; first = 0x7ffc; symbols = 60 ∷ 96 ∷ 123 ∷ [] } ∷
    record { len = 19; first = 0x7fff0; symbols = 92 ∷ 195 ∷ 208 ∷ [] } ∷
    record { len = 20; first = 0xfffe6; symbols = 128 ∷ 130 ∷ 131 ∷ 162 ∷ 184 ∷ 194 ∷ 224 ∷ 226 ∷ [] } ∷
    record {
      len = 21;
      first = 0x1fffdc;
      symbols = 153 ∷ 161 ∷ 167 ∷ 172 ∷ 176 ∷ 177 ∷ 179 ∷ 209 ∷ 216 ∷ 217 ∷ 227 ∷ 229 ∷ 230 ∷ [];
    } ∷
    record {
      len = 22;
      first = 0x3fffd2;
      symbols = 129 ∷ 132 ∷ 133 ∷ 134 ∷ 136 ∷ 146 ∷ 154 ∷ 156 ∷ 160 ∷ 163 ∷ 164 ∷ 169 ∷ 170 ∷ 173 ∷ 178 ∷ 181 ∷ 185 ∷
          186 ∷ 187 ∷ 189 ∷ 190 ∷ 196 ∷ 198 ∷ 228 ∷ 232 ∷ 233 ∷ [];
    } ∷
    record {
      len = 23;
      first = 0x7fffd8;
      symbols = 1 ∷ 135 ∷ 137 ∷ 138 ∷ 139 ∷ 140 ∷ 141 ∷ 143 ∷ 147 ∷ 149 ∷ 150 ∷ 151 ∷ 152 ∷ 155 ∷ 157 ∷ 158 ∷ 165 ∷
          166 ∷ 168 ∷ 174 ∷ 175 ∷ 180 ∷ 182 ∷ 183 ∷ 188 ∷ 191 ∷ 197 ∷ 231 ∷ 239 ∷ [];
    } ∷
    record {
      len = 24;
      first = 0xffffea;
      symbols = 9 ∷ 142 ∷ 144 ∷ 145 ∷ 148 ∷ 159 ∷ 171 ∷ 206 ∷ 215 ∷ 225 ∷ 236 ∷ 237 ∷ [];
    } ∷
    record { len = 25; first = 0x1ffffec; symbols = 199 ∷ 207 ∷ 234 ∷ 235 ∷ [] } ∷
    record {
      len = 26;
      first = 0x3ffffe0;
      symbols = 192 ∷ 193 ∷ 200 ∷ 201 ∷ 202 ∷ 205 ∷ 210 ∷ 213 ∷ 218 ∷ 219 ∷ 238 ∷ 240 ∷ 242 ∷ 243 ∷ 255 ∷ [];
    } ∷
    record {
      len = 27;
      first = 0x7ffffde;
      symbols = 203 ∷ 204 ∷ 211 ∷ 212 ∷ 214 ∷ 221 ∷ 222 ∷ 223 ∷ 241 ∷ 244 ∷ 245
          ∷ 246 ∷ 247 ∷ 248 ∷ 250 ∷ 251 ∷ 252 ∷ 253 ∷ 254 ∷ [];
    } ∷
    record {
      len = 28;
      first = 0xfffffe2;
      symbols = 2 ∷ 3 ∷ 4 ∷ 5 ∷ 6 ∷ 7 ∷ 8 ∷ 11 ∷ 12 ∷ 14 ∷ 15 ∷ 16 ∷ 17 ∷ 18 ∷ 19
          ∷ 20 ∷ 21 ∷ 23 ∷ 24 ∷ 25 ∷ 26 ∷ 27 ∷ 28 ∷ 29 ∷ 30 ∷ 31 ∷ 127 ∷ 220 ∷ 249 ∷ [];
    } ∷
    record { len = 30; first = 0x3ffffffc; symbols = 10 ∷ 13 ∷ 22 ∷ 256 ∷ [] } ∷
    []
