-- All codewords of a label with short and long blocks, as the Rust original interleaves them: version 5, Quartile.
-- Assumes nothing.
use Prim.Native.Nat.{ℕ, ◌+◌, ◌*◌, ◌%◌}
use mathlib.Core.List.{List, [], ◌∷◌}
use mathlib.Core.Path.{◌≡◌, refl}
use Rattle.standard.specs.Numbers.{tabulate}
use Rattle.standard.specs.Blocks.{all_words}
use Rattle.standard.proofs.Open.{opened}

-- 62 data codewords: 1, 8, 15, ..
pub sample : List ℕ
sample = tabulate 62 (λ i. (7 * i + 1) % 256)

-- the Rust's codewords: 62 of data in 16 columns, then 72 check bytes in 18
pub rust : List ℕ
rust =
    1 ∷ 106 ∷ 211 ∷ 67 ∷ 8 ∷ 113 ∷ 218 ∷ 74 ∷ 15 ∷ 120 ∷ 225 ∷ 81 ∷ 22 ∷ 127 ∷ 232 ∷ 88 ∷ 29 ∷ 134 ∷ 239 ∷ 95
    ∷ 36 ∷ 141 ∷ 246 ∷ 102 ∷ 43 ∷ 148 ∷ 253 ∷ 109 ∷ 50 ∷ 155 ∷ 4 ∷ 116 ∷ 57 ∷ 162 ∷ 11 ∷ 123 ∷ 64 ∷ 169 ∷ 18 ∷ 130
    ∷ 71 ∷ 176 ∷ 25 ∷ 137 ∷ 78 ∷ 183 ∷ 32 ∷ 144 ∷ 85 ∷ 190 ∷ 39 ∷ 151 ∷ 92 ∷ 197 ∷ 46 ∷ 158 ∷ 99 ∷ 204 ∷ 53 ∷ 165
    ∷ 60 ∷ 172 ∷ 35 ∷ 76 ∷ 53 ∷ 85 ∷ 129 ∷ 139 ∷ 199 ∷ 236 ∷ 93 ∷ 18 ∷ 246 ∷ 209 ∷ 188 ∷ 236 ∷ 97 ∷ 155 ∷ 117 ∷ 181
    ∷ 240 ∷ 186 ∷ 174 ∷ 135 ∷ 166 ∷ 106 ∷ 86 ∷ 70 ∷ 18 ∷ 31 ∷ 217 ∷ 46 ∷ 200 ∷ 62 ∷ 226 ∷ 39 ∷ 97 ∷ 163 ∷ 182 ∷ 197
    ∷ 24 ∷ 64 ∷ 213 ∷ 212 ∷ 42 ∷ 116 ∷ 199 ∷ 65 ∷ 211 ∷ 254 ∷ 223 ∷ 250 ∷ 38 ∷ 192 ∷ 187 ∷ 75 ∷ 240 ∷ 58 ∷ 70 ∷ 185
    ∷ 125 ∷ 119 ∷ 166 ∷ 68 ∷ 29 ∷ 171 ∷ 100 ∷ 139 ∷ 88 ∷ 204 ∷ 155 ∷ 112 ∷ 71 ∷ 65 ∷ []

pub interleaved : all_words 5 2 sample ≡ rust
unfolding opened sample rust
interleaved = refl
