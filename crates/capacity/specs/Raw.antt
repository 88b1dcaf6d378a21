-- Laws of raw modules and data codewords: what is returned in each case.
-- Assumes nothing.
use Rattle.std.specs.Prelude.{ℕ, ◌+◌, ◌-◌, ◌*◌, ◌/◌, ◌^◌, ◌≤◌, ◌<◌, ◌≡◌}
use Rattle.std.proofs.Common.{arith, le-leb}
use Rattle.std.proofs.lemmas.Bool.{lt-leb}
use Rattle.standard.specs.Sizes.{raw_modules, raw_codewords, check_bytes, blocks, data_codewords}
use Rattle.counts.specs.Ranges.{PairRange, pair_range, VersionRange, version_range}

-- all modules but finders and format, and what alignment takes
abbrev pub all : ℕ → ℕ
all v = (16 * v + 128) * v + 64

abbrev pub fewer : ℕ → ℕ
fewer v = (25 * (v / 7 + 2) - 10) * (v / 7 + 2)

-- ---- the returns of the raw modules

pub raw_one : (v w : ℕ) → v ≡ w → v < 2 → all v ≡ raw_modules w
unfolding raw_modules
raw_one v w q h = rw (← q, lt-leb 2 v h, lt-leb 7 v (omega arith)) (omega arith)

pub raw_small : (v w : ℕ) → v ≡ w → 2 ≤ v → v < 7 → all v - (fewer v - 55) ≡ raw_modules w
unfolding raw_modules
raw_small v w q h k = rw (← q, le-leb 2 v h, lt-leb 7 v k) (omega arith)

pub raw_large : (v w : ℕ) → v ≡ w → 7 ≤ v → all v - (fewer v - 55) - 36 ≡ raw_modules w
unfolding raw_modules
raw_large v w q h = rw (← q, le-leb 2 v (omega arith), le-leb 7 v h)

-- ---- data codewords

-- the check bytes are no more than the codewords
pub check_le : (v l r c b : ℕ) → r ≡ raw_modules v → c ≡ check_bytes v l → b ≡ blocks v l → 1 ≤ v → v ≤ 40 → l ≤ 3 → c * b ≤ r / 8
unfolding raw_codewords
check_le v l r c b er ec eb low high h =
    let p : PairRange v l = pair_range v l low high h in
    rw (er, ec, eb) (omega (arith, p.whole))

pub check_fits : (v l c b : ℕ) → c ≡ check_bytes v l → b ≡ blocks v l → 1 ≤ v → v ≤ 40 → l ≤ 3 → c * b < 2 ^ 64
unfolding raw_codewords
check_fits v l c b ec eb low high h =
    let p : PairRange v l = pair_range v l low high h in
    let r : VersionRange v = version_range v low high in
    rw (ec, eb) (omega (arith, p.whole, r.most))

pub data_words_lem : (v l r c b : ℕ) → r ≡ raw_modules v → c ≡ check_bytes v l → b ≡ blocks v l → r / 8 - c * b ≡ data_codewords v l
unfolding data_codewords raw_codewords
data_words_lem v l r c b er ec eb = rw (er, ec, eb)
