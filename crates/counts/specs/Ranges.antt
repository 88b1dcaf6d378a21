-- Sizes in their ranges, at all 40 versions and all 160 pairs of version and level: one computed test each.
-- Assumes nothing.
use Rattle.std.specs.Prelude.{ℕ, suc, ◌+◌, ◌-◌, ◌*◌, ◌/◌, ◌≤◌, ◌<◌, Bool, false, List, [], ◌∷◌, ◌≡◌, T, leb, ltb, eqb, length, get_or}
use Rattle.std.proofs.Common.{arith, leb→le, ltb→lt, eqb→eq}
use Rattle.standard.specs.Numbers.{every}
use Rattle.standard.specs.Sizes.{side, centres, raw_modules, raw_codewords, check_bytes, blocks, data_codewords, capacity, short_blocks, short_length}
use Rattle.standard.specs.Patterns.{alignment_step}
use Rattle.standard.proofs.Open.{opened}
use Rattle.laws.specs.Lists.{every_at}
use Rattle.laws.specs.Computed.{among, below, at_version, at_level}

-- all of some tests pass, and so each does
all : List Bool → Bool
all ts = every (λ b. b) ts

passes : (ts : List Bool) → T (all ts) → (i : ℕ) → T (ltb i (length ts)) → T (get_or ts i false)
unfolding all
passes ts t i h = every_at (λ b. b) ts i false t (ltb→lt i (length ts) h)

-- ---- at a version

pub record VersionRange (v : ℕ) : Type 0 where
  -- raw modules are always 208 to 29,648
  pub least : 208 ≤ raw_modules v
  pub most : raw_modules v ≤ 29_648
  -- alignment centres stand from 6 on
  pub centred : (centres v - 2) * alignment_step v + 13 ≤ side v

version_tests : ℕ → List Bool
version_tests v =
    leb 208 (raw_modules v) ∷ leb (raw_modules v) 29_648 ∷ leb ((centres v - 2) * alignment_step v + 13) (side v) ∷ []

version_all : T (among 1 40 (λ v. all (version_tests v)))
unfolding opened all version_tests
version_all = tt

pub version_range : (v : ℕ) → 1 ≤ v → v ≤ 40 → VersionRange v
unfolding version_tests
version_range v low high =
    let t : T (all (version_tests v)) = at_version (λ v. all (version_tests v)) version_all v low high in
    record {
      least = leb→le _ _ (passes (version_tests v) t 0 tt);
      most = leb→le _ _ (passes (version_tests v) t 1 tt);
      centred = leb→le _ _ (passes (version_tests v) t 2 tt);
    }

-- ---- at a version and a level

pub record PairRange (v l : ℕ) : Type 0 where
  pub some : 1 ≤ blocks v l
  pub few : blocks v l ≤ 81
  pub check_least : 7 ≤ check_bytes v l
  pub check_most : check_bytes v l ≤ 30
  pub short : 1 ≤ short_blocks v l
  pub long : short_blocks v l ≤ blocks v l
  pub full : 9 ≤ short_length v l
  -- a block is at most 255 bytes
  pub byte : suc (short_length v l) + check_bytes v l ≤ 255
  pub words : data_codewords v l ≤ 2956
  -- the blocks hold just the data codewords, and data and check bytes are all codewords
  pub shared : blocks v l * short_length v l + (blocks v l - short_blocks v l) ≡ data_codewords v l
  pub whole : data_codewords v l + check_bytes v l * blocks v l ≡ raw_codewords v

pair_tests : ℕ → ℕ → List Bool
pair_tests v l =
    leb 1 (blocks v l)
    ∷ leb (blocks v l) 81
    ∷ leb 7 (check_bytes v l)
    ∷ leb (check_bytes v l) 30
    ∷ leb 1 (short_blocks v l)
    ∷ leb (short_blocks v l) (blocks v l)
    ∷ leb 9 (short_length v l)
    ∷ leb (suc (short_length v l) + check_bytes v l) 255
    ∷ leb (data_codewords v l) 2956
    ∷ eqb (blocks v l * short_length v l + (blocks v l - short_blocks v l)) (data_codewords v l)
    ∷ eqb (data_codewords v l + check_bytes v l * blocks v l) (raw_codewords v)
    ∷ []

pair_all : T (among 1 40 (λ v. among 0 4 (λ l. all (pair_tests v l))))
unfolding opened all pair_tests
pair_all = tt

pub pair_range : (v l : ℕ) → 1 ≤ v → v ≤ 40 → l ≤ 3 → PairRange v l
unfolding pair_tests
pair_range v l low high h =
    let t : T (all (pair_tests v l)) = at_level (λ v l. all (pair_tests v l)) pair_all v l low high h in
    record {
      some = leb→le _ _ (passes (pair_tests v l) t 0 tt);
      few = leb→le _ _ (passes (pair_tests v l) t 1 tt);
      check_least = leb→le _ _ (passes (pair_tests v l) t 2 tt);
      check_most = leb→le _ _ (passes (pair_tests v l) t 3 tt);
      short = leb→le _ _ (passes (pair_tests v l) t 4 tt);
      long = leb→le _ _ (passes (pair_tests v l) t 5 tt);
      full = leb→le _ _ (passes (pair_tests v l) t 6 tt);
      byte = leb→le _ _ (passes (pair_tests v l) t 7 tt);
      words = leb→le _ _ (passes (pair_tests v l) t 8 tt);
      shared = eqb→eq _ _ (passes (pair_tests v l) t 9 tt);
      whole = eqb→eq _ _ (passes (pair_tests v l) t 10 tt);
    }

-- ---- a higher level holds less

falls_test : ℕ → ℕ → Bool
falls_test v l = ltb (capacity v (suc l)) (capacity v l)

falls_all : T (among 1 40 (λ v. among 0 3 (falls_test v)))
unfolding opened falls_test
falls_all = tt

pub capacity_falls : (v l : ℕ) → 1 ≤ v → v ≤ 40 → l < 3 → capacity v (suc l) < capacity v l
unfolding falls_test
capacity_falls v l low high h =
    ltb→lt _ _ (below (falls_test v) 3 (at_version (λ v. among 0 3 (falls_test v)) falls_all v low high) l h)

-- ---- buffers of the largest version's size have room

pub words_fit : (v n : ℕ) → n ≡ raw_modules v → 1 ≤ v → v ≤ 40 → n / 8 ≤ 3706
words_fit v n e low high = let r : VersionRange v = version_range v low high in let m = r.most in omega arith

pub data_fit : (v l n : ℕ) → n ≡ data_codewords v l → 1 ≤ v → v ≤ 40 → l ≤ 3 → n ≤ 2956
data_fit v l n e low high h = let r : PairRange v l = pair_range v l low high h in let m = r.words in omega arith
