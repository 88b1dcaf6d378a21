-- All codewords, place by place.
-- Assumes nothing.
use Prim.Native.Nat.{ℕ, suc, ◌+◌, ◌-◌, ◌*◌, ◌/◌, ◌%◌, ◌≤◌, ◌<◌, min}
use Rattle.std.specs.Prelude.{Bool, cond, ◌≡◌, drop, leb}
use Rattle.std.proofs.Math.Bool.{true, false}
use mathlib.Core.List.{List, ◌++◌, map, append-nil}
use Rattle.std.proofs.Math.Path.{refl, ap, ap₂}
use Rattle.std.proofs.Common.{sym, ◌∙◌, mul_comm, div-lt_iff_lt-mul, zero-add, add-zero, length-drop}
use Rattle.std.proofs.Math.Nat.{mul-le-mul_right, mod-lt}
use native.Mathlib.Omega.{arith}
use Rattle.std.proofs.Math.ListN.{length, get_or, take, length-append, length-take, get_or-append}
use Rattle.std.proofs.Math.Seq.{get_or-append-add, get_or-take, get_or-drop}
use Rattle.std.proofs.Math.Dec.{ltb}
use borrow.Author.Tests.{le-leb, lt-leb, ltb-true, ltb-false, leb-true, leb-false}
use Rattle.standard.specs.Numbers.{one, from, join}
use Rattle.standard.specs.Sizes.{raw_codewords, check_bytes, blocks, data_codewords, short_blocks, short_length}
use Rattle.standard.specs.Field.{check}
use Rattle.standard.specs.Blocks.{block_length, block_start, block, data_blocks, check_blocks, column, interleave, all_words}
use Rattle.counts.specs.Ranges.{PairRange}
use Rattle.field.specs.Division.{length_check}
use Rattle.laws.specs.Lists.{length_from, get_d_from, from_append, map_from}
use Rattle.blocks.specs.Shape.{source_in}
use Rattle.laws.specs.Joins.{join_append, join_length, join_at, bytes_of, each_has, none_has, bytes_append}

-- the columns of the data bytes: whole ones, then one of the long blocks only
pub data_sum : (v l : ℕ) → PairRange v l → short_length v l * blocks v l + (blocks v l - short_blocks v l) ≡ data_codewords v l
data_sum v l sh = ap (λ (k : ℕ). k + (blocks v l - short_blocks v l)) (mul_comm (short_length v l) (blocks v l)) ∙ sh.shared

pub check_some : (v l : ℕ) → PairRange v l → 0 < check_bytes v l
check_some v l sh = omega (arith, sh.check_least)

-- ---- data bytes

module _ (v l : ℕ) (words : List ℕ) (sh : PairRange v l) (full : length words ≡ data_codewords v l) where
  B : ℕ → List ℕ
  B i = block v l words i

  block_inside : (i : ℕ) → i < blocks v l → block_start v l i + block_length v l i ≤ length words
  unfolding block_start block_length
  block_inside i h = go (leb (short_blocks v l) i) refl
    where
      area : (i + 1) * short_length v l ≤ blocks v l * short_length v l
      area = mul-le-mul_right (short_length v l) (omega arith)

      go : (t : Bool) → leb (short_blocks v l) i ≡ t → i * short_length v l + (i - short_blocks v l) + (short_length v l + one t) ≤ length words
      go true e = omega (arith, leb-true (short_blocks v l) i e, data_sum v l sh, sh.long, full, area)
      go false e = omega (arith, leb-false (short_blocks v l) i e, data_sum v l sh, sh.long, full, area)

  block_long : (i : ℕ) → i < blocks v l → length (B i) ≡ block_length v l i
  unfolding B block
  block_long i h =
      length-take (block_length v l i) (drop (block_start v l i) words)
      ∙ ap (λ (n : ℕ). min (block_length v l i) n) (length-drop (block_start v l i) words)
      ∙ omega (arith, block_inside i h)

  block_at : (i c : ℕ) → c < block_length v l i → get_or (B i) c 0 ≡ get_or words (block_start v l i + c) 0
  unfolding B block
  block_at i c h = get_or-take (block_length v l i) (drop (block_start v l i) words) c 0 h ∙ get_or-drop (block_start v l i) words c 0

  length_short : (i : ℕ) → i < short_blocks v l → block_length v l i ≡ short_length v l
  unfolding block_length
  length_short i h = rw (lt-leb (short_blocks v l) i h) (add-zero (short_length v l))

  length_long : (i : ℕ) → short_blocks v l ≤ i → block_length v l i ≡ short_length v l + 1
  unfolding block_length
  length_long i h = rw (le-leb (short_blocks v l) i h)

  length_least : (i : ℕ) → short_length v l ≤ block_length v l i
  unfolding block_length
  length_least i = omega arith

  data_column : (c : ℕ) → column (data_blocks v l words) c ≡ bytes_of B c 0 (blocks v l)
  unfolding column data_blocks B
  data_column c = ap join (map_from (λ b. take 1 (drop c b)) 0 (blocks v l) B)

  early : (c : ℕ) → c < short_length v l → column (data_blocks v l words) c ≡ from 0 (blocks v l) (λ i. get_or (B i) c 0)
  early c h = data_column c ∙ each_has B c 0 (blocks v l) (λ i low high. omega (arith, block_long i (omega arith), length_least i))

  last : column (data_blocks v l words) (short_length v l) ≡ from (short_blocks v l) (blocks v l - short_blocks v l) (λ i. get_or (B i) (short_length v l) 0)
  last =
      let e : blocks v l ≡ short_blocks v l + (blocks v l - short_blocks v l) = omega (arith, sh.long) in
      data_column (short_length v l)
      ∙ ap (bytes_of B (short_length v l) 0) e
      ∙ bytes_append B (short_length v l) 0 (short_blocks v l) (blocks v l - short_blocks v l)
      ∙ ap₂ (λ (a b : List ℕ). a ++ b)
      (none_has B (short_length v l) 0 (short_blocks v l) (λ i low high. omega (arith, block_long i (omega (arith, sh.long)), length_short i (omega arith))))
      (ap (λ (k : ℕ). bytes_of B (short_length v l) k (blocks v l - short_blocks v l)) (zero-add (short_blocks v l))
      ∙ each_has B (short_length v l) (short_blocks v l) (blocks v l - short_blocks v l) (λ i low high. omega (arith, block_long i (omega (arith, sh.long)), length_long i low)))

  two_parts : interleave (suc (short_length v l)) (data_blocks v l words) ≡ join (from 0 (short_length v l) (column (data_blocks v l words))) ++ column (data_blocks v l words) (short_length v l)
  unfolding interleave
  two_parts =
      let e : suc (short_length v l) ≡ short_length v l + 1 = omega arith in
      ap (λ (n : ℕ). join (from 0 n (column (data_blocks v l words)))) e
      ∙ ap join (from_append 0 (short_length v l) 1 (column (data_blocks v l words)))
      ∙ join_append (from 0 (short_length v l) (column (data_blocks v l words))) (from (0 + short_length v l) 1 (column (data_blocks v l words)))
      ∙ ap (λ (t : List ℕ). join (from 0 (short_length v l) (column (data_blocks v l words))) ++ t)
      (append-nil (column (data_blocks v l words) (0 + short_length v l)) ∙ ap (column (data_blocks v l words)) (zero-add (short_length v l)))

  each_column : (c : ℕ) → 0 ≤ c → c < 0 + short_length v l → length (column (data_blocks v l words) c) ≡ blocks v l
  each_column c low high = ap length (early c (omega arith)) ∙ length_from 0 (blocks v l) (λ i. get_or (B i) c 0)

  first_long : length (join (from 0 (short_length v l) (column (data_blocks v l words)))) ≡ short_length v l * blocks v l
  first_long = join_length 0 (short_length v l) (blocks v l) (column (data_blocks v l words)) each_column

  pub data_long : length (interleave (suc (short_length v l)) (data_blocks v l words)) ≡ data_codewords v l
  data_long =
      ap length two_parts
      ∙ length-append (join (from 0 (short_length v l) (column (data_blocks v l words)))) (column (data_blocks v l words) (short_length v l))
      ∙ ap₂ ◌+◌ first_long (ap length last ∙ length_from (short_blocks v l) (blocks v l - short_blocks v l) (λ i. get_or (B i) (short_length v l) 0))
      ∙ data_sum v l sh

  pub data_at : (p : ℕ) → p < data_codewords v l → get_or (interleave (suc (short_length v l)) (data_blocks v l words)) p 0 ≡ get_or words (source_in (blocks v l) (short_length v l) (short_blocks v l) p) 0
  unfolding source_in block_start
  data_at p h = ap (λ (t : List ℕ). get_or t p 0) two_parts ∙ go (ltb p (short_length v l * blocks v l)) refl
    where
      go : (t : Bool) → ltb p (short_length v l * blocks v l) ≡ t
          → get_or (join (from 0 (short_length v l) (column (data_blocks v l words))) ++ column (data_blocks v l words) (short_length v l)) p 0
          ≡ get_or words (cond t (block_start v l (p % blocks v l) + p / blocks v l) (block_start v l (short_blocks v l + (p - short_length v l * blocks v l)) + short_length v l)) 0
      go true e =
          let s = ltb-true p (short_length v l * blocks v l) e in
          let m : p % blocks v l < blocks v l = mod-lt p sh.some in
          let q : p / blocks v l < short_length v l = (div-lt_iff_lt-mul sh.some).1 s in
          get_or-append (join (from 0 (short_length v l) (column (data_blocks v l words)))) (column (data_blocks v l words) (short_length v l)) 0 p (omega (arith, first_long))
          ∙ join_at 0 (short_length v l) (blocks v l) (column (data_blocks v l words)) each_column sh.some p s
          ∙ ap (λ (k : ℕ). get_or (column (data_blocks v l words) k) (p % blocks v l) 0) (zero-add (p / blocks v l))
          ∙ ap (λ (t : List ℕ). get_or t (p % blocks v l) 0) (early (p / blocks v l) q)
          ∙ get_d_from 0 (blocks v l) (λ i. get_or (B i) (p / blocks v l) 0) (p % blocks v l) 0 m
          ∙ ap (λ (k : ℕ). get_or (B k) (p / blocks v l) 0) (zero-add (p % blocks v l))
          ∙ block_at (p % blocks v l) (p / blocks v l) (omega (arith, length_least (p % blocks v l)))
      go false e =
          let s = ltb-false p (short_length v l * blocks v l) e in
          let at : length (join (from 0 (short_length v l) (column (data_blocks v l words)))) + (p - short_length v l * blocks v l) ≡ p = omega (arith, first_long) in
          ap (λ (k : ℕ). get_or (join (from 0 (short_length v l) (column (data_blocks v l words))) ++ column (data_blocks v l words) (short_length v l)) k 0) (sym at)
          ∙ get_or-append-add (join (from 0 (short_length v l) (column (data_blocks v l words)))) (column (data_blocks v l words) (short_length v l)) (p - short_length v l * blocks v l) 0
          ∙ ap (λ (t : List ℕ). get_or t (p - short_length v l * blocks v l) 0) last
          ∙ get_d_from (short_blocks v l) (blocks v l - short_blocks v l) (λ i. get_or (B i) (short_length v l) 0) (p - short_length v l * blocks v l) 0 (omega (arith, data_sum v l sh))
          ∙ block_at (short_blocks v l + (p - short_length v l * blocks v l)) (short_length v l) (omega (arith, length_long (short_blocks v l + (p - short_length v l * blocks v l)) (omega arith)))

  -- ---- check bytes

  C : ℕ → List ℕ
  C i = check (check_bytes v l) (block v l words i)

  check_column : (c : ℕ) → column (check_blocks v l (data_blocks v l words)) c ≡ bytes_of C c 0 (blocks v l)
  unfolding column check_blocks data_blocks C
  check_column c =
      ap (λ (bs : List (List ℕ)). join (map (λ b. take 1 (drop c b)) bs)) (map_from (check (check_bytes v l)) 0 (blocks v l) (block v l words))
      ∙ ap join (map_from (λ b. take 1 (drop c b)) 0 (blocks v l) C)

  check_is : (c : ℕ) → c < check_bytes v l → column (check_blocks v l (data_blocks v l words)) c ≡ from 0 (blocks v l) (λ i. get_or (C i) c 0)
  unfolding C
  check_is c h = check_column c ∙ each_has C c 0 (blocks v l) (λ i low high. omega (arith, length_check (check_bytes v l) (block v l words i)))

  each_check : (c : ℕ) → 0 ≤ c → c < 0 + check_bytes v l → length (column (check_blocks v l (data_blocks v l words)) c) ≡ blocks v l
  each_check c low high = ap length (check_is c (omega arith)) ∙ length_from 0 (blocks v l) (λ i. get_or (C i) c 0)

  pub check_long : length (interleave (check_bytes v l) (check_blocks v l (data_blocks v l words))) ≡ check_bytes v l * blocks v l
  unfolding interleave
  check_long = join_length 0 (check_bytes v l) (blocks v l) (column (check_blocks v l (data_blocks v l words))) each_check

  pub check_at : (q : ℕ) → q < check_bytes v l * blocks v l
      → get_or (interleave (check_bytes v l) (check_blocks v l (data_blocks v l words))) q 0 ≡ get_or (check (check_bytes v l) (block v l words (q % blocks v l))) (q / blocks v l) 0
  unfolding interleave C
  check_at q h =
      let m : q % blocks v l < blocks v l = mod-lt q sh.some in
      let d : q / blocks v l < check_bytes v l = (div-lt_iff_lt-mul sh.some).1 h in
      join_at 0 (check_bytes v l) (blocks v l) (column (check_blocks v l (data_blocks v l words))) each_check sh.some q h
      ∙ ap (λ (k : ℕ). get_or (column (check_blocks v l (data_blocks v l words)) k) (q % blocks v l) 0) (zero-add (q / blocks v l))
      ∙ ap (λ (t : List ℕ). get_or t (q % blocks v l) 0) (check_is (q / blocks v l) d)
      ∙ get_d_from 0 (blocks v l) (λ i. get_or (C i) (q / blocks v l) 0) (q % blocks v l) 0 m
      ∙ ap (λ (k : ℕ). get_or (C k) (q / blocks v l) 0) (zero-add (q % blocks v l))

  -- ---- all of them

  pub all_long : length (all_words v l words) ≡ raw_codewords v
  unfolding all_words
  all_long =
      length-append (interleave (suc (short_length v l)) (data_blocks v l words)) (interleave (check_bytes v l) (check_blocks v l (data_blocks v l words)))
      ∙ ap₂ ◌+◌ data_long check_long ∙ sh.whole

  pub all_data : (p : ℕ) → p < data_codewords v l → get_or (all_words v l words) p 0 ≡ get_or words (source_in (blocks v l) (short_length v l) (short_blocks v l) p) 0
  unfolding all_words
  all_data p h =
      get_or-append (interleave (suc (short_length v l)) (data_blocks v l words)) (interleave (check_bytes v l) (check_blocks v l (data_blocks v l words))) 0 p (omega (arith, data_long))
      ∙ data_at p h

  pub all_check : (q : ℕ) → q < check_bytes v l * blocks v l
      → get_or (all_words v l words) (data_codewords v l + q) 0 ≡ get_or (check (check_bytes v l) (block v l words (q % blocks v l))) (q / blocks v l) 0
  unfolding all_words
  all_check q h =
      ap (λ (k : ℕ). get_or (all_words v l words) (k + q) 0) (sym data_long)
      ∙ get_or-append-add (interleave (suc (short_length v l)) (data_blocks v l words)) (interleave (check_bytes v l) (check_blocks v l (data_blocks v l words))) q 0
      ∙ check_at q h
