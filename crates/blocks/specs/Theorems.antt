-- What holds of the blocks of every version and level, for all data codewords: each block, data then check bytes, is divisible by the generator,
-- no other check bytes make it so, and taking the data codewords out of all codewords undoes the interleaving. Assumes nothing.
use Rattle.std.specs.Prelude.{ℕ, ◌≤◌, ◌<◌, ◌≡◌, length, drop}
use mathlib.Core.List.{List, [], ◌++◌}
use Rattle.std.proofs.Common.{sym, ap₂, ◌∙◌, subst, arith}
use Rattle.std.proofs.Math.Path.{ap}
use Rattle.std.proofs.Math.ListN.{get_or}
use Rattle.standard.specs.Sizes.{check_bytes, blocks, data_codewords}
use Rattle.standard.specs.Field.{Bytes, Divisible, generator, check}
use Rattle.standard.specs.Blocks.{block_length, block_start, block, data_blocks, check_blocks, all_words}
use Rattle.counts.specs.Ranges.{PairRange, pair_range}
use Rattle.field.specs.Polynomials.{bytes_drop}
use Rattle.field.specs.Division.{length_check, codeword, only_codeword}
use Rattle.laws.specs.Lists.{get_d_tabulate, map_from, bytes_take}
use Rattle.blocks.specs.Undo.{data_of, undo}

-- data block i, and its check bytes
abbrev pub data_block : ℕ → ℕ → List ℕ → ℕ → List ℕ
data_block v l words i = get_or (data_blocks v l words) i []

abbrev pub check_block : ℕ → ℕ → List ℕ → ℕ → List ℕ
check_block v l words i = get_or (check_blocks v l (data_blocks v l words)) i []

module _ (v l : ℕ) (low : 1 ≤ v) (high : v ≤ 40) (level : l ≤ 3) (words : List ℕ) where
  data_is : (i : ℕ) → i < blocks v l → data_block v l words i ≡ block v l words i
  unfolding data_blocks
  data_is i h = get_d_tabulate (blocks v l) (block v l words) i [] h

  check_is : (i : ℕ) → i < blocks v l → check_block v l words i ≡ check (check_bytes v l) (block v l words i)
  unfolding check_blocks data_blocks
  check_is i h =
      ap (λ (bs : List (List ℕ)). get_or bs i []) (map_from (check (check_bytes v l)) 0 (blocks v l) (block v l words))
      ∙ get_d_tabulate (blocks v l) (λ k. check (check_bytes v l) (block v l words k)) i [] h

  block_bytes : Bytes words → (i : ℕ) → Bytes (block v l words i)
  unfolding block
  block_bytes h i = bytes_take (block_length v l i) (drop (block_start v l i) words) (bytes_drop (block_start v l i) words h)

  some_check : 0 < check_bytes v l
  some_check = let p : PairRange v l = pair_range v l low high level in omega arith

  -- data then check bytes are a multiple of the generator
  pub block_divisible : Bytes words → (i : ℕ) → i < blocks v l → Divisible (generator (check_bytes v l)) (data_block v l words i ++ check_block v l words i)
  block_divisible h i b =
      subst (Divisible (generator (check_bytes v l))) (sym (ap₂ (λ (x y : List ℕ). x ++ y) (data_is i b) (check_is i b)))
      (codeword (check_bytes v l) (block v l words i) some_check (block_bytes h i))

  -- and no others do
  pub block_only : Bytes words → (i : ℕ) → i < blocks v l → (u : List ℕ) → length u ≡ check_bytes v l
      → Divisible (generator (check_bytes v l)) (data_block v l words i ++ u) → u ≡ check_block v l words i
  block_only h i b u e x =
      only_codeword (check_bytes v l) (data_block v l words i) u (check_block v l words i) e
      (ap length (check_is i b) ∙ length_check (check_bytes v l) (block v l words i)) x (block_divisible h i b)

  -- the way back
  pub data_back : length words ≡ data_codewords v l → data_of v l (all_words v l words) ≡ words
  data_back full = undo v l words (pair_range v l low high level) full
