-- Blocks, and how their bytes are interleaved.
-- Document 01, "Blocks and field". Assumes nothing.
use Rattle.std.specs.Prelude.{ℕ, suc, ◌+◌, ◌-◌, ◌*◌, List, ◌++◌, map, leb, take, drop}
use Rattle.standard.specs.Numbers.{one, tabulate, join}
use Rattle.standard.specs.Sizes.{check_bytes, blocks, short_blocks, short_length}
use Rattle.standard.specs.Field.{check}

-- of data block i: how many bytes, and where they start
unfoldable pub block_length : ℕ → ℕ → ℕ → ℕ
block_length v l i = short_length v l + one (leb (short_blocks v l) i)

unfoldable pub block_start : ℕ → ℕ → ℕ → ℕ
block_start v l i = i * short_length v l + (i - short_blocks v l)

unfoldable pub block : ℕ → ℕ → List ℕ → ℕ → List ℕ
block v l words i = take (block_length v l i) (drop (block_start v l i) words)

unfoldable pub data_blocks : ℕ → ℕ → List ℕ → List (List ℕ)
data_blocks v l words = tabulate (blocks v l) (block v l words)

unfoldable pub check_blocks : ℕ → ℕ → List (List ℕ) → List (List ℕ)
check_blocks v l bs = map (check (check_bytes v l)) bs

-- byte c of each block that has one
unfoldable pub column : List (List ℕ) → ℕ → List ℕ
column bs c = join (map (λ b. take 1 (drop c b)) bs)

-- n columns
unfoldable pub interleave : ℕ → List (List ℕ) → List ℕ
interleave n bs = join (tabulate n (column bs))

-- all codewords
unfoldable pub all_words : ℕ → ℕ → List ℕ → List ℕ
all_words v l words =
    let bs = data_blocks v l words in
    interleave (suc (short_length v l)) bs ++ interleave (check_bytes v l) (check_blocks v l bs)
