-- Sizes: the side of a grid, the modules that carry codewords, and how they are shared out. v is a version, l a level.
-- Document 01, "What the label covers" and "Blocks and field". Assumes nothing.
use Rattle.std.specs.Prelude.{ℕ, ◌+◌, ◌-◌, ◌*◌, ◌/◌, ◌%◌, cond, [], leb, get_or}
use Rattle.standard.specs.Tables.{check_table, block_table}

abbrev pub side : ℕ → ℕ
side v = 4 * v + 17

-- alignment centres on an axis, from version 2
abbrev pub centres : ℕ → ℕ
centres v = v / 7 + 2

-- modules that are no function modules
unfoldable pub raw_modules : ℕ → ℕ
raw_modules v =
    (16 * v + 128) * v + 64 - cond (leb 2 v) ((25 * centres v - 10) * centres v - 55) 0 - cond (leb 7 v) 36 0

unfoldable pub raw_codewords : ℕ → ℕ
raw_codewords v = raw_modules v / 8

-- check bytes in each block
unfoldable pub check_bytes : ℕ → ℕ → ℕ
check_bytes v l = get_or (get_or check_table l []) v 0

unfoldable pub blocks : ℕ → ℕ → ℕ
blocks v l = get_or (get_or block_table l []) v 0

unfoldable pub data_codewords : ℕ → ℕ → ℕ
data_codewords v l = raw_codewords v - check_bytes v l * blocks v l

-- data bits
unfoldable pub capacity : ℕ → ℕ → ℕ
capacity v l = 8 * data_codewords v l

-- short blocks come first; each later block holds one data byte more
unfoldable pub short_blocks : ℕ → ℕ → ℕ
short_blocks v l = blocks v l - raw_codewords v % blocks v l

-- data bytes in a short block
unfoldable pub short_length : ℕ → ℕ → ℕ
short_length v l = raw_codewords v / blocks v l - check_bytes v l
