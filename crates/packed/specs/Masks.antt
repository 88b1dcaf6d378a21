-- The lines of the masks, packed: they repeat after twelve lines and after twelve modules.
-- Assumes nothing.
use Rattle.std.specs.Prelude.{◌≡◌, Bool, List, [], ◌∷◌, ℕ, ◌+◌, ◌*◌, ◌/◌, ◌%◌, ◌^◌, ◌<◌, T, eqb, get_or}
use Rattle.std.proofs.Common.{sym, ap, ◌∙◌, mod-eq_of_lt, arith, eqb→eq}
use Rattle.std.proofs.Math.Arith.{digits_mod}
use Rattle.standard.specs.Numbers.{one, tabulate}
use Rattle.standard.specs.Masks.{mask_number, inverts}
use Rattle.laws.specs.Computed.{among, below}
use Rattle.packed.specs.Digits.{value}
use Rattle.packed.specs.Words.{join3, join_lt}

-- entry m has the rows of mask m, entry 8 + m its columns: twelve lines of twelve digits, four lines a number
unfoldable pub mask_table : List (List ℕ)
mask_table =
    (0xAAA555AAA555 ∷ 0xAAA555AAA555 ∷ 0xAAA555AAA555 ∷ [])
    ∷ (0x000FFF000FFF ∷ 0x000FFF000FFF ∷ 0x000FFF000FFF ∷ [])
    ∷ (0x249249249249 ∷ 0x249249249249 ∷ 0x249249249249 ∷ [])
    ∷ (0x249492924249 ∷ 0x924249492924 ∷ 0x492924249492 ∷ [])
    ∷ (0xE38E381C71C7 ∷ 0xE38E381C71C7 ∷ 0xE38E381C71C7 ∷ [])
    ∷ (0x555249041FFF ∷ 0x041FFF041249 ∷ 0x041249555249 ∷ [])
    ∷ (0x5556DB1C7FFF ∷ 0x1C7FFFC71B6D ∷ 0xC71B6D5556DB ∷ [])
    ∷ (0xAAAC71E38555 ∷ 0xE3855538E1C7 ∷ 0x38E1C7AAAC71 ∷ [])
    ∷ (0xAAA555AAA555 ∷ 0xAAA555AAA555 ∷ 0xAAA555AAA555 ∷ [])
    ∷ (0x555555555555 ∷ 0x555555555555 ∷ 0x555555555555 ∷ [])
    ∷ (0xFFF000000FFF ∷ 0x000FFF000000 ∷ 0x000000FFF000 ∷ [])
    ∷ (0x249492924249 ∷ 0x924249492924 ∷ 0x492924249492 ∷ [])
    ∷ (0xCCC333333333 ∷ 0x333333CCCCCC ∷ 0xCCCCCCCCC333 ∷ [])
    ∷ (0x555249041FFF ∷ 0x041FFF041249 ∷ 0x041249555249 ∷ [])
    ∷ (0x5556DB1C7FFF ∷ 0x1C7FFFC71B6D ∷ 0xC71B6D5556DB ∷ [])
    ∷ (0xAAAC71E38555 ∷ 0xE3855538E1C7 ∷ 0x38E1C7AAAC71 ∷ [])
    ∷ []

-- the first twelve modules of line k
unfoldable pub twelve : ℕ → ℕ → ℕ
twelve p k = get_or (get_or mask_table p []) (k % 12 / 4) 0 / 2 ^ (12 * (k % 12 % 4)) % 4096

-- twelve modules again and again, in three words with four places before them
unfoldable pub spread : ℕ → ℕ
spread p =
    let t = p / 16 + p % 16 * 256 in
    join3 (p * 0x10010010010010) (p * 0x1001001001001 + p % 16 * 0x1000000000000000) (t * 0x1001001001001 + t % 16 * 0x1000000000000000)

-- where mask m inverts a module of row k, and of column k
abbrev pub row_mask : ℕ → ℕ → ℕ → ℕ
row_mask m k i = one (inverts m i k)

abbrev pub column_mask : ℕ → ℕ → ℕ → ℕ
column_mask m k i = one (inverts m k i)

row_test : ℕ → ℕ → Bool
row_test m k = eqb (spread (twelve m k)) (value (tabulate 188 (row_mask m k)) * 16)

column_test : ℕ → ℕ → Bool
column_test m k = eqb (spread (twelve (8 + m) k)) (value (tabulate 188 (column_mask m k)) * 16)

rows_all : T (among 0 8 (λ m. among 0 177 (row_test m)))
unfolding row_test spread twelve mask_table value join3 inverts mask_number
rows_all = tt

columns_all : T (among 0 8 (λ m. among 0 177 (column_test m)))
unfolding column_test spread twelve mask_table value join3 inverts mask_number
columns_all = tt

pub row_mask_lem : (m k : ℕ) → m < 8 → k < 177 → spread (twelve m k) ≡ value (tabulate 188 (row_mask m k)) * 16
unfolding row_test
row_mask_lem m k h l =
    eqb→eq (spread (twelve m k)) (value (tabulate 188 (row_mask m k)) * 16)
    (below (row_test m) 177 (below (λ m. among 0 177 (row_test m)) 8 rows_all m h) k l)

pub column_mask_lem : (m k : ℕ) → m < 8 → k < 177 → spread (twelve (8 + m) k) ≡ value (tabulate 188 (column_mask m k)) * 16
unfolding column_test
column_mask_lem m k h l =
    eqb→eq (spread (twelve (8 + m) k)) (value (tabulate 188 (column_mask m k)) * 16)
    (below (column_test m) 177 (below (λ m. among 0 177 (column_test m)) 8 columns_all m h) k l)

-- what is spread fits its word
pub turned_lt : (p : ℕ) → p < 4096 → p / 16 + p % 16 * 256 < 4096
turned_lt p h = omega arith

pub spread_fits : (t : ℕ) → t < 4096 → t * 0x1001001001001 + t % 16 * 0x1000000000000000 < 2 ^ 64
spread_fits t h = omega arith

-- what has room for 64 digits of it has its first word, and what has room for 192 all three
pub spread_first : (p : ℕ) → p < 4096 → p * 0x10010010010010 ≡ spread p % 2 ^ 64
unfolding spread join3
spread_first p h = sym (digits_mod _ {m = 2 ^ 64} {r = p * 0x10010010010010} (omega arith))

pub spread_all : (p x : ℕ) → p < 4096 → x ≡ spread p % 2 ^ 64
    → join3 x (p * 0x1001001001001 + p % 16 * 0x1000000000000000) ((p / 16 + p % 16 * 256) * 0x1001001001001 + (p / 16 + p % 16 * 256) % 16 * 0x1000000000000000)
    ≡ spread p % 2 ^ 192
unfolding spread
spread_all p x h e =
    ap (λ (n : ℕ). join3 n (p * 0x1001001001001 + p % 16 * 0x1000000000000000) ((p / 16 + p % 16 * 256) * 0x1001001001001 + (p / 16 + p % 16 * 256) % 16 * 0x1000000000000000))
    (e ∙ sym (spread_first p h))
    ∙ sym (mod-eq_of_lt (join_lt (p * 0x10010010010010) _ _ (omega arith) (spread_fits p h) (spread_fits (p / 16 + p % 16 * 256) (turned_lt p h))))
