-- Level and mask are read back from the first copy of the format bits: its bits 14 to 10 stand in row 8, columns 0 to 4.
-- Assumes nothing.
use Rattle.std.specs.Prelude.{ℕ, ◌+◌, ◌-◌, ◌*◌, ◌/◌, ◌%◌, ◌^◌, ◌≤◌, ◌<◌, Bool, true, false, not, ◌&&◌, List, ◌≡◌, refl, T, eqb, get_or}
use native.Mathlib.Omega.{arith}
use Rattle.std.proofs.Math.Arith.{digits_div, digits_mod, digits_lt}
use Rattle.std.specs.Int.Bits.{bit_xor}
use Rattle.std.proofs.lemmas.Nat.{xor_lt}
use Rattle.std.proofs.Common.{eqb→eq}
use Rattle.standard.proofs.Open.{opened}
use Rattle.standard.specs.Numbers.{bit}
use Rattle.standard.specs.Sizes.{side}
use Rattle.standard.specs.Format.{level_bits, format_word, format_place, on_format, format_colour, on_version}
use Rattle.standard.specs.Functions.{is_function, function_colour}
use Rattle.standard.specs.Grid.{module_at, grid}
use Rattle.laws.specs.Lists.{get_d_tabulate}
use Rattle.laws.specs.Tests.{T_true, and_left, and_right}
use Rattle.laws.specs.Computed.{among, below, at_version}

-- ---- what is read

-- the module (x, 8)
abbrev pub format_bit : ℕ → List ℕ → ℕ → ℕ
format_bit s g x = get_or g (8 * s + x) 0 % 2

-- five bits, without the word by which they are hidden
abbrev pub from_bits : ℕ → ℕ → ℕ → ℕ → ℕ → ℕ
from_bits a b c d e = bit_xor (16 * a + 8 * b + 4 * c + 2 * d + e) 0x15

unfoldable pub format_data : ℕ → List ℕ → ℕ
format_data s g = from_bits (format_bit s g 0) (format_bit s g 1) (format_bit s g 2) (format_bit s g 3) (format_bit s g 4)

-- the level whose two bits they are: Low 1, Medium 0, Quartile 3, High 2 goes both ways
unfoldable pub read_level : ℕ → List ℕ → ℕ
read_level s g = level_bits (format_data s g / 8)

unfoldable pub read_mask : ℕ → List ℕ → ℕ
read_mask s g = format_data s g % 8

-- ---- where the bits stand, at every version

placed : ℕ → ℕ → Bool
placed v x = is_function v x 8 && (not (on_version v x 8) && (on_format (side v) x 8 && eqb (format_place (side v) x 8) (14 - x)))

all_placed : T (among 1 40 (λ v. among 0 5 (placed v)))
unfolding placed opened
all_placed = tt

not_true : (b : Bool) → T (not b) → b ≡ false
not_true true t = absurd t
not_true false t = refl

module _ (v x : ℕ) (low : 1 ≤ v) (high : v ≤ 40) (few : x < 5) where
  here : T (placed v x)
  here = below (placed v) 5 (at_version (λ v. among 0 5 (placed v)) all_placed v low high) x few

  function : is_function v x 8 ≡ true
  unfolding placed
  function = T_true _ (and_left (is_function v x 8) _ here)

  rest : T (not (on_version v x 8) && (on_format (side v) x 8 && eqb (format_place (side v) x 8) (14 - x)))
  unfolding placed
  rest = and_right (is_function v x 8) _ here

  off_version : on_version v x 8 ≡ false
  off_version = not_true _ (and_left (not (on_version v x 8)) _ rest)

  on_format_lem : on_format (side v) x 8 ≡ true
  on_format_lem = T_true _ (and_left (on_format (side v) x 8) _ (and_right (not (on_version v x 8)) _ rest))

  bit_place : format_place (side v) x 8 ≡ 14 - x
  bit_place = eqb→eq _ _ (and_right (on_format (side v) x 8) _ (and_right (not (on_version v x 8)) _ rest))

  colour : (word : ℕ) → function_colour v word x 8 ≡ bit (2 ^ 15 + word) (14 - x)
  unfolding function_colour format_colour
  colour word = rw (off_version, on_format_lem, bit_place)

  at_grid : (l m : ℕ) (g : List ℕ) → format_bit (side v) (grid v l m g) x ≡ bit (2 ^ 15 + format_word l m) (14 - x) % 2
  unfolding grid module_at
  at_grid l m g =
      let inside : x < side v = omega arith in
      let eight : 8 < side v = omega arith in
      rw (get_d_tabulate (side v * side v) (module_at v (format_word l m) m g) (8 * side v + x) 0 (digits_lt eight inside), digits_mod 8 inside, digits_div 8 inside, function, colour (format_word l m))

-- ---- the five bits of each word

hidden : ℕ → ℕ → ℕ
hidden l m =
    let w = 2 ^ 15 + format_word l m in
    from_bits (bit w 14 % 2) (bit w 13 % 2) (bit w 12 % 2) (bit w 11 % 2) (bit w 10 % 2)

found : ℕ → ℕ → Bool
found l m = let d = hidden l m in eqb (level_bits (d / 8)) l && eqb (d % 8) m

all_found : T (among 0 4 (λ l. among 0 8 (found l)))
unfolding found hidden opened
all_found = tt

module _ (v l m : ℕ) (g : List ℕ) (low : 1 ≤ v) (high : v ≤ 40) (level : l ≤ 3) (mask : m ≤ 7) where
  same_data : format_data (side v) (grid v l m g) ≡ hidden l m
  unfolding format_data hidden
  same_data =
      rw (at_grid v 0 low high (omega arith) l m g, at_grid v 1 low high (omega arith) l m g, at_grid v 2 low high (omega arith) l m g, at_grid v 3 low high (omega arith) l m g, at_grid v 4 low high (omega arith) l m g)

  both : T (found l m)
  both = below (found l) 8 (below (λ l. among 0 8 (found l)) 4 all_found l (omega arith)) m (omega arith)

  -- THE LAW: from a label's grid its level and mask are read
  pub read_level_lem : read_level (side v) (grid v l m g) ≡ l
  unfolding read_level found
  read_level_lem = rw same_data (eqb→eq _ _ (and_left (eqb (level_bits (hidden l m / 8)) l) _ both))

  pub read_mask_lem : read_mask (side v) (grid v l m g) ≡ m
  unfolding read_mask found
  read_mask_lem = rw same_data (eqb→eq _ _ (and_right (eqb (level_bits (hidden l m / 8)) l) _ both))

-- ---- as the code reads them

pub bit_is : (s at x : ℕ) (g : List ℕ) → at ≡ 8 * s + x → get_or g at 0 % 2 ≡ format_bit s g x
bit_is s at x g e = rw e

pub level_three : (b : ℕ) → 3 ≤ b → b < 4 → 2 ≡ level_bits b
unfolding level_bits
level_three b low high = let e : b ≡ 3 = omega arith in rw e

xor_small : (a b c d e : ℕ) → a < 2 → b < 2 → c < 2 → d < 2 → e < 2 → from_bits a b c d e < 32
xor_small a b c d e ha hb hc hd he = xor_lt 5 (16 * a + 8 * b + 4 * c + 2 * d + e) 0x15 (omega arith) (omega arith)

pub data_small : (s n : ℕ) (g : List ℕ) → n ≡ format_data s g → n < 32
unfolding format_data
data_small s n g e =
    rw e (xor_small (format_bit s g 0) (format_bit s g 1) (format_bit s g 2) (format_bit s g 3) (format_bit s g 4) (omega arith) (omega arith) (omega arith) (omega arith) (omega arith))

pub data_is : (s a b c d e : ℕ) (g : List ℕ) → a ≡ format_bit s g 0 → b ≡ format_bit s g 1 → c ≡ format_bit s g 2 → d ≡ format_bit s g 3 → e ≡ format_bit s g 4
    → from_bits a b c d e ≡ format_data s g
unfolding format_data
data_is s a b c d e g p q r t u = rw (p, q, r, t, u)

pub level_is : (s t n : ℕ) (g : List ℕ) (k : ℕ) → k ≡ level_bits (n / 8) → n ≡ format_data s g → s ≡ t → k ≡ read_level t g
unfolding read_level
level_is s t n g k e f q = rw (f, q) at e

pub mask_is : (s t n : ℕ) (g : List ℕ) → n ≡ format_data s g → s ≡ t → n % 8 ≡ read_mask t g
unfolding read_mask
mask_is s t n g f q = rw (f, q)
