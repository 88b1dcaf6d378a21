-- A mask on a packed line: where it inverts a data module, the colour changes.
-- Assumes nothing.
use Rattle.std.specs.Prelude.{◌≡◌, refl, List, Bool, ltb, length, get_or}
use Rattle.std.proofs.Math.Path.{sym, ap, ap₂}
use Rattle.std.proofs.Common.{◌∙◌, div-add-mod', zero-lt-suc, not-suc-le-zero, le_of_suc-le-suc, arith, ltb-true}
use Rattle.std.proofs.Math.Bool.{true, false}
use Prim.Native.Nat.{ℕ, zero, suc, ◌+◌, ◌-◌, ◌*◌, ◌%◌, ◌≤◌, ◌<◌, min}
use Rattle.std.specs.Int.Bits.{bit_xor, bit_and, differ, and_zero_l}
use Rattle.std.proofs.lemmas.Nat.{xor_block, and_block}
use Rattle.standard.specs.Numbers.{one, from, tabulate}
use Rattle.standard.specs.Masks.{inverts}
use Rattle.standard.specs.Penalty.{module_of, row, column}
use Rattle.laws.specs.Xor.{xor_half, xor_odd}
use Rattle.laws.specs.Lists.{from_cong}
use Rattle.laws.specs.Grid.{paint, cell_paint, cell_lt}
use Rattle.modules.specs.Mask.{flip, masked}
use Rattle.penalty.specs.Windows.{is}
use Rattle.penalty.specs.Lines.{colours, colour_at}
use Rattle.packed.specs.Digits.{value, value_odd, value_half, and_half, and_odd}
use Rattle.packed.specs.Frame.{frame, value_frame}
use Rattle.packed.specs.Packs.{digit_of, digit_at, at_lt}
use Rattle.packed.specs.Masks.{twelve, spread, row_mask_lem, column_mask_lem}

-- ---- digit by digit

module _ (c f m : ℕ → ℕ) (hc : (i : ℕ) → c i < 2) (hf : (i : ℕ) → f i < 2) (hm : (i : ℕ) → m i < 2) where
  pub inverted : ℕ → ℕ
  inverted i = differ (c i) (min (f i) (m i))

  mixed : (k n e : ℕ) → n ≤ e → bit_xor (value (from k n c)) (bit_and (value (from k n f)) (value (from k e m))) ≡ value (from k n inverted)
  unfolding value inverted
  mixed k zero e l = ap (bit_xor 0) (and_zero_l (value (from k e m)))
  mixed k (suc n) zero l = absurd (not-suc-le-zero l)
  mixed k (suc n) (suc e) l =
      sym (div-add-mod' x 2)
      ∙ ap₂ (λ (a b : ℕ). a * 2 + b)
      (xor_half cs (bit_and fs ms)
      ∙ ap₂ bit_xor (value_half (c k) (from (suc k) n c) (hc k))
      (and_half fs ms ∙ ap₂ bit_and (value_half (f k) (from (suc k) n f) (hf k)) (value_half (m k) (from (suc k) e m) (hm k)))
      ∙ mixed (suc k) n e (le_of_suc-le-suc l))
      (xor_odd cs (bit_and fs ms)
      ∙ ap₂ differ (value_odd (c k) (from (suc k) n c) (hc k))
      (and_odd fs ms ∙ ap₂ min (value_odd (f k) (from (suc k) n f) (hf k)) (value_odd (m k) (from (suc k) e m) (hm k))))
    where
      cs : ℕ
      cs = value (from k (suc n) c)

      fs : ℕ
      fs = value (from k (suc n) f)

      ms : ℕ
      ms = value (from k (suc e) m)

      x : ℕ
      x = bit_xor cs (bit_and fs ms)

-- four places before each
sixteen : (a b d : ℕ) → bit_xor (a * 16) (bit_and (b * 16) (d * 16)) ≡ bit_xor a (bit_and b d) * 16
sixteen a b d =
    ap₂ (λ (x y : ℕ). bit_xor x y) (is (a * 16) (a * 16 + 0) (omega arith))
    (ap₂ bit_and (is (b * 16) (b * 16 + 0) (omega arith)) (is (d * 16) (d * 16 + 0) (omega arith))
    ∙ and_block 4 b d 0 0 (zero-lt-suc 15) (zero-lt-suc 15))
    ∙ xor_block 4 a (bit_and b d) 0 0 (zero-lt-suc 15) (zero-lt-suc 15)
    ∙ is (bit_xor a (bit_and b d) * 16 + 0) (bit_xor a (bit_and b d) * 16) (omega arith)

one_lt : (b : Bool) → one b < 2
one_lt true = omega arith
one_lt false = omega arith

-- the colour of a module after the mask
flip_digit : (b : Bool) (v : ℕ) → differ (digit_of false v) (min (digit_of true v) (one b)) ≡ flip b v % 2
unfolding digit_of
flip_digit b v = go b (ltb v 2) refl
  where
    small : (v : ℕ) → v < 2 → differ (v % 2) 1 ≡ (1 - v) % 2
    small zero h = refl
    small (suc zero) h = refl
    small (suc (suc v)) h = absurd (omega arith)

    same : (n : ℕ) → n < 2 → differ n 0 ≡ n
    same zero h = refl
    same (suc zero) h = refl
    same (suc (suc n)) h = absurd (omega arith)

    bound : v % 2 < 2
    bound = omega arith

    go : (b t : Bool) → ltb v 2 ≡ t → differ (v % 2) (min (one (ltb v 2)) (one b)) ≡ flip b v % 2
    go true true e = rw e (small v (ltb-true v 2 e))
    go true false e = rw e (same (v % 2) bound)
    go false true e = rw e (same (v % 2) bound)
    go false false e = rw e (same (v % 2) bound)

-- ---- a line

-- modules a, b, .. at start, start + step, ..; the mask inverts where t says
module _ (s : ℕ) (g : List ℕ) (start step : ℕ) (t : ℕ → Bool) (l : s ≤ 177) where
  pub line_masked : (c f m r : ℕ) → c ≡ value (frame (tabulate s (digit_at false g start step))) → f ≡ value (frame (tabulate s (digit_at true g start step)))
      → m ≡ value (tabulate 188 (λ i. one (t i))) * 16 → r ≡ bit_xor c (bit_and f m)
      → r ≡ value (frame (tabulate s (λ i. flip (t i) (get_or g (start + i * step) 0) % 2)))
  unfolding inverted digit_at
  line_masked c f m r ec ef em q =
      q
      ∙ ap₂ bit_xor (ec ∙ value_frame (tabulate s (digit_at false g start step)))
      (ap₂ bit_and (ef ∙ value_frame (tabulate s (digit_at true g start step))) em)
      ∙ sixteen (value (tabulate s (digit_at false g start step))) (value (tabulate s (digit_at true g start step))) (value (tabulate 188 (λ i. one (t i))))
      ∙ ap (λ (n : ℕ). n * 16)
      (mixed (digit_at false g start step) (digit_at true g start step) (λ i. one (t i)) (at_lt false g start step) (at_lt true g start step) (λ i. one_lt (t i)) 0 s 188 (omega arith)
      ∙ ap value (from_cong 0 s _ _ (λ i o h. flip_digit (t i) (get_or g (start + i * step) 0))))
      ∙ sym (value_frame (tabulate s (λ i. flip (t i) (get_or g (start + i * step) 0) % 2)))

-- ---- rows and columns of a masked grid

module _ (s : ℕ) (g : List ℕ) (size : length g ≡ s * s) (p : ℕ) where
  cell : (x y : ℕ) → x < s → y < s → module_of s (colours (paint s (masked p) g)) x y ≡ flip (inverts p x y) (get_or g (y * s + x) 0) % 2
  unfolding module_of
  cell x y hx hy =
      colour_at (paint s (masked p) g) (y * s + x) ∙ ap (λ (n : ℕ). n % 2) (cell_paint s (masked p) g x y hx (cell_lt s g size x y hx hy))

  row_flipped : (y : ℕ) → y < s → tabulate s (λ i. flip (inverts p i y) (get_or g (y * s + i * 1) 0) % 2) ≡ row s (colours (paint s (masked p) g)) y
  unfolding row
  row_flipped y h =
      from_cong 0 s _ _
      (λ i o l.
      ap (λ (k : ℕ). flip (inverts p i y) (get_or g k 0) % 2) (is (y * s + i * 1) (y * s + i) (omega arith)) ∙ sym (cell i y (omega arith) h))

  column_flipped : (x : ℕ) → x < s → tabulate s (λ i. flip (inverts p x i) (get_or g (x + i * s) 0) % 2) ≡ column s (colours (paint s (masked p) g)) x
  unfolding column
  column_flipped x h =
      from_cong 0 s _ _
      (λ i o l.
      ap (λ (k : ℕ). flip (inverts p x i) (get_or g k 0) % 2) (is (x + i * s) (i * s + x) (omega arith)) ∙ sym (cell x i h (omega arith)))

  pub row_masked : (y c f m r : ℕ) → c ≡ value (frame (tabulate s (digit_at false g (y * s) 1))) → f ≡ value (frame (tabulate s (digit_at true g (y * s) 1)))
      → m ≡ spread (twelve p y) → r ≡ bit_xor c (bit_and f m) → p < 8 → y < s → s ≤ 177
      → r ≡ value (frame (row s (colours (paint s (masked p) g)) y))
  row_masked y c f m r ec ef em q hp hy l =
      line_masked s g (y * s) 1 (λ i. inverts p i y) l c f m r ec ef (em ∙ row_mask_lem p y hp (omega arith)) q
      ∙ ap (λ (xs : List ℕ). value (frame xs)) (row_flipped y hy)

  pub column_masked : (x c f m r : ℕ) → c ≡ value (frame (tabulate s (digit_at false g x s))) → f ≡ value (frame (tabulate s (digit_at true g x s)))
      → m ≡ spread (twelve (8 + p) x) → r ≡ bit_xor c (bit_and f m) → p < 8 → x < s → s ≤ 177
      → r ≡ value (frame (column s (colours (paint s (masked p) g)) x))
  column_masked x c f m r ec ef em q hp hx l =
      line_masked s g x s (λ i. inverts p x i) l c f m r ec ef (em ∙ column_mask_lem p x hp (omega arith)) q
      ∙ ap (λ (xs : List ℕ). value (frame xs)) (column_flipped x hx)
