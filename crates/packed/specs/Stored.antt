-- Packed lines in a list of words, six a line: three of its colours, three of its data modules.
-- Assumes nothing.
use Rattle.std.specs.Prelude.{◌≡◌, refl, List, Bool, ◌⊎◌, ℕ, ◌+◌, ◌-◌, ◌*◌, ◌/◌, ◌%◌, ◌^◌, ◌≤◌, ◌<◌, length, get_or, set}
use Rattle.std.proofs.Math.Path.{sym, ap, ap₂}
use Rattle.std.proofs.Common.{◌∙◌, inl, inr, arith, length-set, get_or-set_same, get_or-set_other}
use Rattle.std.proofs.Math.Bool.{true, false}
use Rattle.std.proofs.Math.Arith.{digits_div, digits_mod}
use Rattle.std.specs.Int.Bits.{bit_xor, bit_and}
use Rattle.standard.specs.Numbers.{from, tabulate}
use Rattle.standard.specs.Penalty.{row, column}
use Rattle.laws.specs.Lists.{from_cong}
use Rattle.laws.specs.Tests.{compared}
use Rattle.laws.specs.Grid.{paint}
use Rattle.modules.specs.Mask.{masked}
use Rattle.penalty.specs.Windows.{is}
use Rattle.penalty.specs.Lines.{colours}
use Rattle.packed.specs.Digits.{value}
use Rattle.packed.specs.Words.{join3}
use Rattle.packed.specs.Frame.{frame, value_frame}
use Rattle.packed.specs.Packs.{digit_of, digit_at, at_lt, word_lt, split2}
use Rattle.packed.specs.Masks.{twelve, spread}
use Rattle.packed.specs.Masked.{row_masked, column_masked}

-- the line whose words stand at p, p + 1 and p + 2
unfoldable pub line_at : List ℕ → ℕ → ℕ
line_at ws p = join3 (get_or ws p 0) (get_or ws (p + 1) 0) (get_or ws (p + 2) 0)

-- three words put there
unfoldable pub put : List ℕ → ℕ → ℕ → ℕ → ℕ → List ℕ
put ws p a b c = set (set (set ws p a) (p + 1) b) (p + 2) c

-- the words of line k are those of the modules of g at start, start + step, ..
pub record Holds (s start step : ℕ) (g ws : List ℕ) (k : ℕ) : Type 0 where
  pub colour : line_at ws (6 * k) ≡ value (frame (tabulate s (digit_at false g start step)))
  pub free : line_at ws (6 * k + 3) ≡ value (frame (tabulate s (digit_at true g start step)))

-- rows and columns
abbrev pub RowHeld : ℕ → List ℕ → List ℕ → ℕ → Type 0
RowHeld s g ws k = Holds s (k * s) 1 g ws k

abbrev pub ColumnHeld : ℕ → List ℕ → List ℕ → ℕ → Type 0
ColumnHeld s g ws k = Holds s k s g ws k

-- the lines of a grid from which g differs in row 8 and column 8 alone, where format bits stand
pub record HeldRows (s : ℕ) (g ws : List ℕ) : Type 0 where
  pub base : List ℕ
  pub size : length ws ≡ 6 * s
  pub lines : (k : ℕ) → k < s → RowHeld s base ws k
  pub same : (x y : ℕ) → x < s → y < s → (x ≡ 8 → ⊥) → (y ≡ 8 → ⊥) → get_or g (y * s + x) 0 ≡ get_or base (y * s + x) 0

pub record HeldColumns (s : ℕ) (g ws : List ℕ) : Type 0 where
  pub base : List ℕ
  pub size : length ws ≡ 6 * s
  pub lines : (k : ℕ) → k < s → ColumnHeld s base ws k
  pub same : (x y : ℕ) → x < s → y < s → (x ≡ 8 → ⊥) → (y ≡ 8 → ⊥) → get_or g (y * s + x) 0 ≡ get_or base (y * s + x) 0

-- ---- writing

pub length_put : (ws : List ℕ) (p a b c : ℕ) → length (put ws p a b c) ≡ length ws
unfolding put
length_put ws p a b c =
    length-set (set (set ws p a) (p + 1) b) (p + 2) c ∙ length-set (set ws p a) (p + 1) b ∙ length-set ws p a

put_here : (ws : List ℕ) (p a b c : ℕ) → p + 2 < length ws → line_at (put ws p a b c) p ≡ join3 a b c
unfolding line_at put
put_here ws p a b c h =
    ap₂ (λ (x y : ℕ). join3 x y (get_or (set (set (set ws p a) (p + 1) b) (p + 2) c) (p + 2) 0))
    (get_or-set_other (set (set ws p a) (p + 1) b) (p + 2) p c 0 (λ e. omega arith) ∙ get_or-set_other (set ws p a) (p + 1) p b 0 (λ e. omega arith)
    ∙ get_or-set_same ws p a 0 (omega arith))
    (get_or-set_other (set (set ws p a) (p + 1) b) (p + 2) (p + 1) c 0 (λ e. omega arith)
    ∙ get_or-set_same (set ws p a) (p + 1) b 0 (omega (arith, length-set ws p a)))
    ∙ ap (join3 a b) (get_or-set_same (set (set ws p a) (p + 1) b) (p + 2) c 0 (omega (arith, length-set (set ws p a) (p + 1) b, length-set ws p a)))

word_apart : (ws : List ℕ) (p q a b c : ℕ) → (q < p) ⊎ (p + 2 < q) → get_or (put ws p a b c) q 0 ≡ get_or ws q 0
unfolding put
word_apart ws p q a b c (inl h) =
    get_or-set_other (set (set ws p a) (p + 1) b) (p + 2) q c 0 (λ e. omega arith) ∙ get_or-set_other (set ws p a) (p + 1) q b 0 (λ e. omega arith)
    ∙ get_or-set_other ws p q a 0 (λ e. omega arith)
word_apart ws p q a b c (inr h) =
    get_or-set_other (set (set ws p a) (p + 1) b) (p + 2) q c 0 (λ e. omega arith) ∙ get_or-set_other (set ws p a) (p + 1) q b 0 (λ e. omega arith)
    ∙ get_or-set_other ws p q a 0 (λ e. omega arith)

put_before : (ws : List ℕ) (p q a b c : ℕ) → q + 2 < p → line_at (put ws p a b c) q ≡ line_at ws q
unfolding line_at
put_before ws p q a b c h =
    rw (word_apart ws p q a b c (inl (omega arith)), word_apart ws p (q + 1) a b c (inl (omega arith)), word_apart ws p (q + 2) a b c (inl h))

-- a line is written: first its colours, then its data modules
module _ (s start step k : ℕ) (g ws us vs : List ℕ) (a b c d e f : ℕ) (first : us ≡ put ws (6 * k) a b c) (second : vs ≡ put us (6 * k + 3) d e f) where
  pub holds_written : join3 a b c ≡ value (frame (tabulate s (digit_at false g start step))) → join3 d e f ≡ value (frame (tabulate s (digit_at true g start step)))
      → 6 * k + 5 < length ws → Holds s start step g vs k
  holds_written x y l =
      record {
        colour =
            ap (λ (zs : List ℕ). line_at zs (6 * k)) second ∙ put_before us (6 * k + 3) (6 * k) d e f (omega arith)
            ∙ ap (λ (zs : List ℕ). line_at zs (6 * k)) first ∙ put_here ws (6 * k) a b c (omega arith) ∙ x;
        free =
            ap (λ (zs : List ℕ). line_at zs (6 * k + 3)) second
            ∙ put_here us (6 * k + 3) d e f (omega (arith, ap length first, length_put ws (6 * k) a b c)) ∙ y;
      }

  pub holds_before : (t : ℕ) (j : ℕ) → j < k → Holds s t step g ws j → Holds s t step g vs j
  holds_before t j h o =
      record {
        colour = kept (6 * j) (omega arith) ∙ o.colour;
        free = kept (6 * j + 3) (omega arith) ∙ o.free;
      }
    where
      kept : (p : ℕ) → p + 2 < 6 * k → line_at vs p ≡ line_at ws p
      kept p l =
          ap (λ (zs : List ℕ). line_at zs p) second ∙ put_before us (6 * k + 3) p d e f (omega arith)
          ∙ ap (λ (zs : List ℕ). line_at zs p) first ∙ put_before ws (6 * k) p a b c l

pub length_written : (k : ℕ) (ws us vs : List ℕ) (a b c d e f : ℕ) → us ≡ put ws (6 * k) a b c → vs ≡ put us (6 * k + 3) d e f → length vs ≡ length ws
length_written k ws us vs a b c d e f first second =
    ap length second ∙ length_put us (6 * k + 3) d e f ∙ ap length first ∙ length_put ws (6 * k) a b c

-- all lines before line k are held; then all up to it
module _ (s k : ℕ) (g ws us vs : List ℕ) (a b c d e f : ℕ) (first : us ≡ put ws (6 * k) a b c) (second : vs ≡ put us (6 * k + 3) d e f)
    (size : length ws ≡ 6 * s) (here : k < s) where
  pub rows_next : join3 a b c ≡ value (frame (tabulate s (digit_at false g (k * s) 1))) → join3 d e f ≡ value (frame (tabulate s (digit_at true g (k * s) 1)))
      → ((j : ℕ) → j < k → RowHeld s g ws j) → (j : ℕ) → j < k + 1 → RowHeld s g vs j
  rows_next x y held j l = go (compared j k)
    where
      go : (j < k) ⊎ ((j ≡ k) ⊎ (k < j)) → RowHeld s g vs j
      go (inl h) = holds_before s (k * s) 1 k g ws us vs a b c d e f first second (j * s) j h (held j h)
      go (inr (inl q)) = rw q (holds_written s (k * s) 1 k g ws us vs a b c d e f first second x y (omega arith))
      go (inr (inr h)) = absurd (omega arith)

  pub columns_next : join3 a b c ≡ value (frame (tabulate s (digit_at false g k s))) → join3 d e f ≡ value (frame (tabulate s (digit_at true g k s)))
      → ((j : ℕ) → j < k → ColumnHeld s g ws j) → (j : ℕ) → j < k + 1 → ColumnHeld s g vs j
  columns_next x y held j l = go (compared j k)
    where
      go : (j < k) ⊎ ((j ≡ k) ⊎ (k < j)) → ColumnHeld s g vs j
      go (inl h) = holds_before s k s k g ws us vs a b c d e f first second j j h (held j h)
      go (inr (inl q)) = rw q (holds_written s k s k g ws us vs a b c d e f first second x y (omega arith))
      go (inr (inr h)) = absurd (omega arith)

-- ---- module 8 anew

-- a framed line with another module 8
unfoldable pub patched : ℕ → ℕ → ℕ
patched v d = v - v / 4096 % 2 * 4096 + d * 4096

pub words_patched : (n a d : ℕ) → n * 2 ^ 64 + patched a d ≡ patched (n * 2 ^ 64 + a) d
unfolding patched
words_patched n a d = omega arith

eighth : (a b c d : ℕ) → b < 256 → c < 2 → ((a * 2 + d) * 256 + b) * 16 ≡ patched (((a * 2 + c) * 256 + b) * 16) d
unfolding patched
eighth a b c d hb hc =
    is (((a * 2 + d) * 256 + b) * 16) (((a * 2 + c) * 256 + b) * 16 - c * 4096 + d * 4096) (omega arith)
    ∙ sym (ap (λ (n : ℕ). ((a * 2 + c) * 256 + b) * 16 - n * 4096 + d * 4096) bit)
  where
    bit : ((a * 2 + c) * 256 + b) * 16 / 4096 % 2 ≡ c
    bit =
        ap (λ (n : ℕ). n / 4096 % 2) (is (((a * 2 + c) * 256 + b) * 16) ((a * 2 + c) * 4096 + b * 16) (omega arith))
        ∙ ap (λ (n : ℕ). n % 2) (digits_div (a * 2 + c) {m = 4096} {r = b * 16} (omega arith)) ∙ digits_mod a {m = 2} {r = c} hc

-- module 8 of n + 9 between the others
parts : (f : ℕ → ℕ) (n : ℕ) → value (from 0 (8 + (1 + n)) f) ≡ (value (from 9 n f) * 2 + f 8) * 256 + value (from 0 8 f)
unfolding value
parts f n =
    split2 f 0 8 (1 + n)
    ∙ ap (λ (m : ℕ). m * 256 + value (from 0 8 f)) (split2 f 8 1 n ∙ ap (λ (m : ℕ). value (from 9 n f) * 2 + m) (is (0 * 2 + f 8) (f 8) (omega arith)))

pub line_patched : (s : ℕ) (f h : ℕ → ℕ) → 9 ≤ s → ((i : ℕ) → f i < 2) → ((i : ℕ) → i < s → (i ≡ 8 → ⊥) → h i ≡ f i)
    → value (frame (tabulate s h)) ≡ patched (value (frame (tabulate s f))) (h 8)
line_patched s f h l small same =
    value_frame (tabulate s h) ∙ ap (λ (m : ℕ). m * 16) whole
    ∙ eighth (value (from 9 n f)) (value (from 0 8 f)) (f 8) (h 8) (word_lt f small 0 8 8 (omega arith)) (small 8)
    ∙ ap (λ (m : ℕ). patched m (h 8)) (sym (value_frame (tabulate s f) ∙ ap (λ (m : ℕ). m * 16) (ap (λ (m : ℕ). value (tabulate m f)) split ∙ parts f n)))
  where
    n : ℕ
    n = s - 9

    split : s ≡ 8 + (1 + (s - 9))
    split = omega arith

    whole : value (tabulate s h) ≡ (value (from 9 (s - 9) f) * 2 + h 8) * 256 + value (from 0 8 f)
    whole =
        ap (λ (m : ℕ). value (tabulate m h)) split ∙ parts h (s - 9)
        ∙ ap₂ (λ (a b : ℕ). (a * 2 + h 8) * 256 + b)
        (ap value (from_cong 9 (s - 9) h f (λ i o u. same i (omega arith) (λ e. omega arith))))
        (ap value (from_cong 0 8 h f (λ i o u. same i (omega arith) (λ e. omega arith))))

-- ---- a masked line from its words

module _ (s : ℕ) (g ws : List ℕ) (p k c f m r : ℕ) (e : r ≡ bit_xor c (bit_and f m)) (l : s ≤ 177) (low : 9 ≤ s) (here : k < s) (ne : k ≡ 8 → ⊥) where
  pub row_kept : (b d c₀ f₀ : ℕ) → c ≡ patched c₀ b → f ≡ patched f₀ d → c₀ ≡ line_at ws (6 * k) → f₀ ≡ line_at ws (6 * k + 3)
      → b ≡ digit_of false (get_or g (k * s + 8) 0) → d ≡ digit_of true (get_or g (k * s + 8) 0)
      → m ≡ spread (twelve p k) → HeldRows s g ws → length g ≡ s * s → p < 8
      → r ≡ value (frame (row s (colours (paint s (masked p) g)) k))
  unfolding digit_at
  row_kept b d c₀ f₀ ec ef oc of eb ed em held size hp =
      row_masked s g size p k c f m r (line false c b (6 * k) (ec ∙ ap (λ (n : ℕ). patched n b) oc) eb (held.lines k here).colour)
      (line true f d (6 * k + 3) (ef ∙ ap (λ (n : ℕ). patched n d) of) ed (held.lines k here).free) em e hp here l
    where
      line : (t : Bool) (v b q : ℕ) → v ≡ patched (line_at ws q) b → b ≡ digit_of t (get_or g (k * s + 8) 0)
          → line_at ws q ≡ value (frame (tabulate s (digit_at t held.base (k * s) 1))) → v ≡ value (frame (tabulate s (digit_at t g (k * s) 1)))
      line t v b q ev eb eq =
          ev ∙ ap₂ patched eq (eb ∙ ap (λ (n : ℕ). digit_of t (get_or g n 0)) (is (k * s + 8) (k * s + 8 * 1) (omega arith)))
          ∙ sym (line_patched s (digit_at t held.base (k * s) 1) (digit_at t g (k * s) 1) low (at_lt t held.base (k * s) 1)
          (λ i u z.
          ap (λ (n : ℕ). digit_of t (get_or g n 0)) (is (k * s + i * 1) (k * s + i) (omega arith)) ∙ ap (digit_of t) (held.same i k u here z ne)
          ∙ ap (λ (n : ℕ). digit_of t (get_or held.base n 0)) (is (k * s + i) (k * s + i * 1) (omega arith))))

  pub column_kept : (b d c₀ f₀ : ℕ) → c ≡ patched c₀ b → f ≡ patched f₀ d → c₀ ≡ line_at ws (6 * k) → f₀ ≡ line_at ws (6 * k + 3)
      → b ≡ digit_of false (get_or g (8 * s + k) 0) → d ≡ digit_of true (get_or g (8 * s + k) 0)
      → m ≡ spread (twelve (8 + p) k) → HeldColumns s g ws → length g ≡ s * s → p < 8
      → r ≡ value (frame (column s (colours (paint s (masked p) g)) k))
  unfolding digit_at
  column_kept b d c₀ f₀ ec ef oc of eb ed em held size hp =
      column_masked s g size p k c f m r (line false c b (6 * k) (ec ∙ ap (λ (n : ℕ). patched n b) oc) eb (held.lines k here).colour)
      (line true f d (6 * k + 3) (ef ∙ ap (λ (n : ℕ). patched n d) of) ed (held.lines k here).free) em e hp here l
    where
      line : (t : Bool) (v b q : ℕ) → v ≡ patched (line_at ws q) b → b ≡ digit_of t (get_or g (8 * s + k) 0)
          → line_at ws q ≡ value (frame (tabulate s (digit_at t held.base k s))) → v ≡ value (frame (tabulate s (digit_at t g k s)))
      line t v b q ev eb eq =
          ev ∙ ap₂ patched eq (eb ∙ ap (λ (n : ℕ). digit_of t (get_or g n 0)) (is (8 * s + k) (k + 8 * s) (omega arith)))
          ∙ sym (line_patched s (digit_at t held.base k s) (digit_at t g k s) low (at_lt t held.base k s)
          (λ i u z.
          ap (λ (n : ℕ). digit_of t (get_or g n 0)) (is (k + i * s) (i * s + k) (omega arith)) ∙ ap (digit_of t) (held.same k i here u ne z)
          ∙ ap (λ (n : ℕ). digit_of t (get_or held.base n 0)) (is (i * s + k) (k + i * s) (omega arith))))

-- ---- a grid that is packed

pub rows_held : (s n : ℕ) (g ws : List ℕ) → s ≡ n → length ws ≡ 6 * s → ((k : ℕ) → k < s → RowHeld s g ws k) → HeldRows n g ws
rows_held s n g ws q size held = rw (← q) (record { base = g; size = size; lines = held; same = λ x y hx hy nx ny. refl })

pub columns_held : (s n : ℕ) (g ws : List ℕ) → s ≡ n → length ws ≡ 6 * s → ((k : ℕ) → k < s → ColumnHeld s g ws k) → HeldColumns n g ws
columns_held s n g ws q size held = rw (← q) (record { base = g; size = size; lines = held; same = λ x y hx hy nx ny. refl })

-- and one that differs from it in row 8 and column 8 alone
module _ (s : ℕ) (g h ws : List ℕ) (alike : (x y : ℕ) → x < s → y < s → (x ≡ 8 → ⊥) → (y ≡ 8 → ⊥) → get_or h (y * s + x) 0 ≡ get_or g (y * s + x) 0) where
  pub rows_alike : HeldRows s g ws → HeldRows s h ws
  rows_alike o =
      record {
        base = o.base;
        size = o.size;
        lines = o.lines;
        same = λ x y hx hy nx ny. alike x y hx hy nx ny ∙ o.same x y hx hy nx ny;
      }

  pub columns_alike : HeldColumns s g ws → HeldColumns s h ws
  columns_alike o =
      record {
        base = o.base;
        size = o.size;
        lines = o.lines;
        same = λ x y hx hy nx ny. alike x y hx hy nx ny ∙ o.same x y hx hy nx ny;
      }
