-- A grid of side * side cells is a list, row by row: cell (x, y) stands at y * side + x.
-- A pattern says what becomes of a cell: p x y v is the new value of the cell (x, y) that holds v.
-- Assumes nothing.
use Rattle.std.specs.Prelude.{◌≡◌, refl, List, Bool, true, false, cond, ◌&&◌, ◌⊎◌, ℕ, zero, suc, ◌+◌, ◌*◌, ◌/◌, ◌%◌, ◌≤◌, ◌<◌, length, get_or, set, ltb, eqb}
use Rattle.std.proofs.Common.{sym, ap, ◌∙◌, true≢false, inl, inr, not-suc-le-zero, mod-lt, div-add-mod', div-lt_iff_lt-mul, mul-le-mul, arith, length-set, ext_get_or, get_or-set_same, get_or-set_other, lt-ltb, le-ltb, eq-eqb, ne_eqb, ltb-true, ltb-false, eqb-true}
use Rattle.std.proofs.Math.Arith.{digits_div, digits_mod, digits_lt}
use Rattle.standard.specs.Numbers.{tabulate}
use Rattle.standard.specs.Sizes.{side}
use Rattle.laws.specs.Tests.{compared, cond_and}
use Rattle.laws.specs.Lists.{length_tabulate, get_d_tabulate}

-- ---- patterns

abbrev pub Pattern : Type 0
Pattern = ℕ → ℕ → ℕ → ℕ

unfoldable pub paint : ℕ → Pattern → List ℕ → List ℕ
paint side p g = tabulate (length g) (λ k. p (k % side) (k / side) (get_or g k 0))

-- p where the test holds, and nothing elsewhere
abbrev pub on : (ℕ → ℕ → Bool) → Pattern → Pattern
on t p x y v = cond (t x y) (p x y v) v

pub length_paint : (side : ℕ) (p : Pattern) (g : List ℕ) → length (paint side p g) ≡ length g
unfolding paint
length_paint side p g = length_tabulate (length g) (λ k. p (k % side) (k / side) (get_or g k 0))

pub get_d_paint : (side : ℕ) (p : Pattern) (g : List ℕ) (k : ℕ) → k < length g → get_or (paint side p g) k 0 ≡ p (k % side) (k / side) (get_or g k 0)
unfolding paint
get_d_paint side p g k h = get_d_tabulate (length g) (λ k. p (k % side) (k / side) (get_or g k 0)) k 0 h

-- the cell (x, y) of a painted grid
pub cell_paint : (side : ℕ) (p : Pattern) (g : List ℕ) (x y : ℕ) → x < side → y * side + x < length g → get_or (paint side p g) (y * side + x) 0 ≡ p x y (get_or g (y * side + x) 0)
cell_paint side p g x y hx h = get_d_paint side p g (y * side + x) h ∙ simp (digits_mod y hx, digits_div y hx)

pub paint_paint : (side : ℕ) (p q : Pattern) (g : List ℕ) → paint side p (paint side q g) ≡ paint side (λ x y v. p x y (q x y v)) g
paint_paint side p q g =
    ext_get_or 0 _ _ (length_paint side p _ ∙ length_paint side q g ∙ sym (length_paint side _ g))
    (λ i b.
    let b' : i < length (paint side q g) = omega (arith, length_paint side p (paint side q g)) in
    let b'' : i < length g = omega (arith, length_paint side q g) in
    get_d_paint side p (paint side q g) i b' ∙ ap (p (i % side) (i / side)) (get_d_paint side q g i b'') ∙ sym (get_d_paint side _ g i b''))

keys : (m a n b : ℕ) → (eqb m a && eqb n b) ≡ true → (m ≡ a) × (n ≡ b)
keys m a n b = go (eqb m a) refl (eqb n b) refl
  where
    go : (s : Bool) → eqb m a ≡ s → (t : Bool) → eqb n b ≡ t → (s && t) ≡ true → (m ≡ a) × (n ≡ b)
    go true e true f q = (eqb-true m a e, eqb-true n b f)
    go true e false f q = absurd (true≢false (sym q))
    go false e true f q = absurd (true≢false (sym q))
    go false e false f q = absurd (true≢false (sym q))

-- two cells at one place are one cell
pub cell_inj : (side x y x' y' : ℕ) → x < side → x' < side → y' * side + x' ≡ y * side + x → (x' ≡ x) × (y' ≡ y)
cell_inj side x y x' y' hx hx' e = (
  sym (digits_mod y' hx') ∙ ap (λ (k : ℕ). k % side) e ∙ digits_mod y hx,
  sym (digits_div y' hx') ∙ ap (λ (k : ℕ). k / side) e ∙ digits_div y hx,
)

-- a grid of side * side cells: what is shown of each cell (x, y) holds of each place
module _ (side : ℕ) (g : List ℕ) (size : length g ≡ side * side) where
  pos : (k : ℕ) → k < length g → 0 < side
  pos k h = go side (omega (arith, size))
    where
      go : (s : ℕ) → k < s * s → 0 < s
      go zero b = absurd (not-suc-le-zero b)
      go (suc s) b = omega arith

  pub cell_lt : (x y : ℕ) → x < side → y < side → y * side + x < length g
  cell_lt x y hx hy = omega (arith, size, digits_lt hy hx)

  -- THE LAW: a list whose cell (x, y) is what p makes of g's cell (x, y) is g painted by p
  pub is_paint : (l : List ℕ) (p : Pattern) → length l ≡ length g
      → ((x y : ℕ) → x < side → y < side → get_or l (y * side + x) 0 ≡ p x y (get_or g (y * side + x) 0))
      → l ≡ paint side p g
  is_paint l p e h =
      ext_get_or 0 l (paint side p g) (e ∙ sym (length_paint side p g))
      (λ i b.
      let b' : i < length g = omega (arith, e) in
      let at : i / side * side + i % side ≡ i = div-add-mod' i side in
      (rw at at (h (i % side) (i / side) (mod-lt i (pos i b')) ((div-lt_iff_lt-mul (pos i b')).1 (omega (arith, size)))))
      ∙ sym (get_d_paint side p g i b'))

  -- two patterns that agree at each cell of the grid paint the same
  pub paint_ext : (p q : Pattern) → ((x y v : ℕ) → x < side → y < side → p x y v ≡ q x y v) → paint side p g ≡ paint side q g
  paint_ext p q h = is_paint _ q (length_paint side p g) (λ x y hx hy. cell_paint side p g x y hx (cell_lt x y hx hy) ∙ h x y _ hx hy)

  -- a pattern that changes no cell of the grid
  pub paint_none : (p : Pattern) → ((x y : ℕ) → x < side → y < side → p x y (get_or g (y * side + x) 0) ≡ get_or g (y * side + x) 0) → g ≡ paint side p g
  paint_none p h = is_paint g p refl (λ x y hx hy. sym (h x y hx hy))

  -- a store is a pattern at one cell: the test t holds at (x, y) and nowhere else, and what is stored is what p makes of the cell
  pub set_paint : (t : ℕ → ℕ → Bool) (p : Pattern) (x y w : ℕ) → x < side → y < side → t x y ≡ true
      → ((x' y' : ℕ) → x' < side → y' < side → t x' y' ≡ true → (x' ≡ x) × (y' ≡ y))
      → w ≡ p x y (get_or g (y * side + x) 0)
      → set g (y * side + x) w ≡ paint side (on t p) g
  set_paint t p x y w hx hy here only e =
      is_paint (set g (y * side + x) w) (on t p) (length-set g _ w) (λ x' y' hx' hy'. go x' y' hx' hy' (t x' y') refl)
    where
      go : (x' y' : ℕ) → x' < side → y' < side → (b : Bool) → t x' y' ≡ b
          → get_or (set g (y * side + x) w) (y' * side + x') 0 ≡ cond (t x' y') (p x' y' (get_or g (y' * side + x') 0)) (get_or g (y' * side + x') 0)
      go x' y' hx' hy' true q =
          let o = only x' y' hx' hy' q in
          rw (q, o.0, o.1) (get_or-set_same g (y * side + x) w 0 (cell_lt x y hx hy) ∙ e)
      go x' y' hx' hy' false q =
          rw q
          (get_or-set_other g (y * side + x) (y' * side + x') w 0
          (λ s.
          let o = cell_inj side x y x' y' hx hx' s in
          let z : true ≡ false = sym here ∙ rw (o.0, o.1) at q in
          absurd (true≢false z)))

  -- the same with two keys, as a loop in a loop has them: the cell (x, y) is the one with the keys a and b
  pub set_keys : (kr kc : ℕ → ℕ → ℕ) (a b : ℕ) (p : Pattern) (x y w : ℕ) → x < side → y < side → kr x y ≡ a → kc x y ≡ b
      → ((x' y' : ℕ) → x' < side → y' < side → kr x' y' ≡ a → kc x' y' ≡ b → (x' ≡ x) × (y' ≡ y))
      → w ≡ p x y (get_or g (y * side + x) 0)
      → set g (y * side + x) w ≡ paint side (on (λ x y. eqb (kr x y) a) (on (λ x y. eqb (kc x y) b) p)) g
  set_keys kr kc a b p x y w hx hy ea eb only e =
      set_paint (λ x y. eqb (kr x y) a && eqb (kc x y) b) p x y w hx hy (simp (eq-eqb _ _ ea, eq-eqb _ _ eb))
      (λ x' y' hx' hy' q. let k = keys (kr x' y') a (kc x' y') b q in only x' y' hx' hy' k.0 k.1) e
      ∙ paint_ext _ _ (λ x y v hx hy. cond_and (eqb (kr x y) a) (eqb (kc x y) b) _ _)

  -- no cell has these keys, or p leaves those that have
  pub none_keys : (kr kc : ℕ → ℕ → ℕ) (a b : ℕ) (p : Pattern)
      → ((x y : ℕ) → x < side → y < side → kr x y ≡ a → kc x y ≡ b → p x y (get_or g (y * side + x) 0) ≡ get_or g (y * side + x) 0)
      → g ≡ paint side (on (λ x y. eqb (kr x y) a) (on (λ x y. eqb (kc x y) b) p)) g
  none_keys kr kc a b p h =
      paint_none _
      (λ x y hx hy. sym (cond_and (eqb (kr x y) a) (eqb (kc x y) b) _ _) ∙ go x y hx hy (eqb (kr x y) a && eqb (kc x y) b) refl)
    where
      go : (x y : ℕ) → x < side → y < side → (t : Bool) → (eqb (kr x y) a && eqb (kc x y) b) ≡ t
          → cond (eqb (kr x y) a && eqb (kc x y) b) (p x y (get_or g (y * side + x) 0)) (get_or g (y * side + x) 0) ≡ get_or g (y * side + x) 0
      go x y hx hy true q = let k = keys (kr x y) a (kc x y) b q in rw q (h x y hx hy k.0 k.1)
      go x y hx hy false q = rw q

-- ---- a scan: a loop whose turn n treats the cells with key n has treated, before turn n, the cells with keys below n

scan_at : (b : Bool) (k n : ℕ) (f : ℕ → ℕ) (v : ℕ)
    → cond b (cond (eqb k n) (f (cond b (cond (ltb k n) (f v) v) v)) (cond b (cond (ltb k n) (f v) v) v)) (cond b (cond (ltb k n) (f v) v) v)
    ≡ cond b (cond (ltb k (n + 1)) (f v) v) v
scan_at false k n f v = refl
scan_at true k n f v = go (compared k n)
  where
    go : (k < n) ⊎ ((k ≡ n) ⊎ (n < k)) → cond (eqb k n) (f (cond (ltb k n) (f v) v)) (cond (ltb k n) (f v) v) ≡ cond (ltb k (n + 1)) (f v) v
    go (inl h) = simp (lt-ltb k n h, ne_eqb k n (λ e. omega arith), lt-ltb k (n + 1) (omega arith))
    go (inr (inl h)) = simp (le-ltb k n (omega arith), eq-eqb k n h, lt-ltb k (n + 1) (omega arith))
    go (inr (inr h)) = simp (le-ltb k n (omega arith), ne_eqb k n (λ e. omega arith), le-ltb k (n + 1) (omega arith))

pub scan : (side : ℕ) (row : ℕ → ℕ → Bool) (key : ℕ → ℕ → ℕ) (n : ℕ) (p : Pattern) (g : List ℕ)
    → paint side (on row (on (λ x y. eqb (key x y) n) p)) (paint side (on row (on (λ x y. ltb (key x y) n) p)) g)
    ≡ paint side (on row (on (λ x y. ltb (key x y) (n + 1)) p)) g
scan side row key n p g =
    paint_paint side _ _ g ∙ ap (λ (q : Pattern). paint side q g) (λ i x y v. scan_at (row x y) (key x y) n (p x y) v i)

-- before a scan: p changes no cell whose key is below lo
pub scan_start : (side : ℕ) (g : List ℕ) → length g ≡ side * side → (row : ℕ → ℕ → Bool) (key : ℕ → ℕ → ℕ) (lo : ℕ) (p : Pattern)
    → ((x y v : ℕ) → key x y < lo → p x y v ≡ v)
    → g ≡ paint side (on row (on (λ x y. ltb (key x y) lo) p)) g
scan_start side g size row key lo p h =
    paint_none side g size _ (λ x y hx hy. outer (row x y) (inner x y _ (ltb (key x y) lo) refl))
  where
    inner : (x y v : ℕ) (b : Bool) → ltb (key x y) lo ≡ b → cond (ltb (key x y) lo) (p x y v) v ≡ v
    inner x y v true e = rw e (h x y v (ltb-true _ _ e))
    inner x y v false e = rw e

    outer : (b : Bool) {w v : ℕ} → w ≡ v → cond b w v ≡ v
    outer true e = e
    outer false e = refl

-- after a scan: p changes no cell of the grid whose key is hi or more
pub scan_end : (side : ℕ) (g : List ℕ) → length g ≡ side * side → (row : ℕ → ℕ → Bool) (key : ℕ → ℕ → ℕ) (hi : ℕ) (p : Pattern)
    → ((x y v : ℕ) → x < side → y < side → hi ≤ key x y → p x y v ≡ v)
    → paint side (on row (on (λ x y. ltb (key x y) hi) p)) g ≡ paint side (on row p) g
scan_end side g size row key hi p h =
    paint_ext side g size _ _ (λ x y v hx hy. ap (λ (w : ℕ). cond (row x y) w v) (inner x y v hx hy (ltb (key x y) hi) refl))
  where
    inner : (x y v : ℕ) → x < side → y < side → (b : Bool) → ltb (key x y) hi ≡ b → cond (ltb (key x y) hi) (p x y v) v ≡ p x y v
    inner x y v hx hy true e = rw e
    inner x y v hx hy false e = rw e (sym (h x y v hx hy (ltb-false _ _ e)))

-- ---- what the drawing functions ask of a grid

pub record Square (g : List ℕ) (side : ℕ) : Type 0 where
  pub size : length g ≡ side * side
  pub small : side ≤ 177

pub square_small : (side : ℕ) → side ≤ 177 → side * side ≤ 31329
square_small side h = mul-le-mul h h

pub area_small : (v s : ℕ) → s ≡ side v → v ≤ 40 → s * s ≤ 31329
area_small v s e high = let k : s ≤ 177 = omega arith in square_small s k

-- by the side as a number
pub square_size : (s n : ℕ) (g : List ℕ) → Square g n → s ≡ n → length g ≡ s * s
square_size s n g sq q = rw q sq.size

-- two patterns, one after the other
abbrev pub then : Pattern → Pattern → Pattern
then p q x y v = q x y (p x y v)

pub paint_then : (side : ℕ) (p q : Pattern) (g h i : List ℕ) → h ≡ paint side p g → i ≡ paint side q h → i ≡ paint side (then p q) g
paint_then side p q g h i e f = f ∙ rw e (paint_paint side q p g)
