-- Reading tells grids apart: what is read into zeroed bytes, with room for every data module, tells each data module.
-- Assumes nothing.
use Prim.Native.Nat.{ℕ, zero, suc, ◌+◌, ◌-◌, ◌*◌, ◌/◌, ◌%◌, ◌≤◌, ◌<◌}
use Rattle.std.specs.Prelude.{Bool, true, false, cond, not, ◌&&◌, List, [], ◌∷◌, ◌++◌, ◌≡◌, leb, ltb, get_or, replicate}
use Rattle.std.proofs.Common.{true≢false, ⊎_elim, ap₂, ◌∙◌, subst, not-suc-le-zero, le_of_suc-le-suc, eq-or-lt_of_le, mod-lt, div-lt_iff_lt-mul, div-add-mod', le-leb, eq-eqb, ltb-true, ltb-false}
use Rattle.std.proofs.Math.Path.{refl, sym, ap}
use native.Mathlib.Omega.{arith}
use Rattle.std.proofs.Math.Arith.{digits_lt}
use Rattle.std.proofs.Math.ListN.{length, length-append}
use Rattle.std.proofs.lemmas.Bool.{lt-leb}
use Rattle.standard.specs.Numbers.{cons_if}
use Rattle.standard.specs.Sizes.{side, raw_modules}
use Rattle.standard.specs.Patterns.{on_timing}
use Rattle.standard.specs.Functions.{is_function}
use Rattle.standard.specs.Path.{right, height, cell, free}
use Rattle.laws.specs.Tests.{split}
use Rattle.counts.specs.Free.{path_length_lem}
use Rattle.counts.specs.Zigzag.{cell_lt, height_lt, height_height}
use Rattle.modules.specs.Zigzag.{Laid, Laid.laid, read_at, walk, collected, list_of, used_of, path_length, path_count, cell_of, read_bit, read_function}
use Rattle.modules.specs.Zeroed.{Low, shifted_back, reading, reading_suc, reading_low, reading_length}
use Rattle.modules.specs.Way.{test, places, places_suc, places_more, places_path}
use Rattle.modules.specs.Work.{work, Small, kind_at}

-- ---- one cell

-- a cell's bit, and the bytes before it, are found again
cell_back : (G H : List ℕ) (at : ℕ) (s t : Laid) → test G at ≡ test H at → used_of s ≡ used_of t → length (list_of s) ≡ length (list_of t)
    → Low (list_of s) (used_of s) → Low (list_of t) (used_of t) → (test G at ≡ true → used_of s < length (list_of s) * 8)
    → list_of (read_at G at s) ≡ list_of (read_at H at t) → (test G at ≡ true → get_or G at 0 ≡ get_or H at 0) × (list_of s ≡ list_of t)
unfolding used_of
cell_back G H at (laid o i) (laid p j) kind used long lo lp room e = go (test G at) refl
  where
    go : (b : Bool) → test G at ≡ b → (test G at ≡ true → get_or G at 0 ≡ get_or H at 0) × (o ≡ p)
    go false q = (
      λ t. absurd (true≢false (sym t ∙ q)),
      ap list_of (read_function G o i at at refl (ltb-false (get_or G at 0) 2 q)) ∙ e ∙ sym (ap list_of (read_function H p j at at refl (ltb-false (get_or H at 0) 2 (sym kind ∙ q)))),
    )
    go true q =
        let x : get_or G at 0 < 2 = ltb-true (get_or G at 0) 2 q in
        let y : get_or H at 0 < 2 = ltb-true (get_or H at 0) 2 (sym kind ∙ q) in
        let r : i < length o * 8 = room q in
        let lp' : Low p i = subst (Low p) (sym used) lp in
        let f = ap list_of (read_bit G o i at at refl x r) ∙ e ∙ ap (λ (k : ℕ). list_of (read_at H at (laid p k))) (sym used) ∙ sym (ap list_of (read_bit H p i at at refl y (omega arith))) in
        let z = shifted_back o p i (get_or G at 0) (get_or H at 0) lo lp' long r x y f in
        (λ t. z.0, z.1)

used_step : (G H : List ℕ) (at : ℕ) (s t : Laid) → test G at ≡ test H at → used_of s ≡ used_of t → length (list_of s) ≡ length (list_of t)
    → used_of (read_at G at s) ≡ used_of (read_at H at t)
unfolding used_of read_at
used_step G H at (laid o i) (laid p j) kind used long =
    rw (kind, used, long) (go (test H at && ltb j (length p * 8)) _ _)
  where
    go : (b : Bool) (q r : List ℕ) → used_of (cond b (laid q (j + 1)) (laid o j)) ≡ used_of (cond b (laid r (j + 1)) (laid p j))
    go true q r = refl
    go false q r = refl

used_more : (g : List ℕ) (at : ℕ) (s : Laid) → used_of (read_at g at s) ≤ used_of s + length (cons_if (test g at) at [])
unfolding used_of read_at
used_more g at (laid o i) = go (test g at) (ltb i (length o * 8)) _
  where
    go : (a b : Bool) (q : List ℕ) → used_of (cond (a && b) (laid q (i + 1)) (laid o i)) ≤ i + length (cons_if a at [])
    go true true q = omega arith
    go true false q = omega arith
    go false b q = omega arith

-- ---- all cells

module _ (s n : ℕ) (G H : List ℕ) (kind : (k : ℕ) → k < path_length s → test G (cell s k) ≡ test H (cell s k)) (room : length (places s G (path_length s)) ≤ n * 8) where
  used_same : (k : ℕ) → k ≤ path_length s → used_of (reading s n G k) ≡ used_of (reading s n H k)
  unfolding reading walk
  used_same zero h = refl
  used_same (suc k) h =
      rw (reading_suc s n G k, reading_suc s n H k)
      (used_step G H (cell s k) (reading s n G k) (reading s n H k) (kind k h) (used_same k (omega arith)) (reading_length s n G k ∙ sym (reading_length s n H k)))

  used_le : (k : ℕ) → used_of (reading s n G k) ≤ length (places s G k)
  unfolding reading walk used_of
  used_le zero = omega arith
  used_le (suc k) =
      rw (reading_suc s n G k)
      (omega (arith, used_more G (cell s k) (reading s n G k), used_le k, ap length (places_suc s G k), length-append (places s G k) (cons_if (test G (cell s k)) (cell s k) [])))

  -- each data module finds a bit
  space : (k : ℕ) → k < path_length s → test G (cell s k) ≡ true → used_of (reading s n G k) < length (list_of (reading s n G k)) * 8
  space k h t =
      let one : length (places s G (suc k)) ≡ length (places s G k) + 1 =
      ap length (places_suc s G k ∙ ap (λ (b : Bool). places s G k ++ cons_if b (cell s k) []) t) ∙ length-append (places s G k) (cell s k ∷ []) in
      let e : suc k + (path_length s - suc k) ≡ path_length s = omega arith in
      let l : length (places s G (suc k)) ≤ length (places s G (path_length s)) = rw e at (places_more s G (suc k) (path_length s - suc k)) in
      omega (arith, used_le k, reading_length s n G k)

  cells_back : (m : ℕ) → m ≤ path_length s → list_of (reading s n G m) ≡ list_of (reading s n H m) → (k : ℕ) → k < m → test G (cell s k) ≡ true → get_or G (cell s k) 0 ≡ get_or H (cell s k) 0
  cells_back zero h e k l = absurd (not-suc-le-zero l)
  cells_back (suc m) h e k l =
      let b =
      cell_back G H (cell s m) (reading s n G m) (reading s n H m) (kind m h) (used_same m (omega arith)) (reading_length s n G m ∙ sym (reading_length s n H m))
      (reading_low s n G m) (reading_low s n H m) (space m h) (ap list_of (sym (reading_suc s n G m)) ∙ e ∙ ap list_of (reading_suc s n H m)) in
      ⊎_elim (λ q. subst (λ (i : ℕ). test G (cell s i) ≡ true → get_or G (cell s i) 0 ≡ get_or H (cell s i) 0) (sym q) b.0) (cells_back m (omega arith) b.1 k) (eq-or-lt_of_le (le_of_suc-le-suc l))

-- ---- every place off column 6 is a cell

record Passed (s i : ℕ) : Type 0 where
  at : ℕ
  inside : at < path_length s
  is : cell s at ≡ i

module _ (h s i : ℕ) (odd : s ≡ 2 * h + 1) (big : 4 ≤ h) (below : i < s * s) where
  row : i / s < s
  row = (div-lt_iff_lt-mul {k = s} {x = i} {y = s} (omega arith)).1 below

  passed_at : (p j : ℕ) → j < 2 → p < h → right s p - j ≡ i % s → Passed s i
  passed_at p j two less e =
      let w : ℕ = height s p (i / s) in
      let hw : height s p (i / s) < s = height_lt s p (i / s) row in
      let half : (s - 1) / 2 ≡ h = omega arith in
      record {
        at = (p * s + w) * 2 + j;
        inside = rw half (digits_lt (digits_lt less hw) two);
        is = cell_of s p w j hw two ∙ ap₂ (λ (a b : ℕ). a * s + b) (height_height s p (i / s) row) e ∙ div-add-mod' i s;
      }

  right_is : (p r : ℕ) (b : Bool) → s - 1 - 2 * p ≡ r → leb r 6 ≡ b → right s p ≡ cond b (r - 1) r
  unfolding right
  right_is p r b e f = rw (e, f)

  passed : (i % s ≡ 6 → ⊥) → Passed s i
  passed off = split (i % s) 6 (λ k. left (s - 2 - i % s) (omega arith) k) (λ k. beyond (s - 1 - i % s) (omega (arith, x)) (omega arith))
    where
      x : i % s < s
      x = mod-lt i (omega arith)

      left : (q : ℕ) → q + i % s + 2 ≡ s → i % s < 6 → Passed s i
      left q d k =
          let e : s - 1 - 2 * (q / 2) ≡ i % s + 1 + q % 2 = omega arith in
          let f : right s (q / 2) ≡ i % s + 1 + q % 2 - 1 = right_is (q / 2) (i % s + 1 + q % 2) true e (le-leb (i % s + 1 + q % 2) 6 (omega arith)) in
          passed_at (q / 2) (q % 2) (omega arith) (omega arith) (rw f (omega arith))

      beyond : (q : ℕ) → q + i % s + 1 ≡ s → 6 < i % s → Passed s i
      beyond q d k =
          let e : s - 1 - 2 * (q / 2) ≡ i % s + q % 2 = omega arith in
          let f : right s (q / 2) ≡ i % s + q % 2 = right_is (q / 2) (i % s + q % 2) false e (lt-leb (i % s + q % 2) 6 (omega arith)) in
          passed_at (q / 2) (q % 2) (omega arith) (omega arith) (rw f (omega arith))

-- a free place is not in column 6
off_column : (v i : ℕ) → is_function v (i % side v) (i / side v) ≡ false → i % side v ≡ 6 → ⊥
unfolding is_function on_timing
off_column v i f e = true≢false (sym (rw (eq-eqb (i % side v) 6 e)) ∙ f)

-- THE LAW: work grids from which the same is read have the same data modules
pub read_injective : (v word n : ℕ) (a b : List ℕ) → 1 ≤ v → v ≤ 40 → raw_modules v ≤ n * 8 → Small v a → Small v b
    → collected (side v) (work v word a) (replicate n 0) ≡ collected (side v) (work v word b) (replicate n 0)
    → (i : ℕ) → i < side v * side v → is_function v (i % side v) (i / side v) ≡ false → get_or (work v word a) i 0 ≡ get_or (work v word b) i 0
unfolding reading free
read_injective v word n a b low high room sa sb e i h f =
    let p : Passed (side v) i = passed (2 * v + 8) (side v) i (omega arith) (omega arith) h (off_column v i f) in
    let k : (j : ℕ) → j < path_length (side v) → cell (side v) j < side v * side v =
    λ j l. cell_lt (2 * v + 8) (side v) j (omega arith) (omega arith) (omega (arith, path_count (2 * v + 8) (side v) (omega arith))) in
    let fits : length (places (side v) (work v word a) (path_length (side v))) ≤ n * 8 =
    omega (arith, ap length (places_path v (work v word a) (kind_at v word a sa)), path_length_lem v low high) in
    let r =
    cells_back (side v) n (work v word a) (work v word b) (λ j l. kind_at v word a sa (cell (side v) j) (k j l) ∙ sym (kind_at v word b sb (cell (side v) j) (k j l))) fits
    (path_length (side v)) (omega arith) e p.at p.inside in
    subst (λ (x : ℕ). test (work v word a) x ≡ true → get_or (work v word a) x 0 ≡ get_or (work v word b) x 0) p.is r (kind_at v word a sa i h ∙ ap not f)
