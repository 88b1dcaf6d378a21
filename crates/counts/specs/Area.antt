-- The function modules by tests that compute faster, proved equal to the definition at every version.
-- Assumes nothing.
use Rattle.std.specs.Prelude.{ℕ, ◌+◌, ◌-◌, ◌/◌, ◌%◌, ◌≤◌, ◌<◌, Bool, true, false, cond, not, ◌&&◌, ◌||◌, ◌≡◌, refl, T, leb, ltb, eqb}
use Rattle.std.proofs.Math.Bool.{and-false}
use Rattle.std.proofs.Common.{ap, ◌∙◌, arith}
use borrow.Author.Tests.{lt-ltb, le-ltb, lt-leb, ne_eqb, ltb-false, leb-false}
use Rattle.standard.specs.Sizes.{side, centres}
use Rattle.standard.specs.Patterns.{on_timing, on_finder, alignment_step, alignment, nearest, on_corner, on_alignment}
use Rattle.standard.specs.Format.{format_in_row, format_place, on_format, in_version, on_version}
use Rattle.standard.specs.Functions.{is_function}
use Rattle.standard.proofs.Open.{opened}
use Rattle.laws.specs.Tests.{alike, alike_eq, or_left, or_right, cond_same}
use Rattle.laws.specs.Computed.{among, below, at_version}

regroup : (a b c d : Bool) → a || (b || (c || d)) ≡ (a || (b || c)) || d
regroup true b c d = refl
regroup false true c d = refl
regroup false false c d = refl

-- ---- near a centre, in closed form

unfoldable pub near : ℕ → ℕ → Bool
near v x =
    cond (ltb x 9) (leb 4 x)
    (leb ((side v - 5 - x) % alignment_step v) 4 && (leb (x + 5) (side v) && ltb ((side v - 5 - x) / alignment_step v) (centres v - 1)))
    && leb 2 v

near_at : ℕ → ℕ → Bool
near_at v x = alike (leb (nearest (alignment v) x) 2) (near v x)

near_on : ℕ → Bool
near_on v = among 0 (side v) (near_at v)

near_all : T (among 1 40 near_on)
unfolding opened near alike near_at near_on
near_all = tt

near_eq : (v x : ℕ) → 1 ≤ v → v ≤ 40 → x < side v → leb (nearest (alignment v) x) 2 ≡ near v x
unfolding near_at near_on
near_eq v x low high h =
    alike_eq (leb (nearest (alignment v) x) 2) (near v x)
    (below (near_at v) (side v) (at_version near_on near_all v low high) x h)

-- ---- finders, format and version stand in the outer columns

unfoldable pub outer : ℕ → ℕ → Bool
outer s x = ltb x 9 || leb (s - 11) x

outer_left : (s x : ℕ) → outer s x ≡ false → 9 ≤ x
unfolding outer
outer_left s x e = ltb-false x 9 (or_left (ltb x 9) (leb (s - 11) x) e)

outer_right : (s x : ℕ) → outer s x ≡ false → x < s - 11
unfolding outer
outer_right s x e = leb-false (s - 11) x (or_right (ltb x 9) (leb (s - 11) x) e)

module _ (v x y : ℕ) (left : 9 ≤ x) (middle : x < side v - 11) where
  no_finder : on_finder (side v) x y ≡ false
  unfolding on_finder
  no_finder = rw (le-ltb x 8 (omega arith), lt-leb (side v - 8) x (omega arith))

  no_version : on_version v x y ≡ false
  unfolding on_version in_version
  no_version = simp (lt-leb (side v - 11) x (omega arith), le-ltb x 6 (omega arith), and-false)

  no_format : on_format (side v) x y ≡ false
  unfolding on_format format_place format_in_row
  no_format =
      rw (
        ne_eqb x 8 (λ (e : x ≡ 8). omega arith),
        le-ltb x 6 (omega arith),
        ne_eqb x 7 (λ (e : x ≡ 7). omega arith),
        lt-ltb x (side v - 8) (omega arith),
        cond_same {A = ℕ} (eqb y 8) 16,
      )

-- the cheap test first
unfoldable pub area : ℕ → ℕ → ℕ → Bool
area v x y =
    on_timing x y
    || ((outer (side v) x && (on_finder (side v) x y || (on_format (side v) x y || on_version v x y)))
    || (near v x && (near v y && not (on_corner (side v) x y))))

edge : (v x y : ℕ) → on_finder (side v) x y || (on_format (side v) x y || on_version v x y) ≡ outer (side v) x && (on_finder (side v) x y || (on_format (side v) x y || on_version v x y))
edge v x y = go (outer (side v) x) refl
  where
    go : (b : Bool) → outer (side v) x ≡ b → on_finder (side v) x y || (on_format (side v) x y || on_version v x y) ≡ b && (on_finder (side v) x y || (on_format (side v) x y || on_version v x y))
    go true e = refl
    go false e =
        let left : 9 ≤ x = outer_left (side v) x e in
        let middle : x < side v - 11 = outer_right (side v) x e in
        rw (no_finder v x y left middle, no_format v x y left middle, no_version v x y left middle)

pub area_eq : (v x y : ℕ) → 1 ≤ v → v ≤ 40 → x < side v → y < side v → is_function v x y ≡ area v x y
unfolding is_function area on_alignment
area_eq v x y low high hx hy =
    rw (near_eq v x low high hx, near_eq v y low high hy)
    (ap (λ (b : Bool). on_timing x y || b) (regroup (on_finder (side v) x y) (on_format (side v) x y) (on_version v x y) (near v x && (near v y && not (on_corner (side v) x y))) ∙ ap (λ (b : Bool). b || (near v x && (near v y && not (on_corner (side v) x y)))) (edge v x y)))
