-- The walk along the zigzag is the drawing along the path of the definition.
-- Assumes nothing.
use Prim.Native.Nat.{ℕ, zero, suc, ◌+◌, ◌-◌, ◌*◌, ◌≤◌, ◌<◌, min}
use Rattle.std.specs.Prelude.{Bool, cond, ◌≡◌, get_or, set, ltb}
use Rattle.std.proofs.Math.Bool.{true, false}
use Rattle.std.proofs.Math.Path.{refl, ap, ap₂}
use Rattle.std.proofs.Common.{sym, ◌∙◌, zero-add, le-ltb, ltb-true, ltb-false}
use mathlib.Core.List.{List, [], ◌∷◌, ◌++◌, append-nil}
use native.Mathlib.Omega.{arith}
use Rattle.std.proofs.Math.ListN.{length, length-append}
use Rattle.modules.specs.Zigzag.{path_length, path_count, bit_of, Laid, Laid.laid, lay_at, walk, list_of, drawn}
use Rattle.standard.specs.Numbers.{from, cons_if, keep}
use Rattle.standard.specs.Sizes.{side}
use Rattle.standard.specs.Bits.{unpack}
use Rattle.standard.specs.Path.{cell, free, path}
use Rattle.standard.specs.Grid.{store}
use Rattle.laws.specs.Lists.{from_append, length_unpack}
use Rattle.counts.specs.Zigzag.{cell_lt}
use Rattle.modules.specs.Kept.{from_snoc, keep_append, keep_same, bit_unpack, unpack_bits}
use Rattle.modules.specs.Storing.{store_snoc_in, store_snoc_out, store_kind}

-- ---- the walk

abbrev pub test : List ℕ → ℕ → Bool
test g i = ltb (get_or g i 0) 2

bit_of_lem : (cs : List ℕ) (i : ℕ) → i < length cs * 8 → bit_of cs i ≡ get_or (unpack cs) i 0
unfolding bit_of
bit_of_lem cs i h = sym (bit_unpack cs i h)

-- the places of the first n cells of the zigzag that are data modules of g
pub places : ℕ → List ℕ → ℕ → List ℕ
places s g n = keep (test g) (from 0 n (cell s))

pub places_suc : (s : ℕ) (g : List ℕ) (n : ℕ) → places s g (suc n) ≡ places s g n ++ cons_if (test g (cell s n)) (cell s n) []
unfolding places
places_suc s g n =
    ap (keep (test g)) (from_snoc 0 n (cell s))
    ∙ keep_append (test g) (from 0 n (cell s)) (cell s (0 + n) ∷ [])
    ∙ ap (λ (m : ℕ). keep (test g) (from 0 n (cell s)) ++ cons_if (test g (cell s m)) (cell s m) []) (zero-add n)

pub places_more : (s : ℕ) (g : List ℕ) (m n : ℕ) → length (places s g m) ≤ length (places s g (m + n))
unfolding places
places_more s g m n =
    omega (
      arith,
      ap (λ (l : List ℕ). length (keep (test g) l)) (from_append 0 m n (cell s)),
      ap length (keep_append (test g) (from 0 m (cell s)) (from (0 + m) n (cell s))),
      length-append (keep (test g) (from 0 m (cell s))) (keep (test g) (from (0 + m) n (cell s))),
    )

module _ (s : ℕ) (cs g : List ℕ) (size : length g ≡ s * s) where
  -- the walk after n cells
  unfoldable pub After : ℕ → Laid
  After n = laid (store (places s g n) (unpack cs) g) (min (length (places s g n)) (length cs * 8))

  step : (n : ℕ) (h : List ℕ) (ps : List ℕ) → h ≡ store ps (unpack cs) g → ltb (get_or h (cell s n) 0) 2 ≡ test g (cell s n)
      → (t : Bool) → test g (cell s n) ≡ t
      → lay_at cs (cell s n) (laid h (min (length ps) (length cs * 8)))
      ≡ laid (store (ps ++ cons_if t (cell s n) []) (unpack cs) g) (min (length (ps ++ cons_if t (cell s n) [])) (length cs * 8))
  unfolding lay_at
  step n h ps e k false q = rw (k, q, append-nil ps, e)
  step n h ps e k true q = rw (k, q) (go (ltb (length ps) (length cs * 8)) refl)
    where
      long : length (ps ++ (cell s n ∷ [])) ≡ length ps + 1
      long = length-append ps (cell s n ∷ [])

      go : (b : Bool) → ltb (length ps) (length cs * 8) ≡ b
          → cond (ltb (min (length ps) (length cs * 8)) (length cs * 8)) (laid (set h (cell s n) (bit_of cs (min (length ps) (length cs * 8)))) (min (length ps) (length cs * 8) + 1)) (laid h (min (length ps) (length cs * 8)))
          ≡ laid (store (ps ++ (cell s n ∷ [])) (unpack cs) g) (min (length (ps ++ (cell s n ∷ []))) (length cs * 8))
      go true b =
          let l = ltb-true (length ps) (length cs * 8) b in
          let m : min (length ps) (length cs * 8) ≡ length ps = omega arith in
          let m' : min (length (ps ++ (cell s n ∷ []))) (length cs * 8) ≡ length ps + 1 = omega (arith, long) in
          rw (m, b, m', e, bit_of_lem cs (length ps) l, store_snoc_in ps (unpack cs) g (cell s n) (omega (arith, length_unpack cs)))
      go false b =
          let l = ltb-false (length ps) (length cs * 8) b in
          let m : min (length ps) (length cs * 8) ≡ length cs * 8 = omega arith in
          let m' : min (length (ps ++ (cell s n ∷ []))) (length cs * 8) ≡ length cs * 8 = omega (arith, long) in
          rw (m, le-ltb (length cs * 8) (length cs * 8) (omega arith), m', e, store_snoc_out ps (unpack cs) g (cell s n) (omega (arith, length_unpack cs)))

  start : walk s (lay_at cs) 0 0 (laid g 0) ≡ After 0
  unfolding walk After places store
  start = let e : 0 ≡ min 0 (length cs * 8) = omega arith in ap (laid g) e

  same_kind : (n i : ℕ) → ltb (get_or (store (places s g n) (unpack cs) g) i 0) 2 ≡ test g i
  unfolding places
  same_kind n i = store_kind (from 0 n (cell s)) (unpack cs) g i (unpack_bits cs)

  next : (n : ℕ) → lay_at cs (cell s n) (After n) ≡ After (suc n)
  unfolding After
  next n =
      step n (store (places s g n) (unpack cs) g) (places s g n) refl (same_kind n (cell s n)) (test g (cell s n)) refl
      ∙ ap (λ (ps : List ℕ). laid (store ps (unpack cs) g) (min (length ps) (length cs * 8))) (sym (places_suc s g n))

  pub walked : (n : ℕ) → walk s (lay_at cs) 0 n (laid g 0) ≡ After n
  unfolding walk
  walked zero = start
  walked (suc n) = ap₂ (λ (k : ℕ) (t : Laid). lay_at cs k t) (ap (cell s) (zero-add n)) (walked n) ∙ next n

  pub drawn_is : drawn s cs g ≡ store (places s g (path_length s)) (unpack cs) g
  unfolding After
  drawn_is = ap list_of (walked (path_length s))

-- ---- the path of a version

-- where the data modules of g are the free places
pub places_path : (v : ℕ) (g : List ℕ) → ((i : ℕ) → i < side v * side v → test g i ≡ free v i) → places (side v) g (path_length (side v)) ≡ path v
unfolding places path
places_path v g h =
    ap (λ (n : ℕ). keep (test g) (from 0 n (cell (side v)))) (path_count (2 * v + 8) (side v) (omega arith))
    ∙ keep_same (test g) (free v) 0 (side v * (side v - 1)) (cell (side v)) (λ i low high. h (cell (side v) i) (cell_lt (2 * v + 8) (side v) i (omega arith) (omega arith) (omega arith)))
