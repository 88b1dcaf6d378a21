-- The work grid: a function module is 2 and its colour, any other its content. How it is drawn and masked.
-- Assumes nothing.
use Rattle.std.specs.Prelude.{ℕ, ◌+◌, ◌-◌, ◌*◌, ◌/◌, ◌%◌, ◌<◌, Bool, cond, not, ◌≡◌, refl, length, get_or, replicate, ltb}
use Rattle.std.proofs.Math.Bool.{true, false}
use Rattle.std.proofs.Math.Path.{sym, ap}
use Rattle.std.proofs.Common.{◌∙◌, arith, lt-ltb, le-ltb}
use mathlib.Core.List.{List}
use Rattle.std.proofs.lemmas.List.{length-replicate, get_or-replicate}
use Rattle.standard.specs.Numbers.{one, tabulate}
use Rattle.standard.specs.Sizes.{side}
use Rattle.standard.specs.Bits.{unpack}
use Rattle.standard.specs.Functions.{is_function, function_colour}
use Rattle.standard.specs.Path.{cell, free, path}
use Rattle.standard.specs.Masks.{inverts}
use Rattle.standard.specs.Grid.{store, content}
use Rattle.laws.specs.Lists.{length_tabulate, get_d_tabulate, is_tabulate}
use Rattle.laws.specs.Grid.{paint, length_paint, get_d_paint}
use Rattle.patterns.specs.Layers.{layer, functions}
use Rattle.modules.specs.Mask.{flip, masked}
use Rattle.modules.specs.Kept.{unpack_bits}
use Rattle.modules.specs.Zigzag.{drawn}
use Rattle.modules.specs.Storing.{store_length, store_off, store_same, store_small}
use Rattle.modules.specs.Way.{test, drawn_is, places_path}

unfoldable pub work_at : ℕ → ℕ → List ℕ → ℕ → ℕ
work_at v word g i =
    let x = i % side v in
    let y = i / side v in
    cond (is_function v x y) (2 + function_colour v word x y) (get_or g i 0)

-- the work grid of version v that has the format word, and the content g
unfoldable pub work : ℕ → ℕ → List ℕ → List ℕ
work v word g = tabulate (side v * side v) (work_at v word g)

pub work_length : (v word : ℕ) (g : List ℕ) → length (work v word g) ≡ side v * side v
unfolding work
work_length v word g = length_tabulate (side v * side v) (work_at v word g)

pub work_at_lem : (v word : ℕ) (g : List ℕ) (i : ℕ) → i < side v * side v → get_or (work v word g) i 0 ≡ work_at v word g i
unfolding work
work_at_lem v word g i h = get_d_tabulate (side v * side v) (work_at v word g) i 0 h

-- ---- the function patterns on a grid are a work grid

pub functions_work : (v word : ℕ) (g : List ℕ) → length g ≡ side v * side v → paint (side v) (functions v word) g ≡ work v word g
unfolding work work_at layer
functions_work v word g size =
    is_tabulate 0 (paint (side v) (functions v word) g) (side v * side v) (work_at v word g) (length_paint (side v) (functions v word) g ∙ size)
    (λ i h. get_d_paint (side v) (functions v word) g i (omega (arith, size)))

-- each module is 0 or 1
abbrev pub Small : ℕ → List ℕ → Type 0
Small v g = (i : ℕ) → i < side v * side v → get_or g i 0 < 2

-- ---- codewords

pub empty_small : (v : ℕ) → Small v (replicate (side v * side v) 0)
empty_small v i h = omega (arith, get_or-replicate {A = ℕ} (side v * side v) i 0 0 h)

pub content_small : (v : ℕ) (ws : List ℕ) → Small v (content v ws)
unfolding content
content_small v ws i h = store_small (path v) (unpack ws) (replicate (side v * side v) 0) i (unpack_bits ws) (empty_small v i h)

-- the data modules of a work grid are the free places
pub kind_at : (v word : ℕ) (g : List ℕ) → Small v g → (i : ℕ) → i < side v * side v → test (work v word g) i ≡ free v i
unfolding work_at free
kind_at v word g small i h = rw (work_at_lem v word g i h) (go (is_function v (i % side v) (i / side v)))
  where
    go : (b : Bool) → ltb (cond b (2 + function_colour v word (i % side v) (i / side v)) (get_or g i 0)) 2 ≡ not b
    go true = le-ltb (2 + function_colour v word (i % side v) (i / side v)) 2 (omega arith)
    go false = lt-ltb (get_or g i 0) 2 (small i h)

module _ (v word : ℕ) where
  abbrev pub W : List ℕ
  W = work v word (replicate (side v * side v) 0)

  -- a place after the drawing
  drawn_at : (ws : List ℕ) (i : ℕ) → i < side v * side v → (b : Bool) → is_function v (i % side v) (i / side v) ≡ b
      → get_or (store (path v) (unpack ws) W) i 0 ≡ cond b (2 + function_colour v word (i % side v) (i / side v)) (get_or (content v ws) i 0)
  unfolding work_at content path free
  drawn_at ws i h true e =
      store_off (free v) (tabulate (side v * (side v - 1)) (cell (side v))) (unpack ws) W i (rw e)
      ∙ work_at_lem v word (replicate (side v * side v) 0) i h
      ∙ rw e
  drawn_at ws i h false e =
      store_same (path v) (unpack ws) W (replicate (side v * side v) 0) i (work_length v word (replicate (side v * side v) 0) ∙ sym (length-replicate (side v * side v) 0))
      (work_at_lem v word (replicate (side v * side v) 0) i h ∙ rw e)

  -- THE LAW: codewords that are drawn in the empty work grid are its content
  pub codewords_work : (ws : List ℕ) → drawn (side v) ws (work v word (replicate (side v * side v) 0)) ≡ work v word (content v ws)
  unfolding work work_at
  codewords_work ws =
      drawn_is (side v) ws W (work_length v word (replicate (side v * side v) 0))
      ∙ ap (λ (ps : List ℕ). store ps (unpack ws) W) (places_path v W (kind_at v word (replicate (side v * side v) 0) (empty_small v)))
      ∙ is_tabulate 0 (store (path v) (unpack ws) W) (side v * side v) (work_at v word (content v ws)) (store_length (path v) (unpack ws) W ∙ work_length v word (replicate (side v * side v) 0))
      (λ i h. drawn_at ws i h (is_function v (i % side v) (i / side v)) refl)

-- ---- masks

unfoldable pub turned : ℕ → ℕ → List ℕ → ℕ → ℕ
turned v m g i =
    let x = i % side v in
    let y = i / side v in
    (get_or g i 0 + one (inverts m x y)) % 2

-- a content with the mask on it
unfoldable pub mask_content : ℕ → ℕ → List ℕ → List ℕ
mask_content v m g = tabulate (side v * side v) (turned v m g)

flip_function : (b : Bool) (c : ℕ) → flip b (2 + c) ≡ 2 + c
flip_function true c = rw (le-ltb (2 + c) 2 (omega arith))
flip_function false c = refl

flip_data : (b : Bool) (c : ℕ) → c < 2 → flip b c ≡ (c + one b) % 2
flip_data true c h = rw (lt-ltb c 2 h) (omega arith)
flip_data false c h = omega arith

pub mask_work : (v word m : ℕ) (g : List ℕ) → Small v g → paint (side v) (masked m) (work v word g) ≡ work v word (mask_content v m g)
unfolding work work_at turned mask_content
mask_work v word m g small =
    is_tabulate 0 (paint (side v) (masked m) (work v word g)) (side v * side v) (work_at v word (mask_content v m g)) (length_paint (side v) (masked m) (work v word g) ∙ work_length v word g)
    (λ i h.
    get_d_paint (side v) (masked m) (work v word g) i (omega (arith, work_length v word g))
    ∙ rw (work_at_lem v word g i h, get_d_tabulate (side v * side v) (turned v m g) i 0 h)
    (go i (is_function v (i % side v) (i / side v)) (small i h)))
  where
    go : (i : ℕ) (b : Bool) → get_or g i 0 < 2
        → flip (inverts m (i % side v) (i / side v)) (cond b (2 + function_colour v word (i % side v) (i / side v)) (get_or g i 0))
        ≡ cond b (2 + function_colour v word (i % side v) (i / side v)) ((get_or g i 0 + one (inverts m (i % side v) (i / side v))) % 2)
    go i true h = flip_function (inverts m (i % side v) (i / side v)) (function_colour v word (i % side v) (i / side v))
    go i false h = flip_data (inverts m (i % side v) (i / side v)) (get_or g i 0) h
