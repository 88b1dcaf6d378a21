-- Whole grids: one number a module, 0 light, 1 dark, row by row; place i is column i % side, row i / side.
-- Document 01, "What the label covers" and "Modules". Assumes nothing.
use Rattle.std.specs.Prelude.{ℕ, ◌+◌, ◌*◌, ◌/◌, ◌%◌, cond, List, [], ◌∷◌, get_or, set, replicate}
use Rattle.standard.specs.Numbers.{one, tabulate}
use Rattle.standard.specs.Bits.{unpack}
use Rattle.standard.specs.Sizes.{side}
use Rattle.standard.specs.Format.{format_word}
use Rattle.standard.specs.Functions.{is_function, function_colour}
use Rattle.standard.specs.Path.{path}
use Rattle.standard.specs.Masks.{inverts}

-- bits stored at places, one after the other
unfoldable pub store : List ℕ → List ℕ → List ℕ → List ℕ
store [] bs g = g
store (c ∷ cs) [] g = g
store (c ∷ cs) (b ∷ bs) g = store cs bs (set g c b)

-- the codewords' bits along the path, and 0 everywhere else: remainder modules start light
unfoldable pub content : ℕ → List ℕ → List ℕ
content v words = store (path v) (unpack words) (replicate (side v * side v) 0)

-- function modules are never masked, all others are
unfoldable pub module_at : ℕ → ℕ → ℕ → List ℕ → ℕ → ℕ
module_at v word m g i =
    let x = i % side v in
    let y = i / side v in
    cond (is_function v x y) (function_colour v word x y) ((get_or g i 0 + one (inverts m x y)) % 2)

-- the grid of version v, level l and mask m that holds a content
unfoldable pub grid : ℕ → ℕ → ℕ → List ℕ → List ℕ
grid v l m g =
    let word = format_word l m in
    tabulate (side v * side v) (module_at v word m g)
