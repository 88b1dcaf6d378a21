-- All function modules: drawn in the order timing, finders, alignment, format, version, so that a later one hides an earlier one.
-- Document 01, "Modules". Assumes nothing.
use Rattle.std.specs.Prelude.{ℕ, Bool, cond, ◌||◌}
use Rattle.standard.specs.Sizes.{side}
use Rattle.standard.specs.Patterns.{on_timing, timing_colour, on_finder, finder_colour, on_alignment, alignment_colour}
use Rattle.standard.specs.Format.{on_format, format_colour, on_version, version_colour}

unfoldable pub is_function : ℕ → ℕ → ℕ → Bool
is_function v x y =
    on_timing x y || (on_finder (side v) x y || (on_format (side v) x y || (on_version v x y || on_alignment v x y)))

-- the colour of a function module, by the format word
unfoldable pub function_colour : ℕ → ℕ → ℕ → ℕ → ℕ
function_colour v word x y =
    cond (on_version v x y) (version_colour v x y)
    (cond (on_format (side v) x y) (format_colour (side v) word x y)
    (cond (on_alignment v x y) (alignment_colour v x y)
    (cond (on_finder (side v) x y) (finder_colour (side v) x y) (timing_colour x y))))
