-- A layer of function modules: where its test passes, 2 and its colour. The layers one over the other are the function modules of the definition.
-- Assumes nothing.
use Rattle.std.specs.Prelude.{ℕ, ◌+◌, Bool, true, false, cond, ◌||◌, ◌≡◌, refl}
use Rattle.laws.specs.Grid.{Pattern, then}
use Rattle.standard.specs.Sizes.{side}
use Rattle.standard.specs.Patterns.{on_timing, timing_colour, on_finder, finder_colour, on_alignment, alignment_colour}
use Rattle.standard.specs.Format.{on_format, format_colour, on_version, version_colour}
use Rattle.standard.specs.Functions.{is_function, function_colour}

unfoldable pub layer : (ℕ → ℕ → Bool) → (ℕ → ℕ → ℕ) → Pattern
layer t c x y v = cond (t x y) (2 + c x y) v

abbrev pub timings : Pattern
timings = layer on_timing timing_colour

abbrev pub finder_layer : ℕ → Pattern
finder_layer s = layer (on_finder s) (finder_colour s)

abbrev pub alignments : ℕ → Pattern
alignments v = layer (on_alignment v) (alignment_colour v)

abbrev pub formats : ℕ → ℕ → Pattern
formats s word = layer (on_format s) (format_colour s word)

abbrev pub versions : ℕ → Pattern
versions v = layer (on_version v) (version_colour v)

-- all function modules of the definition
abbrev pub functions : ℕ → ℕ → Pattern
functions v word = layer (is_function v) (function_colour v word)

hidden : (t f m : Bool) (n w : ℕ) → n ≡ cond (t || (f || (m || true))) n w
hidden true f m n w = refl
hidden false true m n w = refl
hidden false false true n w = refl
hidden false false false n w = refl

stack : (v m a f t : Bool) (ct cf ca cm cv w : ℕ)
    → cond v (2 + cv) (cond m (2 + cm) (cond a (2 + ca) (cond f (2 + cf) (cond t (2 + ct) w))))
    ≡ cond (t || (f || (m || (v || a)))) (2 + cond v cv (cond m cm (cond a ca (cond f cf ct)))) w
stack true m a f t ct cf ca cm cv w = hidden t f m (2 + cv) w
stack false true a f t ct cf ca cm cv w = hidden t f false (2 + cm) w
stack false false true f t ct cf ca cm cv w = hidden t f false (2 + ca) w
stack false false false true t ct cf ca cm cv w = hidden t false false (2 + cf) w
stack false false false false true ct cf ca cm cv w = refl
stack false false false false false ct cf ca cm cv w = refl

pub layers : (v word x y w : ℕ) → then (then (then (then timings (finder_layer (side v))) (alignments v)) (formats (side v) word)) (versions v) x y w ≡ functions v word x y w
unfolding layer is_function function_colour
layers v word x y w =
    stack (on_version v x y) (on_format (side v) x y) (on_alignment v x y) (on_finder (side v) x y) (on_timing x y)
    (timing_colour x y) (finder_colour (side v) x y) (alignment_colour v x y) (format_colour (side v) word x y) (version_colour v x y) w
