-- The picture of a label in a terminal: a border of four light modules, and two rows of modules to a line of text.
-- Assumes nothing.
use Rattle.std.specs.Prelude.{ℕ, ◌+◌, ◌-◌, ◌*◌, ◌/◌, cond, List, [], ◌∷◌, ◌++◌, leb, ltb, eqb, get_or}
use Rattle.standard.specs.Numbers.{tabulate, join}
use Rattle.terminal.specs.Text.{bytes}

-- the module at column x and row y of the picture; 0 is light
abbrev pub shown : ℕ → List ℕ → ℕ → ℕ → ℕ
shown side g x y = cond (ltb x 4) 0 (cond (ltb y 4) 0 (cond (leb (side + 4) x) 0 (cond (leb (side + 4) y) 0 (get_or g ((y - 4) * side + (x - 4)) 0))))

-- the last byte of the character of two modules: a space, or the lower half, the upper half or the whole dark
abbrev pub half : ℕ → ℕ → ℕ
half upper lower = cond (eqb upper 0) (cond (eqb lower 0) 32 132) (cond (eqb lower 0) 128 136)

-- the character of two modules, as bytes of UTF-8: a space, U+2584, U+2580 or U+2588
abbrev pub glyph : ℕ → ℕ → List ℕ
glyph upper lower = cond (eqb (half upper lower) 32) (32 ∷ []) (226 ∷ 150 ∷ half upper lower ∷ [])

-- the first n characters of the line that shows rows y and y + 1
abbrev pub characters : ℕ → List ℕ → ℕ → ℕ → List ℕ
characters side g y n = join (tabulate n (λ (x : ℕ). glyph (shown side g x y) (shown side g x (y + 1))))

-- that line: black on white, and the terminal's own colours after it
abbrev pub line : ℕ → List ℕ → ℕ → List ℕ
line side g y = bytes "\u{1b}[30;107m" ++ (characters side g y (side + 8) ++ bytes "\u{1b}[0m\n")

-- the first n lines
abbrev pub lines : ℕ → List ℕ → ℕ → List ℕ
lines side g n = join (tabulate n (λ (j : ℕ). line side g (2 * j)))

abbrev pub picture : ℕ → List ℕ → List ℕ
picture side g = lines side g ((side + 9) / 2)
