-- What a line that was read takes from the input.
-- Assumes nothing.
use Rattle.std.specs.Prelude.{ℕ, List, [], ◌∷◌, ◌++◌, cond, ltb, length, take}

-- the first n characters of memory, and the end of the line where memory has room for more
abbrev pub line_of : ℕ → List ℕ → List ℕ
line_of n memory = take n memory ++ cond (ltb n (length memory)) (10 ∷ []) []
