-- What the words of the command line mean, and what is taken off a line.
-- Assumes nothing.
use Rattle.std.specs.Prelude.{ℕ, ◌+◌, ◌-◌, ◌*◌, Bool, true, false, ◌&&◌, Option, Some, None, cond, List, [], ◌∷◌, ltb, eqb, length, get_or, take, drop}
use Rattle.standard.specs.Numbers.{one, place, same}
use Rattle.types.specs.declared.QrCodeEcc.{QrCodeEcc}
use Rattle.types.specs.declared.QrCodeEcc.TheVariants.{Low, Medium, Quartile, High}

abbrev pub begins_with : List ℕ → List ℕ → Bool
begins_with t w = same (take (length w) t) w

-- where a byte first stands in a word
abbrev pub place_in : ℕ → List ℕ → Option ℕ
place_in c w = cond (ltb (place c w) (length w)) (Some (place c w)) None

-- ---- numbers; 256 stands for no number

-- a number that fits a byte
abbrev pub small : ℕ → Option ℕ
small n = cond (ltb n 256) (Some n) None

-- the number after one digit more
abbrev pub next_number : ℕ → ℕ → ℕ
next_number n c = cond (ltb c 48) 256 (cond (ltb 57 c) 256 (cond (ltb (n * 10 + (c - 48)) 256) (n * 10 + (c - 48)) 256))

abbrev pub number_from : ℕ → List ℕ → ℕ
number_from n [] = n
number_from n (c ∷ cs) = number_from (next_number n c) cs

-- the number below 256 that the digits stand for
abbrev pub number_of : List ℕ → ℕ
number_of [] = 256
number_of (c ∷ cs) = number_from 0 (c ∷ cs)

-- ---- values of options

-- A-B: the number before the dash and the one after it
abbrev pub first_of : List ℕ → ℕ
first_of w = number_of (take (place 45 w) w)

abbrev pub last_of : List ℕ → ℕ
last_of w = number_of (drop (place 45 w + 1) w)

abbrev pub versions_named : List ℕ → Option (ℕ × ℕ)
versions_named w = cond (ltb (first_of w) 256 && ltb (last_of w) 256) (Some (first_of w, last_of w)) None

-- L, M, Q, H
abbrev pub level_named : List ℕ → Option QrCodeEcc
level_named w =
    cond (same w (76 ∷ [])) (Some Low) (cond (same w (77 ∷ [])) (Some Medium) (cond (same w (81 ∷ [])) (Some Quartile) (cond (same w (72 ∷ [])) (Some High) None)))

-- auto (8), 0 to 7
abbrev pub mask_named : List ℕ → Option ℕ
mask_named w = cond (same w (97 ∷ 117 ∷ 116 ∷ 111 ∷ [])) (Some 8) (cond (ltb (number_of w) 8) (Some (number_of w)) None)

-- off, on
abbrev pub switch_named : List ℕ → Option Bool
switch_named w = cond (same w (111 ∷ 102 ∷ 102 ∷ [])) (Some false) (cond (same w (111 ∷ 110 ∷ [])) (Some true) None)

-- ---- the line

-- the length of a text without the newline at its end, if there is one
abbrev pub line_length : List ℕ → ℕ
line_length t = length t - one (eqb (get_or t (length t - 1) 0) 10)

-- the text without it
abbrev pub line : List ℕ → List ℕ
line t = take (line_length t) t
