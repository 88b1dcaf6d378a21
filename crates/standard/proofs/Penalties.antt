-- The penalty, part by part, and the choice between equal ones.
-- The numbers are those of qrcodegen 1.8.0: the cost of a line is that of its `get_penalty_score`'s loop over one row, with its
-- `FinderPenalty`; the small grids are handed to `get_penalty_score` whole; k is that function's line for it; and the penalties and the
-- choice are those of whole labels of version 1, Medium, that hold the texts named.
-- Assumes nothing.
use Prim.Native.Nat.{ℕ, ◌-◌}
use mathlib.Core.List.{List, [], ◌∷◌, ◌++◌, map}
use mathlib.Core.Path.{◌≡◌, refl}
use lib.Dec.{T}
use lib.ListN.{length, replicate}
use Rattle.standard.specs.Penalty.{line_cost, balance, penalty}
use Rattle.standard.specs.Choice.{place_of_least}
use Rattle.standard.proofs.Open.{opened}
use Rattle.standard.proofs.Table.{agree}

-- ---- lines

-- the line that has these runs, of colour c and the other in turn
pub spread : ℕ → List ℕ → List ℕ
spread c [] = []
spread c (r ∷ rs) = replicate r c ++ spread (1 - c) rs

-- the cost of the line whose runs are these, light first
pub cost : List ℕ → ℕ
cost rs = let line = spread 0 rs in line_cost (length line) line

-- runs of five and more; and lines without a core that nearly have one
pub plain_lines : map cost (
    (21 ∷ [])
    ∷ (0 ∷ 21 ∷ [])
    ∷ (4 ∷ 4 ∷ 4 ∷ 4 ∷ 5 ∷ [])
    ∷ (5 ∷ 4 ∷ 6 ∷ 4 ∷ 2 ∷ [])
    ∷ (0 ∷ 2 ∷ 3 ∷ 6 ∷ 2 ∷ 2 ∷ 6 ∷ [])
    ∷ (0 ∷ 2 ∷ 2 ∷ 5 ∷ 2 ∷ 2 ∷ 8 ∷ [])
    ∷ (0 ∷ 1 ∷ 1 ∷ 3 ∷ 1 ∷ 2 ∷ 13 ∷ [])
    ∷ []
    ) ≡ 19 ∷ 19 ∷ 3 ∷ 7 ∷ 8 ∷ 9 ∷ 11 ∷ []
unfolding opened spread cost
plain_lines = refl

-- cores of width 1 between dark modules: the light run of 4 before, after, at both sides and, with 3, at none; then two cores in a line
pub narrow_cores : map cost (
    (0 ∷ 1 ∷ 4 ∷ 1 ∷ 1 ∷ 3 ∷ 1 ∷ 1 ∷ 1 ∷ 8 ∷ [])
    ∷ (0 ∷ 3 ∷ 1 ∷ 1 ∷ 1 ∷ 3 ∷ 1 ∷ 1 ∷ 4 ∷ 6 ∷ [])
    ∷ (0 ∷ 4 ∷ 4 ∷ 1 ∷ 1 ∷ 3 ∷ 1 ∷ 1 ∷ 4 ∷ 2 ∷ [])
    ∷ (0 ∷ 5 ∷ 3 ∷ 1 ∷ 1 ∷ 3 ∷ 1 ∷ 1 ∷ 3 ∷ 3 ∷ [])
    ∷ (0 ∷ 1 ∷ 1 ∷ 3 ∷ 1 ∷ 1 ∷ 4 ∷ 1 ∷ 1 ∷ 3 ∷ 1 ∷ 1 ∷ 3 ∷ [])
    ∷ (0 ∷ 1 ∷ 1 ∷ 1 ∷ 1 ∷ 3 ∷ 1 ∷ 1 ∷ 12 ∷ [])
    ∷ []
    ) ≡ 46 ∷ 44 ∷ 80 ∷ 3 ∷ 160 ∷ 50 ∷ []
unfolding opened spread cost
narrow_cores = refl

-- cores of width 2 between dark modules: the light run of 8 before, after and, with 7, at none; then 8 with a run of 1 at the other side
pub wide_cores : map cost (
    (0 ∷ 1 ∷ 8 ∷ 2 ∷ 2 ∷ 6 ∷ 2 ∷ 2 ∷ 2 ∷ 2 ∷ [])
    ∷ (0 ∷ 2 ∷ 2 ∷ 2 ∷ 2 ∷ 6 ∷ 2 ∷ 2 ∷ 8 ∷ 1 ∷ [])
    ∷ (0 ∷ 1 ∷ 7 ∷ 2 ∷ 2 ∷ 6 ∷ 2 ∷ 2 ∷ 2 ∷ 3 ∷ [])
    ∷ (0 ∷ 1 ∷ 8 ∷ 2 ∷ 2 ∷ 6 ∷ 2 ∷ 2 ∷ 1 ∷ 3 ∷ [])
    ∷ (0 ∷ 3 ∷ 1 ∷ 2 ∷ 2 ∷ 6 ∷ 2 ∷ 2 ∷ 8 ∷ 1 ∷ [])
    ∷ []
    ) ≡ 50 ∷ 50 ∷ 9 ∷ 10 ∷ 10 ∷ []
unfolding opened spread cost
wide_cores = refl

-- cores of width 1, 2 and 3 at the ends of a line of 21, where the border of 21 light modules is before or after them
pub border_cores : map cost (
    (0 ∷ 1 ∷ 1 ∷ 3 ∷ 1 ∷ 1 ∷ 14 ∷ [])
    ∷ (14 ∷ 1 ∷ 1 ∷ 3 ∷ 1 ∷ 1 ∷ [])
    ∷ (7 ∷ 1 ∷ 1 ∷ 3 ∷ 1 ∷ 1 ∷ 7 ∷ [])
    ∷ (0 ∷ 2 ∷ 2 ∷ 6 ∷ 2 ∷ 2 ∷ 7 ∷ [])
    ∷ (7 ∷ 2 ∷ 2 ∷ 6 ∷ 2 ∷ 2 ∷ [])
    ∷ (3 ∷ 2 ∷ 2 ∷ 6 ∷ 2 ∷ 2 ∷ 4 ∷ [])
    ∷ (0 ∷ 3 ∷ 3 ∷ 9 ∷ 3 ∷ 3 ∷ [])
    ∷ []
    ) ≡ 92 ∷ 92 ∷ 90 ∷ 89 ∷ 89 ∷ 84 ∷ 87 ∷ []
unfolding opened spread cost
border_cores = refl

-- ---- whole grids and balance

-- a finder of side 7; side 5 light, dark, two dark columns of five, and a chequerboard
pub small_grids : List (List ℕ × List ℕ)
small_grids = (penalty 7 (spread 0 (0 ∷ 8 ∷ 5 ∷ 2 ∷ 1 ∷ 3 ∷ 1 ∷ 2 ∷ 1 ∷ 3 ∷ 1 ∷ 2 ∷ 1 ∷ 3 ∷ 1 ∷ 2 ∷ 5 ∷ 8 ∷ [])) ∷ [], 554 ∷ [])
    ∷ (penalty 5 (replicate 25 0) ∷ [], 168 ∷ [])
    ∷ (penalty 5 (replicate 25 1) ∷ [], 168 ∷ [])
    ∷ (penalty 5 (spread 0 (3 ∷ 2 ∷ 3 ∷ 2 ∷ 3 ∷ 2 ∷ 3 ∷ 2 ∷ 3 ∷ 2 ∷ [])) ∷ [], 61 ∷ [])
    ∷ (penalty 5 (spread 0 (replicate 25 1)) ∷ [], 0 ∷ [])
    ∷ []

pub small_penalties : T (agree small_grids)
unfolding opened spread agree small_grids
small_penalties = tt

-- k of these counts of dark modules among 441
pub balances : map (λ n. balance n 441) (0 ∷ 100 ∷ 198 ∷ 199 ∷ 220 ∷ 221 ∷ 242 ∷ 243 ∷ 264 ∷ 265 ∷ 340 ∷ 420 ∷ 441 ∷ [])
    ≡ 9 ∷ 5 ∷ 1 ∷ 0 ∷ 0 ∷ 0 ∷ 0 ∷ 1 ∷ 1 ∷ 2 ∷ 5 ∷ 9 ∷ 9 ∷ []
unfolding opened
balances = refl

-- ---- equal penalties

-- the original's eight penalties of "TIE 173", "TIE 283", "TIE 284" and "TIE 321"
pub ties : List (List ℕ)
ties = (1029 ∷ 1139 ∷ 1029 ∷ 1081 ∷ 1079 ∷ 1094 ∷ 1045 ∷ 1223 ∷ [])
    ∷ (1049 ∷ 1166 ∷ 1047 ∷ 1158 ∷ 1037 ∷ 1037 ∷ 1118 ∷ 1204 ∷ [])
    ∷ (1197 ∷ 1086 ∷ 1124 ∷ 1203 ∷ 1086 ∷ 1158 ∷ 1114 ∷ 1269 ∷ [])
    ∷ (1086 ∷ 1258 ∷ 1050 ∷ 1074 ∷ 1056 ∷ 1147 ∷ 1220 ∷ 1050 ∷ [])
    ∷ []

-- the masks that it chose
pub first_of_equals : map place_of_least ties ≡ 0 ∷ 4 ∷ 1 ∷ 2 ∷ []
unfolding opened ties
first_of_equals = refl
