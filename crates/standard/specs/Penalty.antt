-- The penalty of a whole grid g of side s, which has s * s modules, each 0 or 1.
-- Lines, small grids and balances are held to the original's numbers in proofs/Penalties.antt.
-- Document 01, "Modules". Assumes nothing.
use Rattle.std.specs.Prelude.{ℕ, suc, ◌+◌, ◌-◌, ◌*◌, ◌/◌, Bool, true, false, cond, ◌&&◌, List, [], ◌∷◌, ◌++◌, map, leb, eqb, length, get_or, replicate}
use Rattle.standard.specs.Numbers.{apart, one, least, tabulate, sum}

unfoldable pub module_of : ℕ → List ℕ → ℕ → ℕ → ℕ
module_of s g x y = get_or g (y * s + x) 0

unfoldable pub row : ℕ → List ℕ → ℕ → List ℕ
row s g y = tabulate s (λ x. module_of s g x y)

unfoldable pub column : ℕ → List ℕ → ℕ → List ℕ
column s g x = tabulate s (λ y. module_of s g x y)

-- ---- runs

-- the lengths of the runs of a line of which n modules of colour c have been passed
unfoldable pub runs_from : ℕ → ℕ → List ℕ → List ℕ
runs_from c n [] = n ∷ []
runs_from c n (x ∷ xs) = elim (eqb x c) [ true ↦ runs_from c (suc n) xs | false ↦ n ∷ runs_from x 1 xs ]

-- light and dark in turn, light first: of a line that begins dark the first has length 0
unfoldable pub runs : List ℕ → List ℕ
runs line = runs_from 0 0 line

-- border modules are in no such run: `line_cost` takes the runs of the line itself
unfoldable pub run_cost : ℕ → ℕ
run_cost r = cond (leb 5 r) (r - 2) 0

-- ---- cores that look like a finder
-- What the windows assume: the line has its border, so its runs begin and end light, their number is odd, and none is empty.
-- A window is seven runs that begin light: at run 0, 2, 4 and so on, as long as six more follow. Of 2 d + 1 runs, d of them dark, that
-- is d - 2 windows, which is (2 d + 1 - 5) / 2, and none of fewer than seven runs; so `get_or` never falls back on its 0.
-- The original also asks that n is above 0, since its history begins with zeros; here no run is empty.

-- seven runs: p before, n, n, 3 n, n, n dark first, q after
unfoldable pub core_count : ℕ → ℕ → ℕ → ℕ → ℕ → ℕ → ℕ → ℕ
core_count p n b c d e q =
    cond (eqb b n && (eqb c (3 * n) && (eqb d n && eqb e n)))
    (one (leb (4 * n) p && leb n q) + one (leb (4 * n) q && leb n p))
    0

-- the window of seven runs from run i on
unfoldable pub core_at : List ℕ → ℕ → ℕ
core_at rs i =
    core_count (get_or rs i 0) (get_or rs (i + 1) 0) (get_or rs (i + 2) 0) (get_or rs (i + 3) 0) (get_or rs (i + 4) 0)
    (get_or rs (i + 5) 0) (get_or rs (i + 6) 0)

-- of runs that begin and end light: each window that begins light
unfoldable pub cores : List ℕ → ℕ
cores rs = sum (tabulate ((length rs - 5) / 2) (λ i. core_at rs (2 * i)))

-- side light modules are added at both ends; they join a light run that is there
unfoldable pub bordered : ℕ → List ℕ → List ℕ
bordered s line = replicate s 0 ++ line ++ replicate s 0

unfoldable pub line_cost : ℕ → List ℕ → ℕ
line_cost s line = sum (map run_cost (runs line)) + 40 * cores (runs (bordered s line))

-- ---- squares and balance

-- the square of two whose upper left module is (x, y) has one colour
unfoldable pub square : ℕ → List ℕ → ℕ → ℕ → Bool
square s g x y =
    let c = module_of s g x y in
    eqb c (module_of s g (suc x) y) && (eqb c (module_of s g x (suc y)) && eqb c (module_of s g (suc x) (suc y)))

unfoldable pub squares : ℕ → List ℕ → ℕ → ℕ
squares s g y = sum (tabulate (s - 1) (λ x. one (square s g x y)))

-- the smallest k with |20 dark - 10 total| at most (k + 1) total.
-- dark is at most total, so the test passes at k = 9 at the latest, and of the ten that are tried one is always found
unfoldable pub balance : ℕ → ℕ → ℕ
balance dark total = least 0 10 (λ k. leb (apart (20 * dark) (10 * total)) ((k + 1) * total))

unfoldable pub penalty : ℕ → List ℕ → ℕ
penalty s g =
    sum (tabulate s (λ y. line_cost s (row s g y)))
    + sum (tabulate s (λ x. line_cost s (column s g x)))
    + 3 * sum (tabulate (s - 1) (squares s g))
    + 10 * balance (sum g) (s * s)
