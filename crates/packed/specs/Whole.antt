-- The cost of a line from its number.
-- Assumes nothing.
use Rattle.std.specs.Prelude.{◌≡◌, List, [], ◌∷◌, map, ℕ, ◌+◌, ◌-◌, ◌*◌, ◌/◌, ◌^◌, ◌≤◌}
use Rattle.std.proofs.Common.{sym, ap, ap₂, ◌∙◌, arith}
use Rattle.std.specs.Int.Count.{ones}
use Rattle.standard.specs.Numbers.{sum}
use Rattle.standard.specs.Penalty.{runs, run_cost, cores, bordered, line_cost}
use Rattle.penalty.specs.Scan.{Modules}
use Rattle.penalty.specs.Bounds.{line_le}
use Rattle.packed.specs.Digits.{low}
use Rattle.packed.specs.Runs.{runs_cost}
use Rattle.packed.specs.Cost.{without, fives, word_cost, word_cost_lem}
use Rattle.packed.specs.Marks.{marks, hits, marks_dark, marks_light}
use Rattle.packed.specs.Cores.{before, behind, pairs, triples, larger, few_cores, four_modules}
use Rattle.packed.specs.Squares.{uneven, squares_of, squares_count}
use Rattle.packed.specs.Frame.{frame, line_of, Framed, value_line, line_modules, line_length_lem, frame_length}

-- the framed line
abbrev pub zone : ℕ → ℕ → List ℕ
zone s v = frame (line_of s v)

pub zone_modules : (s v : ℕ) → Modules (zone s v)
zone_modules s v = four_modules (line_of s v) (line_modules s v)

-- its dark modules, and its light ones
pub dark_zone : (s v : ℕ) → Framed s v → v ≡ marks (1 ∷ []) (zone s v)
dark_zone s v f = f ∙ sym (marks_dark (zone s v) (zone_modules s v))

pub light_zone : (s v m y : ℕ) → Framed s v → m ≡ low (s + 8) → y ≡ without m v → y ≡ marks (0 ∷ []) (zone s v)
light_zone s v m y f e q =
    q ∙ ap₂ without (e ∙ ap low (sym (frame_length s v))) f ∙ sym (marks_light (zone s v) (zone_modules s v))

pub few : (s v : ℕ) → 4 ≤ s → hits pairs (zone s v) ≡ 0 → hits triples (zone s v) ≡ 0 → hits larger (zone s v) ≡ 0
    → hits before (zone s v) + hits behind (zone s v) ≡ cores (runs (bordered s (line_of s v)))
few s v h p t l = sym (few_cores s (line_of s v) (line_modules s v) h p t l)

-- the runs of a line
pub runs_of : (s v m : ℕ) → Framed s v → m ≡ low (s - 4) → word_cost (fives m (v / 16)) ≡ sum (map run_cost (runs (line_of s v)))
runs_of s v m f e =
    ap₂ (λ (a b : ℕ). word_cost (fives a b)) (e ∙ ap (λ (n : ℕ). low (n - 4)) (sym (line_length_lem s v))) (value_line s v f)
    ∙ word_cost_lem (line_of s v) (line_modules s v) ∙ runs_cost (line_of s v)

-- the squares between two lines
pub squares_of_lem : (s v w m : ℕ) → Framed s v → Framed s w → m ≡ low (s - 1)
    → ones (without m (uneven (v / 16) (w / 16))) ≡ squares_of (line_of s v) (line_of s w)
squares_of_lem s v w m f g e =
    ap₂ (λ (a b : ℕ). ones (without a b)) (e ∙ ap (λ (n : ℕ). low (n - 1)) (sym (line_length_lem s v))) (ap₂ uneven (value_line s v f) (value_line s w g))
    ∙ squares_count (line_of s v) (line_of s w) (line_modules s v) (line_modules s w) (line_length_lem s v ∙ sym (line_length_lem s w))

-- what a line costs where no core has a larger unit
pub line_parts : (s v w m r k : ℕ) → Framed s v → m ≡ low (s - 4) → w ≡ v / 2 ^ 4 → r ≡ word_cost (fives m w)
    → k ≡ hits before (zone s v) + hits behind (zone s v) → 4 ≤ s
    → (hits pairs (zone s v) ≡ 0) × (hits triples (zone s v) ≡ 0) × (hits larger (zone s v) ≡ 0) → r + 40 * k ≡ line_cost s (line_of s v)
unfolding line_cost
line_parts s v w m r k f e d q p h n =
    ap₂ (λ (a b : ℕ). a + 40 * b)
    (q ∙ ap (λ (u : ℕ). word_cost (fives m u)) d ∙ runs_of s v m f e)
    (p ∙ few s v h n.0 n.1 n.2)

pub line_small : (s v r : ℕ) → r ≡ line_cost s (line_of s v) → s ≤ 177 → r ≤ 6960
line_small s v r e l = omega (arith, line_le s (line_of s v) (line_length_lem s v) l)
