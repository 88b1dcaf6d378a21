-- The newest seven runs of a line, newest first, and the finder-like cores that they show.
-- Document 01, "Modules". Assumes nothing.
use Rattle.std.specs.Prelude.{ℕ, suc, ◌+◌, ◌*◌, Bool, true, false, cond, ◌&&◌, List, [], ◌∷◌, leb, ltb, eqb, get_or, replicate}
use Rattle.standard.specs.Numbers.{one, tabulate}
use Rattle.penalty.specs.declared.FinderPenalty.{FinderPenalty}

-- the six newest runs
abbrev pub six : List ℕ → List ℕ
six h = tabulate 6 (λ k. get_or h k 0)

-- a run is pushed; the first one has the border of s light modules before it
unfoldable pub push : ℕ → List ℕ → ℕ → List ℕ
push s h r = (r + cond (eqb (get_or h 0 0) 0) s 0) ∷ six h

-- the cores that the light run pushed last ends
unfoldable pub patterns : List ℕ → ℕ
patterns h =
    let n = get_or h 1 0 in
    cond (ltb 0 n && (eqb (get_or h 2 0) n && (eqb (get_or h 3 0) (3 * n) && (eqb (get_or h 4 0) n && eqb (get_or h 5 0) n))))
    (one (leb (4 * n) (get_or h 0 0) && leb n (get_or h 6 0)) + one (leb (4 * n) (get_or h 6 0) && leb n (get_or h 0 0)))
    0

-- the end of a line: a dark run is pushed, and then the border with what is left of a light one
unfoldable pub ended : ℕ → Bool → ℕ → List ℕ → ℕ
ended s true n h = patterns (push s (push s h n) s)
ended s false n h = patterns (push s h (n + s))

-- the cores that are yet to come: n modules of colour c have been passed since the last push
unfoldable pub cores_from : ℕ → ℕ → ℕ → List ℕ → List ℕ → ℕ
cores_from s c n h [] = ended s (eqb c 1) n h
cores_from s c n h (x ∷ xs) =
    elim (eqb x c) [ true ↦ cores_from s c (suc n) h xs | false ↦ cond (eqb c 0) (patterns (push s h n)) 0 + cores_from s x 1 (push s h n) xs ]

-- ---- as the declared type has them

abbrev pub fresh : ℕ → FinderPenalty
fresh s = record { qr_size = s; run_history = replicate 7 0 }

abbrev pub pushed : FinderPenalty → ℕ → FinderPenalty
pushed p r = record { qr_size = p.qr_size; run_history = push p.qr_size p.run_history r }
