-- `zigzag` walks along the path.
-- Assumes nothing.
use Rattle.std.proofs.Common.{◌≡◌, ℕ, ◌+◌, ◌*◌}
use Rattle.modules.specs.Zigzag.{Laid, Laid.laid, walk, Steps}
use Rattle.modules.proofs.zigzag.zigzag.Given as goal

abbrev pub invariant-loop-j : goal.invariant-loop-j
invariant-loop-j g l =
    (f : ℕ → Laid → Laid) → Steps (goal.F-post g l.visit) f → laid l.bytes l.i ≡ walk l.size f ((l.p * l.size + l.vert) * 2) l.j (laid l.initial.bytes l.initial.i)

abbrev pub invariant-loop-vert : goal.invariant-loop-vert
invariant-loop-vert g l =
    (f : ℕ → Laid → Laid) → Steps (goal.F-post g l.visit) f → laid l.bytes l.i ≡ walk l.size f (l.p * l.size * 2) (l.vert * 2) (laid l.initial.bytes l.initial.i)

abbrev pub invariant-loop-p : goal.invariant-loop-p
invariant-loop-p g l =
    (f : ℕ → Laid → Laid) → Steps (goal.F-post g l.visit) f → laid l.bytes l.i ≡ walk l.size f 0 (l.p * l.size * 2) (laid l.initial.bytes 0)
