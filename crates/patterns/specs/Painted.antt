-- A canvas whose grid is painted.
-- Assumes nothing.
use Rattle.std.specs.Prelude.{◌≡◌, refl, ℕ}
use Rattle.std.proofs.Common.{◌∙◌}
use Rattle.laws.specs.Grid.{Pattern, then, paint, paint_then}
use Rattle.patterns.specs.declared.canvas.Canvas.{Canvas}

-- b is the canvas a, and its grid is what p makes of a's
pub record Paints (a b : Canvas) (p : Pattern) : Type 0 where
  pub same : b.grid.ghost_name ≡ a.grid.ghost_name
  pub size : b.size ≡ a.size
  pub cells : b.grid.now ≡ paint a.size p a.grid.now

-- nothing is drawn yet
pub from : (a : Canvas) (p : Pattern) → a.grid.now ≡ paint a.size p a.grid.now → Paints a a p
from a p e = record { same = refl; size = refl; cells = e }

-- the grid is also what another pattern makes
pub also : (a b : Canvas) (p q : Pattern) → Paints a b p → b.grid.now ≡ paint a.size q a.grid.now → Paints a b q
also a b p q e f = record { same = e.same; size = e.size; cells = f }

-- one more is drawn
pub next : (a b c : Canvas) (p q r : Pattern) → Paints a b p → Paints b c q → (c.grid.now ≡ paint a.size q b.grid.now → c.grid.now ≡ paint a.size r a.grid.now) → Paints a c r
next a b c p q r e f g = record { same = f.same ∙ e.same; size = f.size ∙ e.size; cells = g (rw e.size at f.cells) }

pub both : (a b c : Canvas) (p q : Pattern) → Paints a b p → Paints b c q → Paints a c (then p q)
both a b c p q e f = next a b c p q (then p q) e f (λ d. paint_then a.size p q a.grid.now b.grid.now c.grid.now e.cells d)

-- the same, with the side by another name
module _ (s : ℕ) where
  pub from_at : (a : Canvas) (p : Pattern) → a.size ≡ s → a.grid.now ≡ paint s p a.grid.now → Paints a a p
  from_at a p k e = from a p (rw k e)

  pub also_at : (a b : Canvas) (p q : Pattern) → a.size ≡ s → Paints a b p → (b.grid.now ≡ paint s p a.grid.now → b.grid.now ≡ paint s q a.grid.now) → Paints a b q
  also_at a b p q k e f = also a b p q e (rw k (f (rw k at e.cells)))

  pub next_at : (a b c : Canvas) (p q r : Pattern) → a.size ≡ s → Paints a b p → Paints b c q
      → (b.grid.now ≡ paint s p a.grid.now → c.grid.now ≡ paint s q b.grid.now → c.grid.now ≡ paint s r a.grid.now) → Paints a c r
  next_at a b c p q r k e f g =
      record { same = f.same ∙ e.same; size = f.size ∙ e.size; cells = rw k (g (rw k at e.cells) (rw k at (rw e.size at f.cells))) }
