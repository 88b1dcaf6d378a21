-- `penalty::squares::row_squares` meets its contract. The loop adds up the blocks passed.
-- Assumes nothing.
use Rattle.penalty.specs.Squares.{square_here, next_window}
use Rattle.penalty.specs.Lines.{colours}
use Rattle.standard.specs.Penalty.{square, squares}
use Rattle.standard.specs.Numbers.{one}
use Rattle.laws.specs.Sums.{sum_next, sum_end}
use Rattle.std.proofs.Common.{inl, inr, ℕ, ◌≡◌, ◌+◌, ◌*◌, ◌≤◌, length, refl, arith, [], ◌∷◌, ◌++◌}
use Rattle.std.proofs.lemmas.List.{length-append}
use Rattle.penalty.proofs.squares.row_squares.Goals as goal

pub loop-above-preserved : goal.loop-above-preserved
loop-above-preserved c =
    let a = c.args in let g = a.grid.now in let l = c.loop-above in let v = l.invariant in let s = c.in-Some.ensures.steps in
    let i = length l.yielded in
    let more : length (l.yielded ++ ((c.in-Some.above, c.in-Some.below) ∷ [])) ≡ i + 1 = length-append l.yielded _ in
    let top = next_window g _ _ _ (a.y * a.side) i a.side _ v.5 s.0.1.0 s.0.1.1 s.0.1.2 v.7 v.9 in
    let bottom = next_window g _ _ _ (a.y * a.side + a.side) i a.side _ v.6 s.1.1.0 s.1.1.1 s.1.1.2 v.8 v.10 in
    rw more (
      (omega arith, omega arith),
      tt,
      sum_next (λ (k : ℕ). one (square a.side (colours g) k a.y)) _ _ _ v.2
          (square_here g a.side i a.y (a.y * a.side) (a.y * a.side + a.side) _ refl refl
          (rw (← top.0, ← top.1, ← bottom.0, ← bottom.1) c.same_color-result.ensures.0)),
      omega arith,
      omega arith,
      omega arith,
      omega arith,
      top.2,
      bottom.2,
      top.3,
      bottom.3,
    )

pub returns : goal.returns
unfolding squares
returns c =
    let a = c.args in let v = c.loop-above.invariant in let i = length c.loop-above.yielded in
    let few : a.side ≤ i + 1 = elim c.in-None.ensures.steps [ inl w ↦ omega (arith, w.1.1.0, v.5, v.7) | inr w ↦ omega (arith, w.1.1.0, v.6, v.8) ] in
    (sum_end (λ (k : ℕ). one (square a.side (colours a.grid.now) k a.y)) i _ _ v.2 (omega arith) (omega arith), omega arith)
