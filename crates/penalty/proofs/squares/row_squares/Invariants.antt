-- `penalty::squares::row_squares` meets its contract. The loop adds up the blocks passed.
-- Assumes nothing.
use Rattle.std.proofs.Common.{◌≡◌, ◌+◌, ◌*◌, ◌<◌, ◌≤◌, length, get_or, ℕ}
use Rattle.std.specs.Slice.Iter.{windows_rest, windows_size}
use Rattle.standard.specs.Numbers.{one, sum, tabulate}
use Rattle.standard.specs.Penalty.{square}
use Rattle.penalty.specs.Lines.{colours}
use Rattle.penalty.proofs.squares.row_squares.Given as goal

abbrev pub invariant-loop-above : goal.invariant-loop-above
invariant-loop-above l =
    let i = length l.yielded in
    let above = l.above-iterator.a in
    let below = l.above-iterator.b in
    (goal.iterator-loop-above).can_next l.above-iterator
    × (goal.iterator-loop-above).is_finite l.above-iterator
    × (l.result ≡ sum (tabulate i (λ k. one (square l.side (colours l.grid) k l.y))))
    × (l.result ≤ i)
    × (i < l.side)
    × (windows_size above ≡ 2)
    × (windows_size below ≡ 2)
    × (length (windows_rest above) + i ≡ l.side)
    × (length (windows_rest below) + i ≡ l.side)
    × ((k : ℕ) → k < length (windows_rest above) → get_or (windows_rest above) k 0 ≡ get_or l.grid (l.y * l.side + i + k) 0)
    × ((k : ℕ) → k < length (windows_rest below) → get_or (windows_rest below) k 0 ≡ get_or l.grid (l.y * l.side + l.side + i + k) 0)
