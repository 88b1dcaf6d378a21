-- `blocks::shares::Shares::take_data` meets its contract.
-- Assumes nothing.
use Prim.Native.Nat.{◌+◌}
use mathlib.Core.Path.{◌≡◌}
use lib.ListN.{get_or}
use Rattle.laws.specs.Each.{each_done}
use Rattle.blocks.specs.Shape.{start_in}
use Rattle.blocks.specs.Undo.{position_in}
use Rattle.blocks.proofs.shares.Shares.take_data.Given as goal

abbrev pub invariant-loop-i : goal.invariant-loop-i
invariant-loop-i l =
    let n = l.self.numblocks in
    let s = l.self.shortdatlen in
    let b = l.self.numshortblocks in
    l.out ≡ each_done (start_in s b l.i) (λ d _. get_or l.all (position_in n s b d) 0) l.fn.out

abbrev pub invariant-loop-c : goal.invariant-loop-c
invariant-loop-c l =
    let n = l.self.numblocks in
    let s = l.self.shortdatlen in
    let b = l.self.numshortblocks in
    l.out ≡ each_done (l.start + l.c) (λ d _. get_or l.all (position_in n s b d) 0) l.fn.out
