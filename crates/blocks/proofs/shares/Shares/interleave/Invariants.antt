-- `blocks::shares::Shares::interleave` meets its contract.
-- Assumes nothing.
use Prim.Native.Nat.{◌*◌, min}
use mathlib.Core.Path.{◌≡◌}
use lib.ListN.{get_or}
use Rattle.laws.specs.Each.{each_done}
use Rattle.blocks.specs.Shape.{data_in, source_in}
use Rattle.blocks.specs.Undo.{place_in}
use Rattle.blocks.proofs.shares.Shares.interleave.Given as goal

abbrev pub invariant-loop-c : goal.invariant-loop-c
invariant-loop-c l =
    let n = l.self.numblocks in
    let s = l.self.shortdatlen in
    let b = l.self.numshortblocks in
    l.out ≡ each_done (min (l.c * n) (data_in n s b)) (λ p _. get_or l.«data» (source_in n s b p) 0) l.fn.out

abbrev pub invariant-loop-i : goal.invariant-loop-i
invariant-loop-i l =
    let n = l.self.numblocks in
    let s = l.self.shortdatlen in
    let b = l.self.numshortblocks in
    l.out ≡ each_done (place_in n s b l.i l.c) (λ p _. get_or l.«data» (source_in n s b p) 0) l.fn.out
