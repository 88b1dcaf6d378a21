-- `blocks::shares::Shares::interleave` meets its contract.
-- Assumes nothing.
use Prim.Native.Nat.{ℕ}
use lib.ListN.{length}
use mathlib.Core.Path.{sym, ap, ◌∙◌}
use native.Mathlib.Omega.{arith}
use Rattle.std.proofs.Common.{zero-mul}
use Rattle.laws.specs.Each.{each_start, each_end}
use Rattle.blocks.specs.Undo.{place_in}
use Rattle.blocks.specs.Running.{first_within, stands, column_start, column_end, column_last, place_inside}
use Rattle.blocks.specs.Code.{each_at, source_turn}
use Rattle.blocks.proofs.shares.Shares.interleave.Goals as goal

pub loop-c-init : goal.loop-c-init
loop-c-init c = each_at _ _ _ _ _ (each_start _ c.args.out.now) (omega (arith, zero-mul c.args.self.numblocks))

pub loop-i-init : goal.loop-i-init
loop-i-init c =
    let s = c.args.self in
    each_at _ _ _ _ _ c.loop-c.invariant
    (sym (column_start s.shape c.loop-c.c (omega arith)) ∙ ap (λ (i : ℕ). place_in s.numblocks s.shortdatlen s.numshortblocks i c.loop-c.c) (sym c.first_block-i.ensures))

pub place-requires : goal.place-requires
place-requires c =
    let w = stands c.args.self.shape c.loop-i.i c.loop-c.c (omega arith) (omega arith) (rw c.first_block-i.ensures at c.loop-i.auto.i) in record { within = (w.block, w.column); long = w.long }

pub bounds-out-place : goal.bounds-out-place
bounds-out-place c =
    omega (arith, c.place.ensures, place_inside c.args.self.shape c.loop-i.i c.loop-c.c (omega arith) (omega arith) (rw c.first_block-i.ensures at c.loop-i.auto.i))

pub loop-i-preserved : goal.loop-i-preserved
loop-i-preserved c =
    let a = c.args in
    source_turn a.self.shape a.«data».now a.out.now c.loop-i.out c.loop-i.i c.loop-c.c c.block_start.result c.place.result (omega arith) c.block_start.ensures c.place.ensures
    (omega arith) (omega arith) (rw c.first_block-i.ensures at c.loop-i.auto.i) c.loop-i.invariant

pub loop-c-preserved : goal.loop-c-preserved
loop-c-preserved c =
    let k = c.args.self.shape in
    each_at _ _ _ _ _ c.loop-i.invariant
    (column_end k c.loop-i.i c.loop-c.c (omega arith) (omega (arith, c.first_block-i.ensures, first_within k c.loop-c.c)) (omega arith))

pub returns : goal.returns
returns c = each_end _ _ _ (length c.args.out.now) c.loop-c.out c.loop-c.invariant (omega arith) (omega (arith, column_last c.args.self.shape c.loop-c.c (omega arith)))
