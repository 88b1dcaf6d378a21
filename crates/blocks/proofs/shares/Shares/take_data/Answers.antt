-- `blocks::shares::Shares::take_data` meets its contract.
-- Assumes nothing.
use Prim.Native.Nat.{◌<◌}
use lib.ListN.{length}
use native.Mathlib.Omega.{arith}
use Rattle.std.proofs.Common.{zero-mul}
use Rattle.laws.specs.Each.{each_start, each_end}
use Rattle.blocks.specs.Checks.{length_in, block_within, next_start}
use Rattle.blocks.specs.Running.{within, start_end, within_column, within_place}
use Rattle.blocks.specs.Code.{each_at, position_turn}
use Rattle.blocks.proofs.shares.Shares.take_data.Goals as goal

pub loop-i-init : goal.loop-i-init
loop-i-init c = each_at _ _ _ _ _ (each_start _ c.args.out.now) (omega (arith, zero-mul c.args.self.shortdatlen))

pub loop-c-init : goal.loop-c-init
loop-c-init c = each_at _ _ _ _ _ c.loop-i.invariant (omega (arith, c.block_start-start.ensures))

pub bounds-out-start : goal.bounds-out-start
bounds-out-start c =
    let s = c.args.self in
    omega (arith, c.block_start-start.ensures, c.block_length-c-end.ensures, block_within s.shape c.loop-i.i (omega arith))

pub place-requires : goal.place-requires
place-requires c =
    let s = c.args.self in
    let i = c.loop-i.i in
    let h : c.loop-c.c < length_in s.shortdatlen s.numshortblocks i = omega (arith, c.block_length-c-end.ensures) in
    let w = within_column s.shape i c.loop-c.c _ (within s.shape i c.loop-c.c (omega arith) h) in record { within = (omega arith, w.0); long = w.1 }

pub bounds-all-place : goal.bounds-all-place
bounds-all-place c =
    let s = c.args.self in
    let i = c.loop-i.i in
    let h : c.loop-c.c < length_in s.shortdatlen s.numshortblocks i = omega (arith, c.block_length-c-end.ensures) in
    omega (arith, c.place.ensures, within_place s.shape i c.loop-c.c (omega arith) h)

pub loop-c-preserved : goal.loop-c-preserved
loop-c-preserved c =
    let a = c.args in
    let h : c.loop-c.c < length_in a.self.shortdatlen a.self.numshortblocks c.loop-i.i = omega (arith, c.block_length-c-end.ensures) in
    position_turn a.self.shape a.all.now a.out.now c.loop-c.out c.loop-i.i c.loop-c.c c.block_start-start.result c.place.result (omega arith) c.block_start-start.ensures c.place.ensures
    (omega arith) h c.loop-c.invariant

pub loop-i-preserved : goal.loop-i-preserved
loop-i-preserved c =
    let s = c.args.self in
    each_at _ _ _ _ _ c.loop-c.invariant
    (omega (arith, c.block_start-start.ensures, c.block_length-c-end.ensures, next_start s.shortdatlen s.numshortblocks c.loop-i.i))

pub returns : goal.returns
returns c =
    let s = c.args.self in
    each_end _ _ _ (length c.args.out.now) c.loop-i.out c.loop-i.invariant (omega arith) (omega (arith, start_end s.shape c.loop-i.i (omega arith) (omega arith)))
