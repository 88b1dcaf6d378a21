-- `blocks::all_checks` meets its contract.
-- Assumes nothing.
use Prim.Native.Nat.{ℕ, ◌*◌}
use mathlib.Core.List.{List}
use mathlib.Core.Path.{◌≡◌, sym, ap, ◌∙◌}
use lib.ListN.{length, take, replicate, length-take}
use Rattle.standard.specs.Field.{divisor}
use native.Mathlib.Omega.{arith}
use Rattle.std.proofs.Common.{rules}
use Rattle.blocks.specs.Checks.{rests_in, rests_start, rests_lent, rests_end, block_within}
use Rattle.blocks.specs.Code.{row_small}
use Rattle.blocks.proofs.all_checks.Goals as goal

pub loop-i-init : goal.loop-i-init
loop-i-init c = search (rests_start, rules)

pub overflow_add-end : goal.overflow_add-end
overflow_add-end c =
    let s = c.args.shares in
    omega (arith, block_within s.shape c.loop-i.i (omega arith), row_small s.shortdatlen s.numblocks (omega arith) (omega arith))

pub loop-i-preserved : goal.loop-i-preserved
loop-i-preserved c =
    let t = c.loop-i in
    let a = c.args in
    let s = a.shares in
    let r = c.reed_solomon_compute_remainder in
    let size : length (take s.blockecclen (replicate {A = ℕ} 30 0)) ≡ s.blockecclen = length-take s.blockecclen (replicate {A = ℕ} 30 0) ∙ omega arith in
    let degree = ap length c.new-divisor.ensures ∙ c.reed_solomon_compute_divisor.auto.out ∙ size in
    rests_lent c.new-divisor.result.coefficients.now a.«data».now a.out.now t.out r.new.out s.shortdatlen s.numshortblocks t.i s.blockecclen
    c.block_start-start.result c.block_length.result degree t.invariant r.ensures c.block_start-start.ensures c.block_length.ensures

pub returns : goal.returns
returns c =
    let t = c.loop-i in
    let a = c.args in
    let s = a.shares in
    let n = s.numblocks in
    let size : length (take s.blockecclen (replicate {A = ℕ} 30 0)) ≡ s.blockecclen = length-take s.blockecclen (replicate {A = ℕ} 30 0) ∙ omega arith in
    let degree = ap length c.new-divisor.ensures ∙ c.reed_solomon_compute_divisor.auto.out ∙ size in
    let same = c.new-divisor.ensures ∙ c.reed_solomon_compute_divisor.ensures ∙ ap divisor size in
    rests_end c.new-divisor.result.coefficients.now a.«data».now a.out.now t.out s.shortdatlen s.numshortblocks t.i n t.invariant (omega arith) (omega arith)
    (c.requires.1 ∙ ap (λ (k : ℕ). n * k) (sym degree))
    ∙ ap (λ (g : List ℕ). rests_in g s.shortdatlen s.numshortblocks a.«data».now n) same
