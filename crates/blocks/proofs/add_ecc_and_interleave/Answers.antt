-- `blocks::add_ecc_and_interleave` meets its contract.
-- Assumes nothing.
use mathlib.Core.List.{List}
use mathlib.Core.Path.{ap, ◌∙◌}
use Prim.Native.Nat.{ℕ}
use lib.ListN.{length}
use Rattle.std.proofs.Common.{rules}
use Rattle.types.specs.Numbers.{level_of}
use Rattle.blocks.specs.SharedOut.{all_from}
use Rattle.blocks.specs.Words.{written_in, two_parts}
use Rattle.blocks.proofs.add_ecc_and_interleave.Goals as goal

pub returns : goal.returns
unfolding written_in
returns c =
    let a = c.args in
    let xs = a.«data».now in
    let o = a.out.now in
    let s = c.share_out-shares.result in
    let first = c.interleave in
    let e = c.of_checks.ensures in
    let second = simp (e.0, e.1, e.2) at c.interleave-2.ensures in
    all_from a.ver.value (level_of a.ecl) s.numblocks s.shortdatlen s.numshortblocks s.blockecclen c.share_out-shares.ensures xs o _
    (two_parts _ _ (length xs) o first.new.out c.interleave-2.new.out first.ensures second (search rules)
    ∙ ap (λ (checks : List ℕ). written_in s.numblocks s.shortdatlen s.numshortblocks s.blockecclen xs checks o) c.all_checks.ensures)
    c.requires.data_len.0 c.requires.data_len.1
