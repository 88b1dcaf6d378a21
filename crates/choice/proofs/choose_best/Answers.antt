-- `choice::choose_best` meets its contract.
-- Assumes nothing.
use mathlib.Core.Path.{refl}
use Rattle.choice.specs.Lines.{rows_drawn, columns_drawn}
use Rattle.choice.specs.Candidates.{scored_first, scored_next, scored_same, scored_end}
use Rattle.std.proofs.Common.{rules}
use native.Mathlib.Omega.{arith}
use Rattle.choice.proofs.choose_best.Goals as goal
use Rattle.choice.proofs.choose_best.Goals.{then-penalty-minpenalty, else-penalty-minpenalty}

pub loop-i-init : goal.loop-i-init
loop-i-init c =
    let k = c.score_mask-minpenalty in (
      scored_first _ _ _ _ _ _ k.ensures.0 k.ensures.1 c.mask_at-msk.ensures (search rules),
      rows_drawn _ _ _ _ _ _ k.ensures.1 c.requires.square c.requires.held_rows.0 refl,
      columns_drawn _ _ _ _ _ _ k.ensures.1 c.requires.square c.requires.held_rows.1 refl,
    )

pub loop-i-preserved : goal.loop-i-preserved
loop-i-preserved c =
    let k = c.score_mask-penalty in let l = c.loop-i in (
      elim c.if-penalty-minpenalty.branch [
        | then-penalty-minpenalty w ↦
            scored_next _ _ _ _ _ _ _ _ _ _ l.invariant.0 k.ensures.0 k.ensures.1 c.mask_at-mask.ensures (search rules) _ _ (search rules) w.if-penalty-minpenalty.true (search rules) w.minpenalty-is
        | else-penalty-minpenalty w ↦
            scored_same _ _ _ _ _ _ _ _ _ _ l.invariant.0 k.ensures.0 k.ensures.1 c.mask_at-mask.ensures (search rules) _ _ w.if-penalty-minpenalty.false (search rules) w.minpenalty-is
      ],
      rows_drawn _ _ _ _ _ _ k.ensures.1 (search rules) l.invariant.1 refl,
      columns_drawn _ _ _ _ _ _ k.ensures.1 (search rules) l.invariant.2 refl,
    )

pub returns : goal.returns
returns c = scored_end _ _ _ _ _ _ _ _ c.loop-i.invariant.0 (omega arith) (omega arith) refl
