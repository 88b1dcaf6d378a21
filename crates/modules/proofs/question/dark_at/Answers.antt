-- `dark_at` answers at coordinates that are not negative.
-- Assumes nothing.
use Rattle.std.proofs.Common.{rules, arith, sym, ◌∙◌, leb-true, ltb-true}
use Rattle.modules.specs.Question.{place_lt, side_small}
use Rattle.modules.proofs.question.dark_at.Goals as goal
use Rattle.modules.proofs.question.dark_at.Goals.{then-valid_size, else-valid_size, then-size-grid, else-size-grid, then-x-size, else-x-size}

pub overflow_mul-size : goal.overflow_mul-size
overflow_mul-size c = record { fits = omega (arith, side_small _ _ c.valid_size.ensures c.if-valid_size.true) }

pub bounds-grid-y : goal.bounds-grid-y
bounds-grid-y c =
    elim c.if-x-size.branch [
      | then-x-size w ↦
          elim c.if-size-grid.branch [
            | then-size-grid u ↦
                elim c.if-valid_size.branch [
                  | then-valid_size v ↦
                      place_lt _ _ _ _ (leb-true _ _ (sym v.value-is ∙ u.if-size-grid.true)) (ltb-true _ _ (sym u.value-is ∙ w.if-x-size.true)) (ltb-true _ _ (sym w.value-is ∙ c.if-y-size.true))
                  | else-valid_size v ↦ search rules
                ]
            | else-size-grid u ↦ search rules
          ]
      | else-x-size w ↦ search rules
    ]
