-- `get_module` answers what the definition says, for all coordinates.
-- Assumes nothing.
use Rattle.modules.specs.Question.{left_of, above, not_negative, dark_is}
use Rattle.modules.proofs.question.get_module.Goals as goal

pub returns-then-x-lt0 : goal.returns-then-x-lt0
returns-then-x-lt0 c = left_of _ _ _ _ c.if-x-lt0.true c.ranges.x

pub returns-then-y-lt0 : goal.returns-then-y-lt0
returns-then-y-lt0 c = above _ _ _ _ c.if-y-lt0.true c.ranges.y

pub overflow_cast-x : goal.overflow_cast-x
overflow_cast-x c = not_negative _ c.if-x-lt0.false c.ranges.x

pub overflow_cast-y : goal.overflow_cast-y
overflow_cast-y c = not_negative _ c.if-y-lt0.false c.ranges.y

pub returns : goal.returns
returns c = dark_is _ _ _ _ _ c.dark_at.ensures c.if-x-lt0.false c.if-y-lt0.false c.ranges.x c.ranges.y
