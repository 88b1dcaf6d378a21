-- `encoder::encode_records` meets its contract: what is planned can be drawn.
-- Assumes nothing.
use Rattle.std.proofs.Common.{sym}
use Rattle.encoder.specs.Ready.{plan_ready}
use Rattle.encoder.proofs.encode_records.Goals as goal

pub draw_plan-requires-clause-good : goal.draw_plan-requires-clause-good
draw_plan-requires-clause-good c = (plan_ready _ _ _ _ _ _ _ _ _ _ (sym c.in_ok-plan.ensures)).good

pub draw_plan-requires-clause-fit : goal.draw_plan-requires-clause-fit
draw_plan-requires-clause-fit c = (plan_ready _ _ _ _ _ _ _ _ _ _ (sym c.in_ok-plan.ensures)).fit
