-- `encoder::plan::make_plan` meets its contract.
-- Assumes nothing.
use native.Mathlib.Omega.{arith}
use Rattle.std.proofs.Common.{rules}
use Rattle.types.specs.Laws.{level_le}
use Rattle.types.specs.Masks.{mask_number_le}
use Rattle.segments.specs.Records.{parts_length}
use Rattle.encoder.specs.Planning.{range_good, plan_4, plan_5, plan_6, none_bad}
use Rattle.encoder.proofs.plan.make_plan.Goals as goal

pub returns-then-n-gt2048 : goal.returns-then-n-gt2048
returns-then-n-gt2048 c = search (plan_4, range_good, level_le, mask_number_le, parts_length, rules)

pub returns-in-Some : goal.returns-in-Some
returns-in-Some c = search (plan_5, range_good, level_le, mask_number_le, parts_length, rules)

pub plan_fit-requires : goal.plan_fit-requires
plan_fit-requires c = (omega arith, none_bad _ _ c.in_default.ensures)

pub returns : goal.returns
returns c = search (plan_6, range_good, level_le, mask_number_le, parts_length, rules)
