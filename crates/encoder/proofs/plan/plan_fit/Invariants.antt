-- `encoder::plan::plan_fit`: no version below the one that is tested fits.
-- Assumes nothing.
use Rattle.std.specs.Prelude.{◌-◌}
use Rattle.standard.specs.Segments.{segments_of}
use Rattle.types.specs.Numbers.{level_of}
use Rattle.segments.specs.Records.{parts_of}
use Rattle.encoder.specs.Search.{Searched}
use Rattle.encoder.proofs.plan.plan_fit.Given as goal

abbrev pub invariant-loop-bits : goal.invariant-loop-bits
invariant-loop-bits l =
    Searched (level_of l.settings.level) l.settings.minversion.value l.settings.maxversion.value l.version.value (segments_of l.text (parts_of l.records))

abbrev pub decreases-loop-bits : goal.decreases-loop-bits
decreases-loop-bits l = l.settings.maxversion.value - l.version.value
