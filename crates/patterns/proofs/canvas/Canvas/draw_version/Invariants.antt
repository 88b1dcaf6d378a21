-- `draw_version` draws the version layer.
-- Assumes nothing.
use Rattle.laws.specs.Marks.{twins}
use Rattle.patterns.specs.FormatPlaces.{word_bit}
use Rattle.patterns.specs.VersionLayer.{version_x, version_y}
use Rattle.patterns.specs.Painted.{Paints}
use Rattle.patterns.proofs.canvas.Canvas.draw_version.Given as goal

abbrev pub invariant-loop-i : goal.invariant-loop-i
invariant-loop-i l = Paints l.initial.self l.self (twins l.i (version_x l.size) version_y (word_bit l.bits))
