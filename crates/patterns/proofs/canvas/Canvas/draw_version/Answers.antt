-- `draw_version` draws the version layer.
-- Assumes nothing.
use Rattle.std.proofs.Common.{rules, arith, refl, sym}
use Rattle.laws.specs.Marks.{twins_start, twins_next}
use Rattle.patterns.specs.FormatPlaces.{word_bit_lem}
use Rattle.patterns.specs.VersionLayer.{none_below_7, version_drawn}
use Rattle.patterns.specs.Everything.{square_is}
use Rattle.patterns.specs.Painted.{from, from_at, also, next}
use Rattle.patterns.proofs.canvas.Canvas.draw_version.Goals as goal

pub returns-then-value-lt7 : goal.returns-then-value-lt7
returns-then-value-lt7 c = from_at _ _ _ c.requires (none_below_7 _ _ (square_is _ _ _ (sym c.requires) c.args.self.now.square) (omega (arith, c.value.ensures)))

pub loop-i-init : goal.loop-i-init
loop-i-init c = from _ _ (twins_start _ _ _ _ _ c.args.self.now.square)

pub set_twin_modules-requires : goal.set_twin_modules-requires
set_twin_modules-requires c = let size = c.loop-i.invariant.size in (omega arith, omega arith)

pub loop-i-preserved : goal.loop-i-preserved
loop-i-preserved c =
    let e = c.loop-i.invariant in
    next _ _ _ _ _ _ e c.set_twin_modules.ensures (λ d. twins_next _ _ _ _ _ _ _ _ _ _ _ e.cells d refl refl (word_bit_lem _ _ _ c.get_bit.ensures))

pub returns : goal.returns
returns c =
    let e = c.loop-i.invariant in
    let sq = square_is _ _ _ (sym c.requires) c.args.self.now.square in
    also _ _ _ _ e (rw c.requires (version_drawn _ _ _ _ _ _ e.cells c.requires c.version_word-bits.ensures sq (omega (arith, c.value.ensures)) (search rules) (search rules)))
