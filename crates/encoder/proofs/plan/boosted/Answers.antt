-- `encoder::plan::boosted` meets its contract: each turn tries the next level.
-- Assumes nothing.
use Rattle.std.proofs.Common.{◌≡◌, ℕ, ◌+◌, zero, suc, ◌<◌, ◌∷◌, [], get_or, refl, ap, ◌∙◌, le_antisymm}
use native.Mathlib.Omega.{arith}
use Rattle.types.specs.declared.QrCodeEcc.{QrCodeEcc}
use Rattle.types.specs.declared.QrCodeEcc.TheVariants.{Medium, Quartile, High}
use Rattle.types.specs.Numbers.{level_of}
use Rattle.types.specs.Laws.{level_le}
use Rattle.encoder.specs.Planning.{raised, raised_none, raised_here, raised_not, raised_all}
use Rattle.encoder.proofs.plan.boosted.Goals as goal
use Rattle.encoder.proofs.plan.boosted.Goals.{then-datausedbits-capacity_bits, else-datausedbits-capacity_bits}

-- the levels that are tried, in turn
turn : (k : ℕ) (d : QrCodeEcc) → k < 3 → level_of (get_or (Medium ∷ Quartile ∷ High ∷ []) k d) ≡ k + 1
turn zero d h = refl
turn (suc zero) d h = refl
turn (suc (suc zero)) d h = refl
turn (suc (suc (suc k))) d h = absurd (omega arith)

pub loop-newecl-init : goal.loop-newecl-init
loop-newecl-init c = raised_none _ _ _

pub loop-newecl-preserved : goal.loop-newecl-preserved
loop-newecl-preserved c =
    let l = c.loop-newecl in
    elim c.if-datausedbits-capacity_bits.branch [
      | then-datausedbits-capacity_bits w ↦
          raised_here _ _ _ _ _ _ _ _ l.invariant refl (turn l.newecl-index _ c.loop-newecl-test.true) c.capacity_bits.ensures _ w.if-datausedbits-capacity_bits.true (ap level_of w.ecl-is)
      | else-datausedbits-capacity_bits w ↦
          raised_not _ _ _ _ _ _ _ _ l.invariant refl (turn l.newecl-index _ c.loop-newecl-test.true) c.capacity_bits.ensures _ w.if-datausedbits-capacity_bits.false (ap level_of w.ecl-is)
    ]

pub returns : goal.returns
returns c =
    let l = c.loop-newecl in
    raised_all _ _ _ _ (level_le c.args.ecl) c.requires
    (l.invariant ∙ ap (raised c.args.ver.value c.args.datausedbits (level_of c.args.ecl)) (le_antisymm l.auto.newecl-index-end c.loop-newecl-test.false))
