-- `fill_random`: one step of the number, and one byte of it.
-- Assumes nothing.
use Rattle.std.proofs.Common.{ℕ, suc, ◌≡◌, ◌≢◌, ◌<◌, ◌/◌, ◌%◌, length, refl, sym, ap, ◌∙◌, add-one, arith, below_more, get_or-set_other, get_or-set_same}
use Rattle.listing.specs.Cases.{next_random, random_after}
use Rattle.listing.proofs.fill_random.Goals as goal

pub loop-b-init : goal.loop-b-init
unfolding random_after
loop-b-init c = (refl, c.requires, λ k h. absurd (omega arith))

pub loop-b-preserved : goal.loop-b-preserved
unfolding random_after
loop-b-preserved c =
    let l = c.loop-b in
    let e : c.next_random-x.result ≡ random_after c.args.seed (suc l.b-index) = c.next_random-x.ensures.value ∙ ap next_random l.invariant.0 in (
      e ∙ ap (random_after c.args.seed) (sym (add-one l.b-index)),
      c.next_random-x.ensures.bound,
      below_more _ _
          (λ k h. let ne : k ≢ l.b-index = omega arith in rw get_or-set_other (l.invariant.2 k h))
          (let lt : l.b-index < length l.bytes = omega arith in rw get_or-set_same (ap (λ (x : ℕ). x / 65536 % 256) e)),
    )
