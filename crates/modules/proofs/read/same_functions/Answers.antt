-- `same_functions` compares the function modules one after the other.
-- Assumes nothing.
use Rattle.std.proofs.Common.{rules, arith, ℕ, sym, ap, ap₂, ◌∙◌, length-append}
use Rattle.std.proofs.lemmas.Slice.Zip.{zip_turn, zip_end}
use Rattle.laws.specs.All.{all_none, all_next, all_end}
use Rattle.modules.specs.Same.{agree, agree_to}
use Rattle.modules.proofs.read.same_functions.Goals as goal

pub loop-c-init : goal.loop-c-init
loop-c-init c = all_none _

pub loop-c-preserved : goal.loop-c-preserved
loop-c-preserved c =
    let t = zip_turn c.args.grid.now c.args.work.now _ _ _ c.next.new.self _ (search rules) (search rules) c.loop-c.yielded_by _ c.in-Some.is c.next.ensures.steps in
    all_next _ _ _ _ c.loop-c.invariant (c.agrees-all.ensures ∙ ap₂ agree (t.2 0) (t.3 0))
    ∙ ap (λ (n : ℕ). agree_to n c.args.grid.now c.args.work.now) (sym (length-append c.loop-c.yielded _))

pub returns : goal.returns
returns c =
    let t = zip_end c.args.grid.now c.args.work.now _ _ _ c.next.new.self _ (search rules) (search rules) c.loop-c.yielded_by c.in-None.is c.next.ensures.steps in
    all_end _ _ _ _ c.loop-c.invariant (omega arith) (omega arith)
