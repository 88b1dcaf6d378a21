-- What a plan says of the records that it was made for: they are good, and they fit the version at the level. So they can be drawn.
-- Assumes nothing.
use Rattle.std.specs.Prelude.{ℕ, zero, suc, ◌+◌, ◌-◌, ◌≤◌, Bool, true, false, cond, List, ◌≡◌, refl, T, leb, ltb, length}
use Rattle.std.proofs.Common.{sym, ap₂, ◌∙◌, arith, ltb-false}
use Rattle.standard.specs.Numbers.{least, highest, every}
use Rattle.standard.specs.Sizes.{capacity}
use Rattle.standard.specs.Segments.{Part, Segment, segments_of, good_part, first_bad, total_bits, lengths_fit, fits}
use Rattle.standard.specs.Plan.{Refusal, refusal, Plan, unplanned, planned, lowest_fit, boosted, too_long, levelled, plan_fit, plan}
use Rattle.laws.specs.Tests.{true_T, and_both, and_first, and_second}
use Rattle.laws.specs.Least.{least_bounds}
use Rattle.segments.specs.Records.{all_good}
use Rattle.encoder.specs.Planning.{bad_range, range_low, range_mid, range_high}

-- ---- the highest

highest_passes : (k n : ℕ) (p : ℕ → Bool) → p k ≡ true → p (highest k n p) ≡ true
highest_passes k zero p h = h
highest_passes k (suc n) p h = go (p (k + suc n)) refl (highest_passes k n p h)
  where
    go : (b : Bool) → p (k + suc n) ≡ b → p (highest k n p) ≡ true → p (elim b as (λ _. ℕ) [ true ↦ k + suc n | false ↦ highest k n p ]) ≡ true
    go true e rest = e
    go false e rest = rest

-- ---- through the refusals

past : (b : Bool) (e : Refusal) (p : Plan) (v k n : ℕ) → cond b (unplanned e) p ≡ planned v k n → (b ≡ false) × (p ≡ planned v k n)
past true e p v k n q = let z : ◌≡◌ {A = ℕ} 0 1 = cc in absurd (omega arith)
past false e p v k n q = (refl, q)

pub record Ready (m : ℕ) (text : List ℕ) (rs : List Part) (v k : ℕ) : Type 0 where
  pub low : 1 ≤ v
  pub high : v ≤ 40
  pub mask : m ≤ 8
  pub good : T (every (good_part text) rs)
  pub fit : T (fits k (segments_of text rs) v)

-- the version fits at the level asked for, and so at the one that the data get
fit_levelled : (l : ℕ) (ss : List Segment) (w : ℕ) (boost : Bool) → fits l ss w ≡ true → fits (cond boost (boosted w l (total_bits w ss)) l) ss w ≡ true
unfolding fits boosted
fit_levelled l ss w true f =
    and_both (lengths_fit w ss) (leb (total_bits w ss) (capacity w (highest l (3 - l) (λ k. leb (total_bits w ss) (capacity w k)))))
    (and_first (lengths_fit w ss) (leb (total_bits w ss) (capacity w l)) f)
    (highest_passes l (3 - l) (λ k. leb (total_bits w ss) (capacity w k)) (and_second (lengths_fit w ss) (leb (total_bits w ss) (capacity w l)) f))
fit_levelled l ss w false f = f

pub fit_planned : (l first last : ℕ) (boost : Bool) (ss : List Segment) (v k n : ℕ) → first ≤ suc last → plan_fit l first last boost ss ≡ planned v k n
    → (first ≤ v) × (v ≤ last) × T (fits k ss v)
unfolding plan_fit levelled lowest_fit
fit_planned l first last boost ss v k n h q =
    let p = past (ltb last (least first (suc last - first) (fits l ss))) (too_long l last ss) _ v k n q in
    let below : least first (suc last - first) (fits l ss) ≤ last = ltb-false last (least first (suc last - first) (fits l ss)) p.0 in
    let b = least_bounds (fits l ss) first (suc last - first) (omega arith) in
    let same : least first (suc last - first) (fits l ss) ≡ v = cc p.1 in
    let lev : cond boost (boosted (least first (suc last - first) (fits l ss)) l (total_bits (least first (suc last - first) (fits l ss)) ss)) l ≡ k = cc p.1 in
    let f = fit_levelled l ss (least first (suc last - first) (fits l ss)) boost b.0 in
    (omega (arith, b.1), omega arith, true_T (fits k ss v) (ap₂ (λ (a u : ℕ). fits a ss u) (sym lev) (sym same) ∙ f))

pub plan_ready : (l first last m : ℕ) (boost : Bool) (text : List ℕ) (rs : List Part) (v k n : ℕ) → plan l first last m boost text rs ≡ planned v k n → Ready m text rs v k
unfolding plan
plan_ready l first last m boost text rs v k n q =
    let p1 = past (ltb 3 l) (refusal 1 l 0) _ v k n q in
    let p2 = past (bad_range first last) (refusal 2 first last) _ v k n p1.1 in
    let p3 = past (ltb 8 m) (refusal 3 m 0) _ v k n p2.1 in
    let p4 = past (ltb 2048 (length rs)) (refusal 4 (length rs) 0) _ v k n p3.1 in
    let p5 = past (ltb (first_bad text rs) (length rs)) (refusal 5 (first_bad text rs) 0) _ v k n p4.1 in
    let low : 1 ≤ first = range_low first last p2.0 in
    let mid : first ≤ last = range_mid first last p2.0 in
    let high : last ≤ 40 = range_high first last p2.0 in
    let f = fit_planned l first last boost (segments_of text rs) v k n (omega arith) p5.1 in
    record {
      low = omega (arith, f.0);
      high = omega (arith, f.1);
      mask = ltb-false 8 m p3.0;
      good = all_good text rs (ltb-false (first_bad text rs) (length rs) p5.0);
      fit = f.2;
    }
