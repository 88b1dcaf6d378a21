-- The order of refusals 1 to 7, the level that the data get, and what a plan says of its records.
-- Assumes nothing.
use Prim.Native.Nat.{ℕ, zero, suc, ◌+◌, ◌*◌, ◌^◌, ◌≤◌, ◌<◌}
use Rattle.std.specs.Prelude.{Bool, true, false, cond, ◌&&◌, not, List, ◌≡◌, T, leb, length}
use Rattle.std.proofs.Math.Path.{refl}
use Rattle.std.proofs.Common.{ap, ◌∙◌, arith, add-one}
use borrow.Author.Tests.{le-leb, lt-leb, le-ltb, lt-ltb, leb-true, not-false}
use Rattle.standard.specs.Numbers.{every}
use Rattle.standard.specs.Sizes.{data_codewords, capacity}
use Rattle.standard.specs.Segments.{Part, segments_of, good_part, first_bad}
use Rattle.standard.specs.Plan.{refusal, Plan, unplanned, boosted, plan_fit, plan}
use Rattle.segments.specs.Records.{all_good}
use Rattle.counts.specs.Ranges.{PairRange, pair_range}
use Rattle.laws.specs.Tests.{and_first, and_second}

-- ---- the range

abbrev pub bad_range : ℕ → ℕ → Bool
bad_range first last = not (leb 1 first && (leb first last && leb last 40))

pub range_good : (first last : ℕ) → 1 ≤ first → first ≤ last → last ≤ 40 → bad_range first last ≡ false
range_good first last low mid high = rw (le-leb 1 first low, le-leb first last mid, le-leb last 40 high)

-- ---- the level

unfoldable pub final_level : ℕ → ℕ → Bool → ℕ → ℕ
final_level v l boost n = cond boost (boosted v l n) l

-- level l after levels 1 to k were tried, from low to high: the last that holds n bits
unfoldable pub raised : ℕ → ℕ → ℕ → ℕ → ℕ
raised v n l zero = l
raised v n l (suc k) = cond (leb n (capacity v (suc k))) (suc k) (raised v n l k)

pub raised_none : (v n l : ℕ) → l ≡ raised v n l 0
unfolding raised
raised_none v n l = refl

-- the level of the next turn, which holds the bits or does not
module _ (v n l k j r a c : ℕ) (e : r ≡ raised v n l k) (ej : j ≡ k + 1) (ea : a ≡ j) (ec : c ≡ capacity v a) where
  pub raised_here : (t : ℕ) → n ≤ c → t ≡ a → t ≡ raised v n l (k + 1)
  unfolding raised
  raised_here t h et =
      let same : capacity v a ≡ capacity v (suc k) = ap (capacity v) (omega (arith, ea, ej)) in
      rw (add-one, le-leb n (capacity v (suc k)) (omega (arith, same))) (omega (arith, et, ea, ej))

  pub raised_not : (t : ℕ) → c < n → t ≡ r → t ≡ raised v n l (k + 1)
  unfolding raised
  raised_not t h et =
      let same : capacity v a ≡ capacity v (suc k) = ap (capacity v) (omega (arith, ea, ej)) in
      rw (add-one, lt-leb n (capacity v (suc k)) (omega (arith, same))) (et ∙ e)

-- after all three it is the highest, not below l
pub raised_all : (v n l r : ℕ) → l ≤ 3 → n ≤ capacity v l → r ≡ raised v n l 3 → r ≡ boosted v l n
unfolding boosted raised
raised_all v n zero r h fit e = e ∙ three (leb n (capacity v 1)) (leb n (capacity v 2)) (leb n (capacity v 3))
  where
    three : (a b c : Bool) → cond c 3 (cond b 2 (cond a 1 0)) ≡ elim c as (λ _. ℕ) [ true ↦ 3 | false ↦ elim b as (λ _. ℕ) [ true ↦ 2 | false ↦ elim a as (λ _. ℕ) [ true ↦ 1 | false ↦ 0 ] ] ]
    three a b true = refl
    three a true false = refl
    three true false false = refl
    three false false false = refl
raised_all v n (suc zero) r h fit e = e ∙ rw (le-leb n (capacity v 1) fit) (two (leb n (capacity v 2)) (leb n (capacity v 3)))
  where
    two : (b c : Bool) → cond c 3 (cond b 2 1) ≡ elim c as (λ _. ℕ) [ true ↦ 3 | false ↦ elim b as (λ _. ℕ) [ true ↦ 2 | false ↦ 1 ] ]
    two b true = refl
    two true false = refl
    two false false = refl
raised_all v n (suc (suc zero)) r h fit e = e ∙ rw (le-leb n (capacity v 2) fit) (one (leb n (capacity v 3)))
  where
    one : (c : Bool) → cond c 3 2 ≡ elim c as (λ _. ℕ) [ true ↦ 3 | false ↦ 2 ]
    one true = refl
    one false = refl
raised_all v n (suc (suc (suc zero))) r h fit e = e ∙ rw (le-leb n (capacity v 3) fit)
raised_all v n (suc (suc (suc (suc l)))) r h fit e = absurd (omega arith)

-- ---- the order of the refusals

module _ (l first last m : ℕ) (boost : Bool) (text : List ℕ) (rs : List Part) (one : l ≤ 3) (two : bad_range first last ≡ false) (three : m ≤ 8) (n : ℕ)
    (count : length rs ≡ n) where
  pub plan_4 : 2048 < n → unplanned (refusal 4 n 0) ≡ plan l first last m boost text rs
  unfolding plan
  plan_4 h = rw (le-ltb 3 l one, two, le-ltb 8 m three, count, lt-ltb 2048 n h)

  module _ (four : n ≤ 2048) (i : ℕ) (bad : i ≡ first_bad text rs) where
    pub plan_5 : i < n → unplanned (refusal 5 i 0) ≡ plan l first last m boost text rs
    unfolding plan
    plan_5 h = rw (le-ltb 3 l one, two, le-ltb 8 m three, count, le-ltb 2048 n four, ← bad, lt-ltb i n h)

    pub plan_6 : (p : Plan) → n ≤ i → p ≡ plan_fit l first last boost (segments_of text rs) → p ≡ plan l first last m boost text rs
    unfolding plan
    plan_6 p h e = rw (le-ltb 3 l one, two, le-ltb 8 m three, count, le-ltb 2048 n four, ← bad, le-ltb i n h) e

-- ---- what the tests say

module _ (first last : ℕ) (f : bad_range first last ≡ false) where
  inside : leb 1 first && (leb first last && leb last 40) ≡ true
  inside = not-false (leb 1 first && (leb first last && leb last 40)) f

  pub range_low : 1 ≤ first
  range_low = leb-true 1 first (and_first (leb 1 first) (leb first last && leb last 40) inside)

  pub range_mid : first ≤ last
  range_mid = leb-true first last (and_first (leb first last) (leb last 40) (and_second (leb 1 first) (leb first last && leb last 40) inside))

  pub range_high : last ≤ 40
  range_high = leb-true last 40 (and_second (leb first last) (leb last 40) (and_second (leb 1 first) (leb first last && leb last 40) inside))

-- no record is bad
pub none_bad : (text : List ℕ) (rs : List Part) → first_bad text rs ≡ length rs → T (every (good_part text) rs)
none_bad text rs e = all_good text rs (omega arith)

-- ---- data bits

pub capacity_fits : (v l n : ℕ) → n ≡ data_codewords v l → 1 ≤ v → v ≤ 40 → l ≤ 3 → 8 * n < 2 ^ 64
capacity_fits v l n e low high h = let p : PairRange v l = pair_range v l low high h in omega (arith, p.words)
