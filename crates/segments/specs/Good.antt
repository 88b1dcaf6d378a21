-- Laws that the proof of the record check cites: one for each way out of it. And what a good record means.
-- Assumes nothing.
use Rattle.std.specs.Prelude.{◌≡◌, ℕ, ◌+◌, ◌-◌, ◌^◌, ◌<◌, ◌≤◌, Bool, true, false, cond, ◌&&◌, T, List, [], length, take, drop, ◌==◌, ◌≢◌, nat_le, nat_lt, slice_index, refl}
use Rattle.std.proofs.Common.{sym, ap₂, ◌∙◌, subst, eqb→eq, ltb→lt, leb→le}
use Rattle.std.proofs.Math.Path.{ap}
use native.Mathlib.Omega.{arith}
use borrow.Author.Tests.{eqb-true, eq-eqb, ne_eqb, lt-ltb, le-ltb, le-leb, lt-leb}
use Rattle.standard.specs.Numbers.{every}
use Rattle.standard.specs.Kinds.{allowed}
use Rattle.standard.specs.Segments.{Part, Segment, segment_of, good_part, good_segment}
use Rattle.laws.specs.Tests.{and_left, and_right, and_pair}
use Rattle.segments.specs.Payload.{segment}
use Rattle.segments.specs.Records.{part_of, part_from}

module _ (text : List ℕ) (k s n a : ℕ) where
  pub eci_number : k ≡ 3 → s ≡ 0 → n ≡ 0 → nat_lt a 1_000_000 ≡ good_part text (part_of k s n a)
  unfolding good_part
  eci_number e q r = simp (eq-eqb k 3 e, eq-eqb s 0 q, eq-eqb n 0 r)

  pub eci_start : k ≡ 3 → (s ≢ 0) → false ≡ good_part text (part_of k s n a)
  unfolding good_part
  eci_start e h = simp (eq-eqb k 3 e, ne_eqb s 0 h)

  pub eci_length : k ≡ 3 → s ≡ 0 → (n ≢ 0) → false ≡ good_part text (part_of k s n a)
  unfolding good_part
  eci_length e q h = simp (eq-eqb k 3 e, eq-eqb s 0 q, ne_eqb n 0 h)

  pub bad_kind : (k ≢ 3) → 2 < k → false ≡ good_part text (part_of k s n a)
  unfolding good_part
  bad_kind ne h = let l : 3 ≤ k = omega arith in simp (ne_eqb k 3 ne, le-ltb k 3 l)

  module _ (j : ℕ) (is : j ≡ k) (low : j < 3) where
    low_k : k < 3
    low_k = omega arith

    other : k ≡ 3 → ⊥
    other e = omega (arith, low_k)

    pub bad_assign : (a ≢ 0) → false ≡ good_part text (part_of k s n a)
    unfolding good_part
    bad_assign h = simp (ne_eqb k 3 other, lt-ltb k 3 low_k, ne_eqb a 0 h)

    pub bad_part : a ≡ 0 → length text < s + n → false ≡ good_part text (part_of k s n a)
    unfolding good_part
    bad_part za l = simp (ne_eqb k 3 other, lt-ltb k 3 low_k, eq-eqb a 0 za, lt-leb (s + n) (length text) l)

    pub good_text : (b : Bool) → b ≡ every (allowed j) (take (s + n - s) (drop s text)) → a ≡ 0 → s ≤ length text → n ≤ length text - s → b ≡ good_part text (part_of k s n a)
    unfolding good_part
    good_text b e za q h =
        let l : s + n ≤ length text = omega arith in
        let d : s + n - s ≡ n = omega arith in
        e ∙ ap (λ (i : ℕ). every (allowed i) (take (s + n - s) (drop s text))) is
        ∙ ap (λ (i : ℕ). every (allowed k) (take i (drop s text))) d
        ∙ simp (ne_eqb k 3 other, lt-ltb k 3 low_k, eq-eqb a 0 za, le-leb (s + n) (length text) l)

-- ---- what a good record says

pub record Numbers (text : List ℕ) (k s n a : ℕ) : Type 0 where
  pub kind : k ≤ 3
  pub inside : s + n ≤ length text
  pub assign : a < 1_000_000
  pub none : k < 3 → a ≡ 0
  pub empty : k ≡ 3 → n ≡ 0

pub numbers : (text : List ℕ) (k s n a : ℕ) → T (good_part text (part_of k s n a)) → Numbers text k s n a
unfolding good_part
numbers text k s n a t = go (k == 3) refl t
  where
    chars : Bool
    chars = every (allowed k) (take n (drop s text))

    go : (b : Bool) → (k == 3) ≡ b
        → T (cond b (s == 0 && (n == 0 && nat_lt a 1_000_000)) (nat_lt k 3 && (a == 0 && (nat_le (s + n) (length text) && chars))))
        → Numbers text k s n a
    go true q t =
        let e : k ≡ 3 = eqb-true k 3 q in
        let u = and_right (s == 0) (n == 0 && nat_lt a 1_000_000) t in
        let z : s ≡ 0 = eqb→eq s 0 (and_left (s == 0) (n == 0 && nat_lt a 1_000_000) t) in
        let y : n ≡ 0 = eqb→eq n 0 (and_left (n == 0) (nat_lt a 1_000_000) u) in
        record { kind = omega arith; inside = omega arith; assign = ltb→lt a 1_000_000 (and_right (n == 0) (nat_lt a 1_000_000) u); none = (λ h. absurd (omega arith)); empty = (λ _. y) }
    go false q t =
        let e : k < 3 = ltb→lt k 3 (and_left (nat_lt k 3) (a == 0 && (nat_le (s + n) (length text) && chars)) t) in
        let u = and_right (nat_lt k 3) (a == 0 && (nat_le (s + n) (length text) && chars)) t in
        let z : a ≡ 0 = eqb→eq a 0 (and_left (a == 0) (nat_le (s + n) (length text) && chars) u) in
        let y : s + n ≤ length text = leb→le (s + n) (length text) (and_left (nat_le (s + n) (length text)) chars (and_right (a == 0) (nat_le (s + n) (length text) && chars) u)) in
        record { kind = omega arith; inside = y; assign = omega arith; none = (λ _. z); empty = (λ h. absurd (omega arith)) }

-- a good record means a good segment
pub good_segment_lem : (text : List ℕ) (r : Part) → T (good_part text r) → T (good_segment (segment_of text r))
unfolding good_part good_segment
good_segment_lem text r t = go (r.kind == 3) t
  where
    cs : List ℕ
    cs = take r.len (drop r.start text)

    go : (b : Bool)
        → T (cond b (r.start == 0 && (r.len == 0 && nat_lt r.assign 1_000_000)) (nat_lt r.kind 3 && (r.assign == 0 && (nat_le (r.start + r.len) (length text) && every (allowed r.kind) cs))))
        → T (cond b (length cs == 0 && nat_lt r.assign 1_000_000) (nat_lt r.kind 3 && (r.assign == 0 && every (allowed r.kind) cs)))
    go true t =
        let u = and_right (r.start == 0) (r.len == 0 && nat_lt r.assign 1_000_000) t in
        let z : r.len ≡ 0 = eqb→eq r.len 0 (and_left (r.len == 0) (nat_lt r.assign 1_000_000) u) in
        let e : 0 ≡ length cs = ap (λ (n : ℕ). length (take n (drop r.start text))) (sym z) in
        and_pair (length cs == 0) (nat_lt r.assign 1_000_000) (subst (λ (n : ℕ). T (n == 0)) e tt) (and_right (r.len == 0) (nat_lt r.assign 1_000_000) u)
    go false t =
        let u = and_right (nat_lt r.kind 3) (r.assign == 0 && (nat_le (r.start + r.len) (length text) && every (allowed r.kind) cs)) t in
        let w = and_right (r.assign == 0) (nat_le (r.start + r.len) (length text) && every (allowed r.kind) cs) u in
        and_pair (nat_lt r.kind 3) (r.assign == 0 && every (allowed r.kind) cs)
        (and_left (nat_lt r.kind 3) (r.assign == 0 && (nat_le (r.start + r.len) (length text) && every (allowed r.kind) cs)) t)
        (and_pair (r.assign == 0) (every (allowed r.kind) cs)
        (and_left (r.assign == 0) (nat_le (r.start + r.len) (length text) && every (allowed r.kind) cs) u)
        (and_right (nat_le (r.start + r.len) (length text)) (every (allowed r.kind) cs) w))

-- ---- what the code's segment of a good record means

module _ (text ns : List ℕ) (t : T (good_part text (part_from ns))) where
  numbers_at : Numbers text (slice_index ns 0) (slice_index ns 1) (slice_index ns 2) (slice_index ns 3)
  numbers_at = numbers text (slice_index ns 0) (slice_index ns 1) (slice_index ns 2) (slice_index ns 3) t

  pub part_inside : slice_index ns 1 + slice_index ns 2 ≤ length text
  part_inside = numbers_at.inside

  pub assign_32 : slice_index ns 3 < 2 ^ 32
  assign_32 = omega (arith, numbers_at.assign)

  pub text_named : (k : ℕ) → k ≡ slice_index ns 0 → k < 3
      → segment k (take (slice_index ns 1 + slice_index ns 2 - slice_index ns 1) (drop (slice_index ns 1) text)) 0 ≡ segment_of text (part_from ns)
  text_named k e h =
      let d : slice_index ns 1 + slice_index ns 2 - slice_index ns 1 ≡ slice_index ns 2 = omega arith in
      let z : 0 ≡ slice_index ns 3 = sym (numbers_at.none (omega arith)) in
      ap₂ (λ (j n : ℕ). segment j (take n (drop (slice_index ns 1) text)) 0) e d
      ∙ ap (λ (a : ℕ). segment (slice_index ns 0) (take (slice_index ns 2) (drop (slice_index ns 1) text)) a) z

  pub eci_named : 2 < slice_index ns 0 → segment 3 [] (slice_index ns 3) ≡ segment_of text (part_from ns)
  eci_named h =
      let e : slice_index ns 0 ≡ 3 = omega (arith, numbers_at.kind) in
      ap₂ (λ (j n : ℕ). segment j (take n (drop (slice_index ns 1) text)) (slice_index ns 3)) (sym e) (sym (numbers_at.empty e))

  -- it means a good segment
  pub named_good : (s : Segment) → s ≡ segment_of text (part_from ns) → T (good_segment s)
  named_good s e = subst (λ (g : Segment). T (good_segment g)) (sym e) (good_segment_lem text (part_from ns) t)
