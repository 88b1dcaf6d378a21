-- Laws of alignment positions: the step, and the loop that stores them.
-- Assumes nothing.
use Rattle.std.specs.Prelude.{ℕ, suc, ◌+◌, ◌-◌, ◌*◌, ◌/◌, ◌≤◌, ◌<◌, List, [], ◌∷◌, ◌++◌, ◌≡◌, refl, length, get_or, set, take, drop, replicate}
use Rattle.std.proofs.Common.{sym, ap, ap₂, ◌∙◌, div-le_self, mul-le-mul_right, add-one, arith, length-set, take-append-drop, take-suc, take-suc-set, take_all, drop-set-lt, drop-drop, eq-eqb, ne_eqb}
use Rattle.standard.specs.Numbers.{tabulate}
use Rattle.standard.specs.Sizes.{side, centres}
use Rattle.standard.specs.Patterns.{alignment_step, alignment}
use Rattle.laws.specs.Lists.{length_tabulate, get_d_tabulate}
use Rattle.counts.specs.Ranges.{VersionRange, version_range}

-- ---- the step

pub step_32 : (v n : ℕ) → n ≡ v → n ≡ 32 → 26 ≡ alignment_step v
unfolding alignment_step
step_32 v n q e = rw (eq-eqb v 32 (sym q ∙ e))

pub step_other : (v n : ℕ) → n ≡ v → (n ≡ 32 → ⊥) → (4 * n + 2 * (n / 7 + 2) + 1) / (2 * (n / 7 + 2) - 2) * 2 ≡ alignment_step v
unfolding alignment_step
step_other v n q e = rw (← q, ne_eqb n 32 e)

-- the quotient is no more than what is divided
pub quotient_le : (n : ℕ) → n ≤ 40 → (4 * n + 2 * (n / 7 + 2) + 1) / (2 * (n / 7 + 2) - 2) * 2 ≤ 500
quotient_le n h = omega (arith, div-le_self (4 * n + 2 * (n / 7 + 2) + 1) (2 * (n / 7 + 2) - 2))

-- ---- the positions

-- a count and an array of seven that hold them, zeros after them
abbrev pub Holds : ℕ → ℕ → List ℕ → Type 0
Holds v n l = (n ≡ length (alignment v)) × (l ≡ alignment v ++ replicate (7 - n) 0)

pub none : (v n : ℕ) → n ≡ v → n ≡ 1 → Holds v 0 (replicate 7 0)
unfolding alignment
none v n q e = rw (eq-eqb v 1 (sym q ∙ e)) (refl, refl)

module _ (v : ℕ) (more : v ≡ 1 → ⊥) where
  several : alignment v ≡ 6 ∷ tabulate (centres v - 1) (λ i. side v - 7 - (centres v - 2 - i) * alignment_step v)
  unfolding alignment
  several = rw (ne_eqb v 1 more)

  length_alignment : length (alignment v) ≡ centres v
  length_alignment =
      ap length several ∙ ap suc (length_tabulate (centres v - 1) (λ i. side v - 7 - (centres v - 2 - i) * alignment_step v)) ∙ omega arith

  at_position : (i : ℕ) → suc i < centres v → get_or (alignment v) (suc i) 0 ≡ side v - 7 - (centres v - 2 - i) * alignment_step v
  at_position i h =
      ap (λ (l : List ℕ). get_or l (suc i) 0) several
      ∙ get_d_tabulate (centres v - 1) (λ i. side v - 7 - (centres v - 2 - i) * alignment_step v) i 0 (omega arith)

-- one before and after
shifted : (c i : ℕ) → 1 ≤ i → c - 1 - i ≡ c - 2 - (i - 1)
shifted c i h = omega arith

one_less : (i : ℕ) → i < 7 → 7 - i ≡ suc (7 - (i + 1))
one_less i h = omega arith

-- the first i are stored
pub record Stored (v i : ℕ) (l : List ℕ) : Type 0 where
  pub long : length l ≡ 7
  pub same : take i l ≡ take i (alignment v)
  pub rest : drop i l ≡ replicate (7 - i) 0

pub stored_first : (v : ℕ) → (v ≡ 1 → ⊥) → Stored v 1 (set (replicate 7 0) 0 6)
stored_first v more = record { long = refl; same = ap (take 1) (sym (several v more)); rest = refl }

module _ (v : ℕ) (l : List ℕ) (more : v ≡ 1 → ⊥) where
  position_is : (i s w : ℕ) → s ≡ alignment_step w → v ≡ w → 1 ≤ i → i < centres v → 4 * v + 10 - (centres v - 1 - i) * s ≡ get_or (alignment v) i 0
  position_is i s w es q low h =
      let at : suc (i - 1) ≡ i = omega arith in
      ap₂ ◌-◌ (top v) (ap₂ ◌*◌ (shifted (centres v) i low) (es ∙ ap alignment_step (sym q)))
      ∙ sym (at_position v more (i - 1) (omega arith))
      ∙ ap (λ (m : ℕ). get_or (alignment v) m 0) at
    where
      top : (v : ℕ) → 4 * v + 10 ≡ side v - 7
      top v = omega arith

  pub stored_next : (i s w : ℕ) → Stored v i l → s ≡ alignment_step w → v ≡ w → 1 ≤ i → i < centres v → centres v ≤ 7
      → Stored v (i + 1) (set l i (4 * v + 10 - (centres v - 1 - i) * s))
  stored_next i s w st es q low h few =
      let value = position_is i s w es q low h in
      record {
        long = length-set l i (4 * v + 10 - (centres v - 1 - i) * s) ∙ st.long;
        same = ap (λ (m : ℕ). take m (set l i (4 * v + 10 - (centres v - 1 - i) * s))) (add-one i)
            ∙ take-suc-set l i (4 * v + 10 - (centres v - 1 - i) * s) (omega (arith, st.long))
            ∙ ap₂ (λ (a : List ℕ) (x : ℕ). a ++ (x ∷ [])) st.same value
            ∙ sym (take-suc (alignment v) i 0 (omega (arith, length_alignment v more)))
            ∙ ap (λ (m : ℕ). take m (alignment v)) (sym (add-one i));
        rest = drop-set-lt (i + 1) l i (4 * v + 10 - (centres v - 1 - i) * s) (omega arith)
            ∙ sym (drop-drop 1 i l) ∙ ap (drop 1) (st.rest ∙ ap (λ (m : ℕ). replicate m 0) (one_less i (omega arith)));
      }

  pub stored_end : (i w : ℕ) → Stored v i l → i ≤ centres v → centres v ≤ i → v ≡ w → Holds w (centres v) l
  stored_end i w st h k q =
      let same : i ≡ centres v = omega arith in
      let first : take i l ≡ alignment v = st.same ∙ take_all i (alignment v) (omega (arith, length_alignment v more)) in (
        sym (length_alignment v more) ∙ ap (λ (u : ℕ). length (alignment u)) q,
        sym (take-append-drop i l) ∙ ap₂ (λ (a b : List ℕ). a ++ b) (first ∙ ap alignment q) (st.rest ∙ ap (λ (m : ℕ). replicate (7 - m) 0) same),
      )

-- no position is below 6
pub position_le : (v w i s : ℕ) → s ≡ alignment_step w → v ≡ w → 1 ≤ w → w ≤ 40 → 1 ≤ i → (centres v - 1 - i) * s ≤ 4 * v + 10
position_le v w i s es q low high first =
    let r : VersionRange v = version_range v (omega arith) (omega arith) in
    let fewer : centres v - 1 - i ≤ centres v - 2 = omega arith in
    let part : (centres v - 1 - i) * alignment_step v ≤ (centres v - 2) * alignment_step v = mul-le-mul_right (alignment_step v) fewer in
    rw (es, ← q) (omega (arith, r.centred))
