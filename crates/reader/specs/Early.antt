-- The first checks: the version of a side, the first byte above 1, and the refusal that comes first.
-- Assumes nothing.
use Prim.Native.Nat.{ℕ, ◌+◌, ◌-◌, ◌*◌, ◌/◌, ◌%◌, ◌≤◌, ◌<◌}
use Rattle.std.specs.Prelude.{Bool, cond, ◌&&◌, List, ◌≡◌, refl, get_or, Option, Some, None, Result, Ok, Err, option_map, ok_or}
use Rattle.std.specs.List.{position_or_len}
use Rattle.std.proofs.lemmas.List.Sums.{position_or_len_is}
use Rattle.std.proofs.Math.Bool.{true, false}
use Rattle.std.proofs.Math.Path.{sym, ap, subst}
use Rattle.std.proofs.Common.{◌∙◌, mul-le-mul}
use native.Mathlib.Omega.{arith}
use Rattle.std.proofs.Math.Dec.{ltb}
use Rattle.std.proofs.Math.ListN.{length}
use borrow.Author.Tests.{lt-ltb, le-ltb, eq-eqb, ne_eqb, ltb-true, ltb-false}
use Rattle.standard.specs.Sizes.{side}
use Rattle.standard.specs.Plan.{refusal}
use Rattle.standard.specs.Module.{version_of, valid_side}
use Rattle.laws.specs.All.{all_to, all_next, all_at}
use Rattle.laws.specs.Least.{least_within, least_bounds, least_before, least_none}
use Rattle.types.specs.declared.Version.{Version}
use Rattle.reader.specs.declared.Refusal.{Refusal}
use Rattle.reader.specs.declared.Refusal.TheVariants.{Side}
use Rattle.reader.specs.Answers.{Checks}
use Rattle.modules.specs.Question.{valid_range, valid_low, valid_high, valid_rest}
use Rattle.standard.specs.Read.{first_above, nothing, refused_by, first_refusal}

-- ---- the version of a side

abbrev pub version_in : ℕ → Option ℕ
version_in s = cond (valid_side s) (Some (version_of s)) None

pub version_low : (s : ℕ) → s < 21 → None ≡ version_in s
version_low s h = rw (← valid_low s h)

pub version_high : (s : ℕ) → 177 < s → None ≡ version_in s
version_high s h = rw (← valid_high s h)

pub version_other : (s : ℕ) → 21 ≤ s → s ≤ 177 → (s % 4 ≡ 1 → ⊥) → None ≡ version_in s
version_other s low high n = rw (← valid_rest s low high, ne_eqb (s % 4) 1 n)

pub version_side : (s : ℕ) → 21 ≤ s → s ≤ 177 → s % 4 ≡ 1 → Some ((s - 17) / 4) ≡ version_in s
version_side s low high e = rw (← valid_rest s low high, eq-eqb (s % 4) 1 e)

-- ---- the first byte above 1

-- the place, where there is one
abbrev pub above_in : List ℕ → Option ℕ
above_in g = cond (ltb (first_above g) (length g)) (Some (first_above g)) None

module _ (g : List ℕ) where
  -- what a search from the front finds
  pub above_first : position_or_len (λ b. ltb 1 b) g ≡ first_above g
  unfolding first_above
  above_first =
      let p : ℕ → Bool = λ i. ltb 1 (get_or g i 0) in
      position_or_len_is (λ b. ltb 1 b) g (first_above g) 0 (omega (arith, least_within p 0 (length g))) (λ k h. least_before p 0 (length g) k (omega arith) h) (λ h. (least_bounds p 0 (length g) (omega arith)).0)

  pub above_found : (r : Option ℕ) → r ≡ cond (ltb (position_or_len (λ b. ltb 1 b) g) (length g)) (Some (position_or_len (λ b. ltb 1 b) g)) None → r ≡ above_in g
  above_found r e = e ∙ ap (λ (n : ℕ). cond (ltb n (length g)) (Some n) None) above_first

  pub above_some : (at : ℕ) → Some at ≡ above_in g → (at ≡ first_above g) × (at < length g)
  above_some at e = go (ltb (first_above g) (length g)) refl
    where
      go : (b : Bool) → ltb (first_above g) (length g) ≡ b → (at ≡ first_above g) × (at < length g)
      go true q =
          let c : Some at ≡ Some (first_above g) = e ∙ ap (λ (t : Bool). cond t (Some (first_above g)) None) q in
          let k : at ≡ first_above g = cc in
          (k, omega (arith, ltb-true (first_above g) (length g) q))
      go false q =
          let c : Some at ≡ None = e ∙ ap (λ (t : Bool). cond t (Some (first_above g)) None) q in
          cc

  pub above_no : None ≡ above_in g → length g ≤ first_above g
  above_no e = go (ltb (first_above g) (length g)) refl
    where
      go : (b : Bool) → ltb (first_above g) (length g) ≡ b → length g ≤ first_above g
      go true q =
          let c : ◌≡◌ {A = Option ℕ} None (Some (first_above g)) = e ∙ ap (λ (t : Bool). cond t (Some (first_above g)) None) q in
          cc
      go false q = ltb-false (first_above g) (length g) q

  -- where none is above 1, every byte is 0 or 1
  pub above_none : length g ≤ first_above g → (i : ℕ) → i < length g → get_or g i 0 < 2
  unfolding first_above
  above_none h i b =
      omega (arith, ltb-false 1 (get_or g i 0) (least_before (λ j. ltb 1 (get_or g j 0)) 0 (length g) i (omega arith) (omega arith)))

pub none_above : (g : List ℕ) → ((i : ℕ) → i < length g → get_or g i 0 < 2) → first_above g ≡ length g
unfolding first_above
none_above g h = least_none (λ i. ltb 1 (get_or g i 0)) 0 (length g) (λ i a b. le-ltb 1 (get_or g i 0) (omega (arith, h i (omega arith)))) ∙ omega arith

-- the first n bytes are 0 or 1
abbrev pub small_to : ℕ → List ℕ → Bool
small_to n g = all_to n (λ k. ltb (get_or g k 0) 2)

pub small_next : (g : List ℕ) (n : ℕ) (b : Bool) → b ≡ small_to n g → b && ltb (get_or g n 0) 2 ≡ small_to (n + 1) g
small_next g n b e = all_next (λ k. ltb (get_or g k 0) 2) n b (ltb (get_or g n 0) 2) e refl

pub small_all : (g : List ℕ) (b : Bool) → b ≡ small_to (length g) g → b ≡ true → None ≡ above_in g
small_all g b e t =
    let k : first_above g ≡ length g = none_above g (λ i h. ltb-true (get_or g i 0) 2 (all_at (λ k. ltb (get_or g k 0) 2) (length g) i (sym e ∙ t) h)) in
    rw (le-ltb (first_above g) (length g) (omega arith))

-- ---- the refusal that comes first

pub record Sided (s v : ℕ) : Type 0 where
  pub valid : valid_side s ≡ true
  pub is : s ≡ side v

module _ (s : ℕ) (o : Option Version) (e : option_map (λ (v : Version). v.value) o ≡ version_in s) where
  pub side_none : o ≡ None → valid_side s ≡ false
  side_none z = go (valid_side s) refl
    where
      go : (b : Bool) → valid_side s ≡ b → b ≡ false
      go true q =
          let c : ◌≡◌ {A = Option ℕ} None (Some (version_of s)) = sym (ap (option_map (λ (v : Version). v.value)) z) ∙ e ∙ ap (λ (t : Bool). cond t (Some (version_of s)) None) q in
          cc
      go false q = refl

  pub sided : (v : Version) → o ≡ Some v → Sided s v.value
  sided v z = go (valid_side s) refl
    where
      go : (b : Bool) → valid_side s ≡ b → Sided s v.value
      go true q =
          let r = valid_range s q in
          let c : Some v.value ≡ Some (version_of s) = sym (ap (option_map (λ (v : Version). v.value)) z) ∙ e ∙ ap (λ (t : Bool). cond t (Some (version_of s)) None) q in
          let k : v.value ≡ version_of s = cc in
          record { valid = q; is = r.0 ∙ ap side (sym k) }
      go false q =
          let c : Some v.value ≡ None = sym (ap (option_map (λ (v : Version). v.value)) z) ∙ e ∙ ap (λ (t : Bool). cond t (Some (version_of s)) None) q in
          cc

module _ (g : List ℕ) (s room : ℕ) (o : Option Version) (e : option_map (λ (v : Version). v.value) o ≡ version_in s) where
  first_side : o ≡ None → first_refusal g s room ≡ refused_by (refusal 11 s 0)
  unfolding first_refusal
  first_side z = rw (side_none s o e z)

  -- where there is no version, the side is refused
  pub first_refused : (w : Result Version Refusal) (f : Refusal) → w ≡ ok_or o (Side s) → w ≡ Err f → Checks g s room (Err f)
  first_refused w f q was = go o refl
    where
      go : (p : Option Version) → o ≡ p → Checks g s room (Err f)
      go None z =
          let k : ◌≡◌ {A = Result Version Refusal} (Err (Side s)) (Err f) = sym (q ∙ ap (λ (x : Option Version). ok_or x (Side s)) z) ∙ was in
          let i : Side s ≡ f = cc in
          subst (λ (x : Refusal). Checks g s room (Err x)) i (first_side z)
      go (Some v) z =
          let k : ◌≡◌ {A = Result Version Refusal} (Ok v) (Err f) = sym (q ∙ ap (λ (x : Option Version). ok_or x (Side s)) z) ∙ was in
          cc

  module _ (v : Version) (is : o ≡ Some v) where
    -- the square of a side is small
    pub area_fits : s * s < 18446744073709551616
    area_fits =
        let k : s ≤ 177 = omega (arith, v.in_range.1, (sided s o e v is).is) in
        let b : s * s ≤ 31329 = mul-le-mul k k in
        omega arith

    pub first_length : (length g ≡ s * s → ⊥) → first_refusal g s room ≡ refused_by (refusal 12 (s * s) 0)
    unfolding first_refusal
    first_length k = rw ((sided s o e v is).valid, ne_eqb (length g) (s * s) k)

    module _ (r : Option ℕ) (q : r ≡ above_in g) (k : length g ≡ s * s) where
      pub first_byte : (at : ℕ) → r ≡ Some at → first_refusal g s room ≡ refused_by (refusal 13 at 0)
      unfolding first_refusal
      first_byte at z =
          let f = above_some g at (sym z ∙ q) in
          rw ((sided s o e v is).valid, eq-eqb (length g) (s * s) k, ← f.0, lt-ltb at (length g) f.1)

      pub first_scratch : r ≡ None → room < 40_000 → first_refusal g s room ≡ refused_by (refusal 9 40_000 0)
      unfolding first_refusal
      first_scratch z h = rw ((sided s o e v is).valid, eq-eqb (length g) (s * s) k, le-ltb (first_above g) (length g) (above_no g (sym z ∙ q)), lt-ltb room 40_000 h)

      pub first_none : r ≡ None → 40_000 ≤ room → first_refusal g s room ≡ nothing
      unfolding first_refusal
      first_none z h = rw ((sided s o e v is).valid, eq-eqb (length g) (s * s) k, le-ltb (first_above g) (length g) (above_no g (sym z ∙ q)), le-ltb room 40_000 h)

      -- all that the first checks find
      pub first_fine : r ≡ None → 40_000 ≤ room → Checks g s room (Ok v)
      first_fine z h =
          let side : s ≡ side v.value = (sided s o e v is).is in
          (first_none z h, side, k ∙ ap (λ (x : ℕ). x * x) side, h, above_no g (sym z ∙ q))
