-- What the numbers of an entry stand for, or refusal 1, 2 or 3.
-- Assumes nothing.
use Rattle.std.specs.Prelude.{◌≡◌, ℕ, Bool, true, false, cond, List, Option, Some, None, Result, MatchResult, ltb}
use Rattle.std.proofs.Common.{arith}
use Rattle.standard.specs.Segments.{Part}
use Rattle.standard.specs.Plan.{Refusal as Told, refusal, Plan, unplanned, plan}
use Rattle.types.specs.Numbers.{level_of}
use Rattle.types.specs.Masks.{mask_number}
use Rattle.encoder.specs.declared.Refusal.{Refusal}
use Rattle.encoder.specs.declared.settings.Settings.{Settings}
use Rattle.encoder.specs.Answers.{number_of}
use Rattle.encoder.specs.Planning.{bad_range}

-- the refusals that need no records, in their order
abbrev pub checked : ℕ → ℕ → ℕ → ℕ → Option Told
checked l first last m =
    cond (ltb 3 l) (Some (refusal 1 l 0))
    (cond (bad_range first last) (Some (refusal 2 first last)) (cond (ltb 8 m) (Some (refusal 3 m 0)) None))

-- level, first and last version, mask (8: automatic) and boost are those of the numbers
pub record Settled (l first last m : ℕ) (boost : Bool) (s : Settings) : Type 0 where
  pub level : level_of s.level ≡ l
  pub minversion : s.minversion.value ≡ first
  pub maxversion : s.maxversion.value ≡ last
  pub mask : mask_number s.mask ≡ m
  pub boostecl : s.boostecl ≡ boost

abbrev pub Asked : ℕ → ℕ → ℕ → ℕ → Bool → Result Settings Refusal → Type 0
Asked l first last m boost r = MatchResult r (Settled l first last m boost) (λ e. checked l first last m ≡ Some (number_of e))

-- it is the plan's
pub checked_plan : (l first last m : ℕ) (boost : Bool) (text : List ℕ) (rs : List Part) (e : Told) → checked l first last m ≡ Some e → unplanned e ≡ plan l first last m boost text rs
unfolding plan
checked_plan l first last m boost text rs e q = first_of (ltb 3 l) (bad_range first last) (ltb 8 m) _ _ _ _ q
  where
    first_of : (a b c : Bool) (x y z : Told) (p : Plan) → cond a (Some x) (cond b (Some y) (cond c (Some z) None)) ≡ Some e
        → unplanned e ≡ cond a (unplanned x) (cond b (unplanned y) (cond c (unplanned z) p))
    first_of true b c x y z p q = cc
    first_of false true c x y z p q = cc
    first_of false false true x y z p q = cc
    first_of false false false x y z p q = let z : ◌≡◌ {A = ℕ} 0 1 = cc in absurd (omega arith)
