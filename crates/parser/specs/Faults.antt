-- Faults of the data: an answer that names the bit at which the first faulty field begins.
-- Assumes nothing.
use Rattle.std.specs.Prelude.{ℕ, ◌+◌, Bool, true, false, List, ◌≡◌, refl, cond, leb, length, Result, Ok, Err}
use Rattle.std.proofs.Common.{sym, ap, ◌∙◌}
use Rattle.bits.specs.Fields.{field}
use Rattle.parser.specs.declared.Fault.{Fault}

abbrev pub fault : ℕ → Fault
fault b = record { bit = b }

-- a bit, or a fault
abbrev pub Ends : Type 0
Ends = Result ℕ Fault

abbrev pub fault_at : {A : Type 0} → ℕ → Result A Fault
fault_at b = Err (fault b)

-- the number in w bits, which stand whole in the data
abbrev pub field_in : List ℕ → ℕ → ℕ → Result ℕ Fault
field_in u at w = cond (leb (at + w) (length u)) (Ok (field u at w)) (fault_at at)

module _ (u : List ℕ) (at w : ℕ) (r : Ends) (is : r ≡ field_in u at w) where
  pub field_err : (f : Fault) → r ≡ Err f → (leb (at + w) (length u) ≡ false) × (f ≡ fault at)
  field_err f was = go (leb (at + w) (length u)) refl
    where
      go : (b : Bool) → leb (at + w) (length u) ≡ b → (b ≡ false) × (f ≡ fault at)
      go true q =
          let k : ◌≡◌ {A = Ends} (Err f) (Ok (field u at w)) = sym was ∙ is ∙ ap (λ (t : Bool). cond t (Ok (field u at w)) (fault_at at)) q in
          cc
      go false q =
          let k : ◌≡◌ {A = Ends} (Err f) (Err (fault at)) = sym was ∙ is ∙ ap (λ (t : Bool). cond t (Ok (field u at w)) (fault_at at)) q in
          let i : f ≡ fault at = cc in
          (refl, i)

  pub field_ok : (x : ℕ) → r ≡ Ok x → (leb (at + w) (length u) ≡ true) × (x ≡ field u at w)
  field_ok x was = go (leb (at + w) (length u)) refl
    where
      go : (b : Bool) → leb (at + w) (length u) ≡ b → (b ≡ true) × (x ≡ field u at w)
      go true q =
          let k : ◌≡◌ {A = Ends} (Ok x) (Ok (field u at w)) = sym was ∙ is ∙ ap (λ (t : Bool). cond t (Ok (field u at w)) (fault_at at)) q in
          let i : x ≡ field u at w = cc in
          (refl, i)
      go false q =
          let k : ◌≡◌ {A = Ends} (Ok x) (Err (fault at)) = sym was ∙ is ∙ ap (λ (t : Bool). cond t (Ok (field u at w)) (fault_at at)) q in
          cc
