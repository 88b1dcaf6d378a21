-- A run in Byte mode: every eight bits are a character, so its end is known without a look at them, and character j is the field j.
-- Assumes nothing.
use Prim.Native.Nat.{ℕ, zero, suc, ◌+◌, ◌-◌, ◌*◌, ◌/◌, ◌%◌, ◌≤◌, ◌<◌}
use Rattle.std.specs.Prelude.{◌≡◌, List, ◌∷◌, ◌++◌, length, get_or, set, Ok}
use Rattle.std.proofs.Math.Path.{refl, sym, ap, ap₂}
use Rattle.std.proofs.Common.{◌∙◌, zero-lt-suc, div-one}
use native.Mathlib.Omega.{arith}
use Rattle.std.proofs.Math.Nat.{mod-eq_of_lt}
use Rattle.standard.specs.Bits.{unpack}
use Rattle.laws.specs.Lists.{length_unpack}
use Rattle.bits.specs.Fields.{field, binary_unpack, field_lt}
use Rattle.segments.specs.Kinds.{width, char_of, group_chars}
use Rattle.segments.specs.Runs.{part}
use Rattle.parser.specs.Faults.{Ends, fault_at}
use Rattle.parser.specs.Runs.{run_end, run_chars, run_length}
use Rattle.parser.specs.Filled.{filled, filled_set, filled_whole}
use Rattle.parser.specs.CodeRuns.{run_short, run_next, full_cases}

-- a group is one character
one : (n : ℕ) → 1 ≡ part 2 (suc n)
one n = omega arith

less : (n : ℕ) → suc n - 1 ≡ n
less n = omega arith

module _ (buf : List ℕ) where
  pub byte_lt : (p x : ℕ) → x ≡ field (unpack buf) p 8 → p + 8 ≤ 8 * length buf → x < 256
  byte_lt p x e r = omega (arith, field_lt (unpack buf) p 8 (binary_unpack buf) (omega (arith, length_unpack buf)))

  -- ---- where a run ends

  byte_turn : (p n : ℕ) → p + 8 ≤ 8 * length buf → run_end 2 (unpack buf) (suc n) p (suc n) ≡ run_end 2 (unpack buf) n (p + 8) n
  byte_turn p n r =
      run_next 2 buf (run_end 2 (unpack buf) (suc n) p (suc n)) p (suc n) 1 8 refl (one n) refl (zero-lt-suc n)
      (field (unpack buf) p 8) 256 refl refl (omega arith) (byte_lt p (field (unpack buf) p 8) refl r)
      ∙ ap (λ (i : ℕ). run_end 2 (unpack buf) i (p + 8) i) (less n)

  pub byte_fits : (p n : ℕ) → p + 8 * n ≤ 8 * length buf → Ok (p + 8 * n) ≡ run_end 2 (unpack buf) n p n
  unfolding run_end
  byte_fits p zero r = let e : p + 8 * 0 ≡ p = omega arith in ap Ok e
  byte_fits p (suc n) r =
      let e : p + 8 * suc n ≡ p + 8 + 8 * n = omega arith in
      ap Ok e ∙ byte_fits (p + 8) n (omega arith) ∙ sym (byte_turn p n (omega arith))

  pub byte_cut : (p q n : ℕ) → q < n → p + 8 * q ≤ 8 * length buf → 8 * length buf < p + 8 * q + 8 → fault_at (p + 8 * q) ≡ run_end 2 (unpack buf) n p n
  byte_cut p q zero h r s = absurd (omega arith)
  byte_cut p zero (suc n) h r s =
      let e : p + 8 * 0 ≡ p = omega arith in
      ap fault_at e ∙ run_short 2 buf (run_end 2 (unpack buf) (suc n) p (suc n)) p (suc n) 1 8 refl (one n) refl (zero-lt-suc n) (omega arith)
  byte_cut p (suc q) (suc n) h r s =
      let e : p + 8 * suc q ≡ p + 8 + 8 * q = omega arith in
      ap fault_at e ∙ byte_cut (p + 8) q n (omega arith) (omega arith) (omega arith) ∙ sym (byte_turn p n (omega arith))

  byte_room : (p n end : ℕ) → run_end 2 (unpack buf) n p n ≡ Ok end → 8 * n ≤ 8 * length buf - p
  byte_room p zero end e = omega arith
  byte_room p (suc n) end e =
      let next : (p + 8 ≤ length (unpack buf)) × (run_end 2 (unpack buf) n (p + 8) n ≡ Ok end)
      = full_cases 2 (unpack buf) p (suc n) 1 refl (omega arith)
      (λ a b. let q : ◌≡◌ {A = Ends} (fault_at p) (Ok end) = sym b ∙ e in cc)
      (λ r a b. (r, ap (λ (i : ℕ). run_end 2 (unpack buf) i (p + 8) i) (sym (less n)) ∙ sym b ∙ e)) in
      let i : 8 * n ≤ 8 * length buf - (p + 8) = byte_room (p + 8) n end next.1 in
      omega (arith, next.0, length_unpack buf)

  -- ---- its characters

  chars_cons : (p n : ℕ) → p + 8 ≤ 8 * length buf → run_chars 2 (unpack buf) (suc n) p (suc n) ≡ field (unpack buf) p 8 ∷ run_chars 2 (unpack buf) n (p + 8) n
  unfolding run_chars group_chars char_of
  chars_cons p n r =
      let x : ℕ = field (unpack buf) p 8 in
      let own : x / 1 % 256 ≡ x = ap (λ (k : ℕ). k % 256) (div-one x) ∙ mod-eq_of_lt (byte_lt p x refl r) in
      ap (λ (m : ℕ). group_chars 2 m (field (unpack buf) p (width 2 m)) ++ run_chars 2 (unpack buf) n (p + width 2 m) (suc n - m)) (sym (one n))
      ∙ ap₂ (λ (y i : ℕ). y ∷ run_chars 2 (unpack buf) n (p + 8) i) own (less n)

  byte_char : (p n j : ℕ) → j < n → p + 8 * n ≤ 8 * length buf → get_or (run_chars 2 (unpack buf) n p n) j 0 ≡ field (unpack buf) (p + 8 * j) 8
  byte_char p zero j h r = absurd (omega arith)
  byte_char p (suc n) zero h r =
      let e : p ≡ p + 8 * 0 = omega arith in
      ap (λ (l : List ℕ). get_or l 0 0) (chars_cons p n (omega arith)) ∙ ap (λ (i : ℕ). field (unpack buf) i 8) e
  byte_char p (suc n) (suc j) h r =
      let e : p + 8 + 8 * j ≡ p + 8 * suc j = omega arith in
      ap (λ (l : List ℕ). get_or l (suc j) 0) (chars_cons p n (omega arith))
      ∙ byte_char (p + 8) n j (omega arith) (omega arith) ∙ ap (λ (i : ℕ). field (unpack buf) i 8) e

  pub byte_next : (o out : List ℕ) (p n j v : ℕ) → out ≡ filled o (run_chars 2 (unpack buf) n p n) j → v ≡ field (unpack buf) (p + 8 * j) 8 → j < n
      → 8 * n ≤ 8 * length buf - p → length o ≡ n → set out j v ≡ filled o (run_chars 2 (unpack buf) n p n) (j + 1)
  byte_next o out p n j v inv ev h r long =
      filled_set o (run_chars 2 (unpack buf) n p n) out j v inv (omega arith) (omega (arith, run_length 2 (unpack buf) n p n (omega arith)))
      (ev ∙ sym (byte_char p n j h (omega arith)))

  pub byte_whole : (o out : List ℕ) (p n j : ℕ) → out ≡ filled o (run_chars 2 (unpack buf) n p n) j → length o ≡ n → n ≤ j → out ≡ run_chars 2 (unpack buf) n p n
  byte_whole o out p n j inv long h = inv ∙ filled_whole o (run_chars 2 (unpack buf) n p n) j (omega arith) (omega (arith, run_length 2 (unpack buf) n p n (omega arith)))

  -- ---- the same where the kind is known to be 2

  pub bytes_room : (k p n end : ℕ) → k ≡ 2 → (k < 3 → run_end k (unpack buf) n p n ≡ Ok end) → 8 * n ≤ 8 * length buf - p
  bytes_room k p n end h e = byte_room p n end (ap (λ (i : ℕ). run_end i (unpack buf) n p n) (sym h) ∙ e (omega arith))
