-- An ECI number, read strictly: what is written is read, and what is read was written.
-- Assumes nothing.
use Prim.Native.Nat.{ℕ, ◌+◌, ◌/◌, ◌%◌, ◌^◌, ◌≤◌, ◌<◌}
use Rattle.std.specs.Prelude.{Bool, true, false, cond, ◌≡◌, refl, leb, ltb, Result, Ok}
use Rattle.std.proofs.Common.{sym, ap₂, ◌∙◌, lt-ltb, le-ltb, le-leb, ltb-true, ltb-false, leb-true}
use Rattle.std.proofs.Math.Path.{ap}
use mathlib.Core.List.{List, ◌++◌, append_assoc}
use native.Mathlib.Omega.{arith}
use Rattle.std.proofs.Math.ListN.{length, drop}
use Rattle.standard.specs.Bits.{bits}
use Rattle.standard.specs.Kinds.{eci_bits}
use Rattle.laws.specs.Tests.{cond_true, cond_false}
use Rattle.bits.specs.Fields.{field, Binary, field_hit, field_rest, field_room, field_split, field_lt, bits_add}
use Rattle.parser.specs.declared.Fault.{Fault}
use Rattle.parser.specs.declared.eci_number.Eci.{Eci}
use Rattle.parser.specs.Faults.{fault_at}
use Rattle.segments.specs.Eci.{small_bits, middle_bits, large_bits}
use Rattle.parser.specs.Choices.{cond_inv}

-- ---- read

-- an ECI number and the bit after it, or a fault
abbrev pub Number : Type 0
Number = Result Eci Fault

abbrev pub value : ℕ → ℕ → Number
value n e = Ok (record { assign = n; end = e })

unfoldable pub eci_two : List ℕ → ℕ → Number
eci_two u at =
    cond (leb (at + 16) (length u))
    (cond (ltb (field u at 16 % 16_384) 128) (fault_at at) (value (field u at 16 % 16_384) (at + 16)))
    (fault_at at)

unfoldable pub eci_three : List ℕ → ℕ → Number
eci_three u at =
    cond (leb (at + 24) (length u))
    (cond (ltb (field u at 24 % 2_097_152) 16_384) (fault_at at)
    (cond (ltb (field u at 24 % 2_097_152) 1_000_000) (value (field u at 24 % 2_097_152) (at + 24)) (fault_at at)))
    (fault_at at)

unfoldable pub eci_by : List ℕ → ℕ → ℕ → Number
eci_by u at x =
    cond (ltb x 128) (value x (at + 8))
    (cond (ltb x 192) (eci_two u at)
    (cond (ltb x 224) (eci_three u at) (fault_at at)))

unfoldable pub eci_at : List ℕ → ℕ → Number
eci_at u at = cond (leb (at + 8) (length u)) (eci_by u at (field u at 8)) (fault_at at)

-- the first eight bits of a longer field
first_eight : (u : List ℕ) (at w v : ℕ) (r : List ℕ) → drop at u ≡ bits (8 + w) v ++ r → v / 2 ^ w < 256 → field u at 8 ≡ v / 2 ^ w
first_eight u at w v r e h =
    field_hit u at 8 (v / 2 ^ w) (bits w v ++ r)
    (e ∙ ap (λ (l : List ℕ). l ++ r) (bits_add 8 w v) ∙ append_assoc (bits 8 (v / 2 ^ w)) (bits w v) r) h

-- ---- what is written is read
pub record FoundEci (u : List ℕ) (at n : ℕ) (r : List ℕ) : Type 0 where
  pub end : ℕ
  pub ends : eci_at u at ≡ value n end
  pub rest : drop end u ≡ r
  pub low : at ≤ end
  pub high : end ≤ length u

module _ (u : List ℕ) (at n : ℕ) (r : List ℕ) (a : at ≤ length u) (e : drop at u ≡ eci_bits n ++ r) where
  eci_small : n < 128 → FoundEci u at n r
  unfolding eci_at eci_by
  eci_small h =
      let s : drop at u ≡ bits 8 n ++ r = e ∙ ap (λ (l : List ℕ). l ++ r) (small_bits n h) in
      let room : at + 8 ≤ length u = field_room u at 8 n r s a in
      let is : field u at 8 ≡ n = field_hit u at 8 n r s (omega arith) in
      record {
        end = at + 8;
        ends = cond_true _ (eci_by u at (field u at 8)) (fault_at at) (le-leb (at + 8) (length u) room)
            ∙ ap (eci_by u at) is
            ∙ cond_true _ (value n (at + 8)) (cond (ltb n 192) (eci_two u at) (cond (ltb n 224) (eci_three u at) (fault_at at))) (lt-ltb n 128 h);
        rest = field_rest u at 8 n r s;
        low = omega arith;
        high = room;
      }

  eci_middle : 128 ≤ n → n < 16_384 → FoundEci u at n r
  unfolding eci_at eci_by eci_two
  eci_middle l h =
      let s : drop at u ≡ bits 16 (32_768 + n) ++ r = e ∙ ap (λ (l : List ℕ). l ++ r) (middle_bits n l h) in
      let room : at + 16 ≤ length u = field_room u at 16 (32_768 + n) r s a in
      let room8 : at + 8 ≤ length u = omega arith in
      let first : field u at 8 ≡ (32_768 + n) / 2 ^ 8 = first_eight u at 8 (32_768 + n) r s (omega arith) in
      let is : field u at 16 ≡ 32_768 + n = field_hit u at 16 (32_768 + n) r s (omega arith) in
      let val : field u at 16 % 16_384 ≡ n = omega arith in
      let low128 : 128 ≤ field u at 8 = omega arith in
      let high192 : field u at 8 < 192 = omega arith in
      record {
        end = at + 16;
        ends = cond_true _ (eci_by u at (field u at 8)) (fault_at at) (le-leb (at + 8) (length u) room8)
            ∙ cond_false _ (value (field u at 8) (at + 8)) (cond (ltb (field u at 8) 192) (eci_two u at) (cond (ltb (field u at 8) 224) (eci_three u at) (fault_at at))) (le-ltb (field u at 8) 128 low128)
            ∙ cond_true _ (eci_two u at) (cond (ltb (field u at 8) 224) (eci_three u at) (fault_at at)) (lt-ltb (field u at 8) 192 high192)
            ∙ cond_true _ (cond (ltb (field u at 16 % 16_384) 128) (fault_at at) (value (field u at 16 % 16_384) (at + 16))) (fault_at at) (le-leb (at + 16) (length u) room)
            ∙ cond_false _ (fault_at at) (value (field u at 16 % 16_384) (at + 16)) (le-ltb (field u at 16 % 16_384) 128 (omega arith))
            ∙ ap (λ (k : ℕ). value k (at + 16)) val;
        rest = field_rest u at 16 (32_768 + n) r s;
        low = omega arith;
        high = room;
      }

  eci_large : 16_384 ≤ n → n < 1_000_000 → FoundEci u at n r
  unfolding eci_at eci_by eci_three
  eci_large l h =
      let s : drop at u ≡ bits 24 (12_582_912 + n) ++ r = e ∙ ap (λ (l : List ℕ). l ++ r) (large_bits n l h) in
      let room : at + 24 ≤ length u = field_room u at 24 (12_582_912 + n) r s a in
      let room8 : at + 8 ≤ length u = omega arith in
      let first : field u at 8 ≡ (12_582_912 + n) / 2 ^ 16 = first_eight u at 16 (12_582_912 + n) r s (omega arith) in
      let is : field u at 24 ≡ 12_582_912 + n = field_hit u at 24 (12_582_912 + n) r s (omega arith) in
      let val : field u at 24 % 2_097_152 ≡ n = omega arith in
      let low192 : 192 ≤ field u at 8 = omega arith in
      let high224 : field u at 8 < 224 = omega arith in
      record {
        end = at + 24;
        ends = cond_true _ (eci_by u at (field u at 8)) (fault_at at) (le-leb (at + 8) (length u) room8)
            ∙ cond_false _ (value (field u at 8) (at + 8)) (cond (ltb (field u at 8) 192) (eci_two u at) (cond (ltb (field u at 8) 224) (eci_three u at) (fault_at at))) (le-ltb (field u at 8) 128 (omega arith))
            ∙ cond_false _ (eci_two u at) (cond (ltb (field u at 8) 224) (eci_three u at) (fault_at at)) (le-ltb (field u at 8) 192 low192)
            ∙ cond_true _ (eci_three u at) (fault_at at) (lt-ltb (field u at 8) 224 high224)
            ∙ cond_true _ (cond (ltb (field u at 24 % 2_097_152) 16_384) (fault_at at) (cond (ltb (field u at 24 % 2_097_152) 1_000_000) (value (field u at 24 % 2_097_152) (at + 24)) (fault_at at))) (fault_at at) (le-leb (at + 24) (length u) room)
            ∙ cond_false _ (fault_at at) (cond (ltb (field u at 24 % 2_097_152) 1_000_000) (value (field u at 24 % 2_097_152) (at + 24)) (fault_at at)) (le-ltb (field u at 24 % 2_097_152) 16_384 (omega arith))
            ∙ cond_true _ (value (field u at 24 % 2_097_152) (at + 24)) (fault_at at) (lt-ltb (field u at 24 % 2_097_152) 1_000_000 (omega arith))
            ∙ ap (λ (k : ℕ). value k (at + 24)) val;
        rest = field_rest u at 24 (12_582_912 + n) r s;
        low = omega arith;
        high = room;
      }

  pub eci_complete : n < 1_000_000 → FoundEci u at n r
  eci_complete h = size_case (ltb n 128) refl
    where
      large_case : (t : Bool) → ltb n 16_384 ≡ t → 128 ≤ n → FoundEci u at n r
      large_case true q l = eci_middle l (ltb-true n 16_384 q)
      large_case false q l = eci_large (ltb-false n 16_384 q) h

      size_case : (t : Bool) → ltb n 128 ≡ t → FoundEci u at n r
      size_case true q = eci_small (ltb-true n 128 q)
      size_case false q = large_case (ltb n 16_384) refl (ltb-false n 128 q)

-- ---- what is read was written
pub record WroteEci (u : List ℕ) (at n end : ℕ) : Type 0 where
  pub small : n < 1_000_000
  pub bits : drop at u ≡ eci_bits n ++ drop end u
  pub low : at ≤ end
  pub high : end ≤ length u

same_eci : (x y : Eci) → ◌≡◌ {A = Number} (Ok x) (Ok y) → x ≡ y
same_eci x y e = cc

same_number : (a b m n : ℕ) → ◌≡◌ {A = Number} (value a m) (value b n) → a ≡ b
same_number a b m n e = ap (λ (x : Eci). x.assign) (same_eci (record { assign = a; end = m }) (record { assign = b; end = n }) e)

same_next : (a b m n : ℕ) → ◌≡◌ {A = Number} (value a m) (value b n) → m ≡ n
same_next a b m n e = ap (λ (x : Eci). x.end) (same_eci (record { assign = a; end = m }) (record { assign = b; end = n }) e)

no_value : {A : Type 0} (a b n : ℕ) → ◌≡◌ {A = Number} (fault_at a) (value b n) → A
no_value a b n e = let z : ◌≡◌ {A = ℕ} 0 1 = cc in absurd (omega arith)

module _ (u : List ℕ) (at n end : ℕ) (b : Binary u) where
  sound_small : at + 8 ≤ length u → field u at 8 < 128 → ◌≡◌ {A = Number} (value (field u at 8) (at + 8)) (value n end) → WroteEci u at n end
  sound_small room h e =
      let p : field u at 8 ≡ n = same_number (field u at 8) n (at + 8) end e in
      let q : at + 8 ≡ end = same_next (field u at 8) n (at + 8) end e in
      record {
        small = omega arith;
        bits = field_split u at 8 b room
            ∙ ap₂ (λ (k j : ℕ). bits 8 k ++ drop j u) p q
            ∙ ap (λ (l : List ℕ). l ++ drop end u) (sym (small_bits n (omega arith)));
        low = omega arith;
        high = omega arith;
      }

  sound_middle : at + 16 ≤ length u → 128 ≤ field u at 8 → field u at 8 < 192 → 128 ≤ field u at 16 % 16_384
      → ◌≡◌ {A = Number} (value (field u at 16 % 16_384) (at + 16)) (value n end) → WroteEci u at n end
  sound_middle room l h s e =
      let p : field u at 16 % 16_384 ≡ n = same_number (field u at 16 % 16_384) n (at + 16) end e in
      let q : at + 16 ≡ end = same_next (field u at 16 % 16_384) n (at + 16) end e in
      let split : drop at u ≡ bits 16 (field u at 16) ++ drop (at + 16) u = field_split u at 16 b room in
      let top : field u at 16 < 65_536 = field_lt u at 16 b room in
      let first : field u at 8 ≡ field u at 16 / 2 ^ 8 = first_eight u at 8 (field u at 16) (drop (at + 16) u) split (omega arith) in
      let is : field u at 16 ≡ 32_768 + n = omega arith in
      let hn : n < 16_384 = omega arith in
      record {
        small = omega arith;
        bits = split
            ∙ ap₂ (λ (k j : ℕ). bits 16 k ++ drop j u) is q
            ∙ ap (λ (l : List ℕ). l ++ drop end u) (sym (middle_bits n (omega arith) hn));
        low = omega arith;
        high = omega arith;
      }

  sound_large : at + 24 ≤ length u → 192 ≤ field u at 8 → field u at 8 < 224 → 16_384 ≤ field u at 24 % 2_097_152 → field u at 24 % 2_097_152 < 1_000_000
      → ◌≡◌ {A = Number} (value (field u at 24 % 2_097_152) (at + 24)) (value n end) → WroteEci u at n end
  sound_large room l t s h e =
      let split : drop at u ≡ bits 24 (field u at 24) ++ drop (at + 24) u = field_split u at 24 b room in
      let top : field u at 24 < 16_777_216 = field_lt u at 24 b room in
      let first : field u at 8 ≡ field u at 24 / 2 ^ 16 = first_eight u at 16 (field u at 24) (drop (at + 24) u) split (omega arith) in
      let p : field u at 24 % 2_097_152 ≡ n = same_number (field u at 24 % 2_097_152) n (at + 24) end e in
      let q : at + 24 ≡ end = same_next (field u at 24 % 2_097_152) n (at + 24) end e in
      let is : field u at 24 ≡ 12_582_912 + n = omega arith in
      record {
        small = omega arith;
        bits = field_split u at 24 b room
            ∙ ap₂ (λ (k j : ℕ). bits 24 k ++ drop j u) is q
            ∙ ap (λ (l : List ℕ). l ++ drop end u) (sym (large_bits n (omega arith) (omega arith)));
        low = omega arith;
        high = omega arith;
      }

  pub eci_sound : eci_at u at ≡ value n end → WroteEci u at n end
  unfolding eci_at eci_by eci_two eci_three
  eci_sound e =
      let x : ℕ = field u at 8 in
      let y : ℕ = field u at 16 % 16_384 in
      let z : ℕ = field u at 24 % 2_097_152 in
      cond_inv (leb (at + 8) (length u)) (eci_by u at x) (fault_at at) (value n end) e
      (λ room e.
      cond_inv (ltb x 128) (value x (at + 8)) (cond (ltb x 192) (eci_two u at) (cond (ltb x 224) (eci_three u at) (fault_at at))) (value n end) e
      (λ h e. sound_small (leb-true (at + 8) (length u) room) (ltb-true x 128 h) e)
      (λ l e.
      cond_inv (ltb x 192) (eci_two u at) (cond (ltb x 224) (eci_three u at) (fault_at at)) (value n end) e
      (λ h e.
      cond_inv (leb (at + 16) (length u)) (cond (ltb y 128) (fault_at at) (value y (at + 16))) (fault_at at) (value n end) e
      (λ room e.
      cond_inv (ltb y 128) (fault_at at) (value y (at + 16)) (value n end) e
      (λ _ e. no_value at n end e)
      (λ s e. sound_middle (leb-true (at + 16) (length u) room) (ltb-false x 128 l) (ltb-true x 192 h) (ltb-false y 128 s) e))
      (λ _ e. no_value at n end e))
      (λ l e.
      cond_inv (ltb x 224) (eci_three u at) (fault_at at) (value n end) e
      (λ h e.
      cond_inv (leb (at + 24) (length u)) (cond (ltb z 16_384) (fault_at at) (cond (ltb z 1_000_000) (value z (at + 24)) (fault_at at))) (fault_at at) (value n end) e
      (λ room e.
      cond_inv (ltb z 16_384) (fault_at at) (cond (ltb z 1_000_000) (value z (at + 24)) (fault_at at)) (value n end) e
      (λ _ e. no_value at n end e)
      (λ s e.
      cond_inv (ltb z 1_000_000) (value z (at + 24)) (fault_at at) (value n end) e
      (λ t e. sound_large (leb-true (at + 24) (length u) room) (ltb-false x 192 l) (ltb-true x 224 h) (ltb-false z 16_384 s) (ltb-true z 1_000_000 t) e)
      (λ _ e. no_value at n end e)))
      (λ _ e. no_value at n end e))
      (λ _ e. no_value at n end e))))
      (λ _ e. no_value at n end e)
