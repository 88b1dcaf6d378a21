-- Laws that the proofs of the tail's functions cite: one for each return and for the turn.
-- Assumes nothing.
use Prim.Native.Nat.{ℕ, suc, ◌+◌, ◌-◌, ◌*◌, ◌/◌, ◌%◌, ◌≤◌, ◌<◌, min}
use Rattle.std.specs.Prelude.{◌≡◌, List, length, Ok}
use Rattle.std.proofs.Math.Path.{sym, ap}
use Rattle.std.proofs.Common.{◌∙◌, arith, mul_comm, add-one}
use borrow.Author.Tests.{eq-eqb, ne_eqb}
use Rattle.standard.specs.Bits.{unpack}
use Rattle.standard.specs.Codewords.{pad_byte}
use Rattle.laws.specs.Lists.{length_unpack}
use Rattle.laws.specs.Tests.{cond_true, cond_false}
use Rattle.bits.specs.Fields.{field}
use Rattle.segments.specs.Ends.{end_width}
use Rattle.parser.specs.Faults.{Ends, fault_at}
use Rattle.parser.specs.Tail.{pads_at, fill_at, tail_at, pads_hit, pads_miss}

length_eight : (buf : List ℕ) → length (unpack buf) ≡ length buf * 8
length_eight buf = length_unpack buf ∙ mul_comm 8 (length buf)

module _ (buf : List ℕ) where
  pub pads_start : (at : ℕ) → pads_at (unpack buf) ((length (unpack buf) - at) / 8) at 0 ≡ pads_at (unpack buf) ((length buf * 8 - at) / 8 - 0) at 0
  pads_start at =
      let z : (length buf * 8 - at) / 8 ≡ (length buf * 8 - at) / 8 - 0 = omega arith in
      ap (λ (k : ℕ). pads_at (unpack buf) ((k - at) / 8) at 0) (length_eight buf) ∙ ap (λ (k : ℕ). pads_at (unpack buf) k at 0) z

  pub pads_room : (at : ℕ) → at ≤ 8 * length buf → at + 8 * ((length buf * 8 - at) / 8 - 0) ≤ length buf * 8
  pads_room at h = omega arith

  -- n pad bytes, of which i have been read
  module _ (A : Ends) (n i p : ℕ) (inv : A ≡ pads_at (unpack buf) (n - i) p i) where
    module _ (x b : ℕ) (ex : x ≡ field (unpack buf) p 8) (eb : b ≡ pad_byte i) (less : i < n) where
      one_more : n - i ≡ suc (n - (i + 1))
      one_more = omega arith

      pub pads_next : x ≡ b → A ≡ pads_at (unpack buf) (n - (i + 1)) (p + 8) (i + 1)
      pads_next same =
          inv ∙ ap (λ (k : ℕ). pads_at (unpack buf) k p i) one_more
          ∙ pads_hit (unpack buf) (n - (i + 1)) p i (eq-eqb (field (unpack buf) p 8) (pad_byte i) (sym ex ∙ same ∙ eb))
          ∙ ap (λ (j : ℕ). pads_at (unpack buf) (n - (i + 1)) (p + 8) j) (sym (add-one i))

      pub pads_wrong : (x ≡ b → ⊥) → fault_at p ≡ A
      pads_wrong other =
          sym (inv ∙ ap (λ (k : ℕ). pads_at (unpack buf) k p i) one_more
          ∙ pads_miss (unpack buf) (n - (i + 1)) p i (ne_eqb (field (unpack buf) p 8) (pad_byte i) (λ e. other (ex ∙ e ∙ sym eb))))

    pub pads_done : n ≤ i → Ok p ≡ A
    unfolding pads_at
    pads_done h = let z : n - i ≡ 0 = omega arith in sym (inv ∙ ap (λ (k : ℕ). pads_at (unpack buf) k p i) z)

  -- ---- fill
  pub fill_wrong : (e x : ℕ) → x ≡ field (unpack buf) e ((8 - e % 8) % 8) → (x ≡ 0 → ⊥) → fault_at e ≡ fill_at (unpack buf) e
  unfolding fill_at
  fill_wrong e x ex h = simp (sym ex, ne_eqb x 0 h)

  pub fill_on : (e x : ℕ) (r : Ends) → r ≡ pads_at (unpack buf) ((length (unpack buf) - (e + (8 - e % 8) % 8)) / 8) (e + (8 - e % 8) % 8) 0
      → x ≡ field (unpack buf) e ((8 - e % 8) % 8) → x ≡ 0 → r ≡ fill_at (unpack buf) e
  unfolding fill_at
  fill_on e x r q ex h = q ∙ sym (cond_true _ (pads_at (unpack buf) ((length (unpack buf) - (e + (8 - e % 8) % 8)) / 8) (e + (8 - e % 8) % 8) 0) (fault_at e) (eq-eqb (field (unpack buf) e ((8 - e % 8) % 8)) 0 (sym ex ∙ h)))

  -- ---- terminator
  term_eq : (at t : ℕ) → t ≡ min 4 (length buf * 8 - at) → t ≡ end_width (length (unpack buf)) at
  term_eq at t e = e ∙ ap (λ (k : ℕ). min 4 (k - at)) (sym (length_eight buf))

  pub tail_wrong : (at t x : ℕ) → t ≡ min 4 (length buf * 8 - at) → x ≡ field (unpack buf) at t → (x ≡ 0 → ⊥) → fault_at at ≡ tail_at (unpack buf) at
  unfolding tail_at
  tail_wrong at t x et ex h =
      sym (cond_false _ (fill_at (unpack buf) (at + end_width (length (unpack buf)) at)) (fault_at at)
      (ne_eqb (field (unpack buf) at (end_width (length (unpack buf)) at)) 0 (λ e. h (ex ∙ ap (field (unpack buf) at) (term_eq at t et) ∙ e))))

  pub tail_on : (at t x : ℕ) (r : Ends) → r ≡ fill_at (unpack buf) (at + t) → t ≡ min 4 (length buf * 8 - at) → x ≡ field (unpack buf) at t → x ≡ 0
      → r ≡ tail_at (unpack buf) at
  unfolding tail_at
  tail_on at t x r q et ex h =
      q ∙ ap (λ (k : ℕ). fill_at (unpack buf) (at + k)) (term_eq at t et)
      ∙ sym (cond_true _ (fill_at (unpack buf) (at + end_width (length (unpack buf)) at)) (fault_at at)
      (eq-eqb (field (unpack buf) at (end_width (length (unpack buf)) at)) 0 (ap (field (unpack buf) at) (sym (term_eq at t et)) ∙ sym ex ∙ h)))
