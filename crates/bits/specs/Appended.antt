-- Bits that are appended to a buffer at a place from which on it has zero bits: one field, and several one after the other.
-- Assumes nothing.
use Rattle.std.specs.Prelude.{ℕ, zero, suc, ◌+◌, ◌-◌, ◌*◌, ◌^◌, ◌≤◌, ◌<◌, ◌≡◌, refl, List, [], ◌++◌, length, get_or, take, drop, replicate}
use Rattle.std.proofs.Common.{sym, ap, ap₂, ◌∙◌, subst, append_assoc, append-nil, arith, length-append, length-drop, take-append-drop, length-take-le, take_at, drop_at, drop-drop, get_or-drop}
use Rattle.std.proofs.lemmas.List.{length-replicate, replicate-append-replicate}
use Rattle.standard.specs.Bits.{bits, unpack}
use Rattle.laws.specs.Lists.{length_bits, length_unpack, zeros_at}
use Rattle.bits.specs.Fields.{field, field_hit}

-- there is room for bits at a place, and zero bits stand from there on
pub record Free (buf : List ℕ) (at : ℕ) (bs : List ℕ) : Type 0 where
  pub small : 8 * length buf < 2 ^ 64
  pub room : at + length bs ≤ 8 * length buf
  pub zeros : (k : ℕ) → at ≤ k → get_or (unpack buf) k 0 ≡ 0

-- they stand there, all else is as before, and the place after them
pub record Appended (buf new : List ℕ) (at end : ℕ) (bs : List ℕ) : Type 0 where
  pub wrote : unpack new ≡ take at (unpack buf) ++ bs ++ drop (at + length bs) (unpack buf)
  pub next : end ≡ at + length bs

module _ (buf : List ℕ) (at : ℕ) (a b : List ℕ) (f : Free buf at (a ++ b)) where
  pub free_first : Free buf at a
  free_first = record { small = f.small; room = omega (arith, f.room, length-append a b); zeros = f.zeros }

module _ (buf new : List ℕ) (at end : ℕ) (a : List ℕ) (h : Appended buf new at end a) (room : at + length a ≤ 8 * length buf) where
  front_length : length (take at (unpack buf) ++ a) ≡ end
  front_length =
      length-append (take at (unpack buf)) a
      ∙ omega (arith, length-take-le at (unpack buf) (omega (arith, length_unpack buf)), h.next)

  front_is : take end (unpack new) ≡ take at (unpack buf) ++ a
  front_is = ap (take end) h.wrote ∙ take_at (take at (unpack buf) ++ a) (drop (at + length a) (unpack buf)) end front_length

  back_is : drop end (unpack new) ≡ drop end (unpack buf)
  back_is =
      ap (drop end) h.wrote ∙ drop_at (take at (unpack buf) ++ a) (drop (at + length a) (unpack buf)) end front_length
      ∙ ap (λ (k : ℕ). drop k (unpack buf)) (sym h.next)

  pub appended_length : length new ≡ length buf
  appended_length =
      let l : length (take end (unpack new) ++ drop end (unpack new)) ≡ length (take at (unpack buf) ++ a) + (8 * length buf - end)
      = length-append (take end (unpack new)) (drop end (unpack new))
      ∙ ap₂ ◌+◌ (ap length front_is) (ap length back_is ∙ length-drop end (unpack buf) ∙ ap (λ (k : ℕ). k - end) (length_unpack buf)) in
      let w : length (take end (unpack new) ++ drop end (unpack new)) ≡ 8 * length new = ap length (take-append-drop end (unpack new)) ∙ length_unpack new in
      omega (arith, front_length, h.next)

  -- what may follow
  pub free_then : (b : List ℕ) → Free buf at (a ++ b) → Free new end b
  free_then b f =
      record {
        small = omega (arith, f.small, appended_length);
        room = omega (arith, f.room, length-append a b, h.next, appended_length);
        zeros = zeros;
      }
    where
      zeros : (k : ℕ) → end ≤ k → get_or (unpack new) k 0 ≡ 0
      zeros k l =
          let e : end + (k - end) ≡ k = omega arith in
          ap (λ (i : ℕ). get_or (unpack new) i 0) (sym e)
          ∙ sym (get_or-drop end (unpack new) (k - end) 0)
          ∙ ap (λ (u : List ℕ). get_or u (k - end) 0) back_is
          ∙ get_or-drop end (unpack buf) (k - end) 0
          ∙ ap (λ (i : ℕ). get_or (unpack buf) i 0) e
          ∙ f.zeros k (omega (arith, h.next))

  -- one after the other
  pub append_then : (new₂ : List ℕ) (end₂ : ℕ) (b : List ℕ) → Appended new new₂ end end₂ b → Appended buf new₂ at end₂ (a ++ b)
  append_then new₂ end₂ b g =
      let n : at + length (a ++ b) ≡ end + length b = omega (arith, length-append a b, h.next) in
      record {
        wrote = g.wrote
            ∙ ap₂ (λ (x y : List ℕ). x ++ b ++ y) front_is
            (sym (drop-drop (length b) end (unpack new)) ∙ ap (drop (length b)) back_is ∙ drop-drop (length b) end (unpack buf) ∙ ap (λ (k : ℕ). drop k (unpack buf)) (sym n))
            ∙ ap (λ (x : List ℕ). x ++ drop (at + length (a ++ b)) (unpack buf)) (append_assoc (take at (unpack buf)) a b);
        next = g.next ∙ sym n;
      }

-- two parts of a whole
module _ (buf : List ℕ) (at : ℕ) (all a b : List ℕ) (f : Free buf at all) (e : all ≡ a ++ b) where
  both_free : Free buf at (a ++ b)
  both_free = subst (λ (l : List ℕ). Free buf at l) e f

  pub first_free : Free buf at a
  first_free = free_first buf at a b both_free

  pub second_free : (new : List ℕ) (p : ℕ) → Appended buf new at p a → Free new p b
  second_free new p h = free_then buf new at p a h first_free.room b both_free

  pub both_done : (new new₂ : List ℕ) (p end : ℕ) → Appended buf new at p a → Appended new new₂ p end b → Appended buf new₂ at end all
  both_done new new₂ p end h g = subst (λ (l : List ℕ). Appended buf new₂ at end l) (sym e) (append_then buf new at p a h first_free.room new₂ end b g)

-- nothing
pub append_none : (buf : List ℕ) (at : ℕ) → Appended buf buf at at []
append_none buf at =
    let z : at ≡ at + 0 = omega arith in
    record {
      wrote = sym (take-append-drop at (unpack buf)) ∙ ap₂ (λ (x : List ℕ) (k : ℕ). x ++ drop k (unpack buf)) (sym (append-nil (take at (unpack buf)))) z;
      next = z;
    }

-- a field
pub append_field : (buf new : List ℕ) (at w n : ℕ) → unpack new ≡ take at (unpack buf) ++ bits w n ++ drop (at + w) (unpack buf) → Appended buf new at (at + w) (bits w n)
append_field buf new at w n e =
    let l : at + w ≡ at + length (bits w n) = omega (arith, length_bits w n) in
    record { wrote = e ∙ ap (λ (k : ℕ). take at (unpack buf) ++ bits w n ++ drop k (unpack buf)) l; next = l }

-- reading what was appended gives it back
pub read_appended : (buf new : List ℕ) (at end w n : ℕ) → Appended buf new at end (bits w n) → at + w ≤ 8 * length buf → n < 2 ^ w → field (unpack new) at w ≡ n
read_appended buf new at end w n h room l =
    field_hit (unpack new) at w n (drop (at + length (bits w n)) (unpack buf))
    (ap (drop at) (h.wrote ∙ append_assoc (take at (unpack buf)) (bits w n) (drop (at + length (bits w n)) (unpack buf)))
    ∙ drop_at (take at (unpack buf)) (bits w n ++ drop (at + length (bits w n)) (unpack buf)) at (length-take-le at (unpack buf) (omega (arith, length_unpack buf))))
    l

-- ---- a whole that is appended part by part: so far, and what is left

pub record Progress (buf new : List ℕ) (at p : ℕ) (all left : List ℕ) : Type 0 where
  pub done : List ℕ
  pub wrote : Appended buf new at p done
  pub parts : all ≡ done ++ left

pub progress_start : (buf : List ℕ) (at : ℕ) (all left : List ℕ) → all ≡ left → Progress buf buf at at all left
progress_start buf at all left e = record { done = []; wrote = append_none buf at; parts = e }

module _ (buf new : List ℕ) (at p : ℕ) (all left part rest : List ℕ) (g : Progress buf new at p all left) (e : left ≡ part ++ rest) (f : Free buf at all) where
  so_far : all ≡ g.done ++ (part ++ rest)
  so_far = g.parts ∙ ap (λ (l : List ℕ). g.done ++ l) e

  free_here : Free buf at (g.done ++ (part ++ rest))
  free_here = subst (λ (l : List ℕ). Free buf at l) so_far f

  done_room : at + length g.done ≤ 8 * length buf
  done_room = (free_first buf at g.done (part ++ rest) free_here).room

  pub progress_free : Free new p part
  progress_free = free_first new p part rest (free_then buf new at p g.done g.wrote done_room (part ++ rest) free_here)

  pub progress_next : (new₂ : List ℕ) (p₂ : ℕ) → Appended new new₂ p p₂ part → Progress buf new₂ at p₂ all rest
  progress_next new₂ p₂ h =
      record {
        done = g.done ++ part;
        wrote = append_then buf new at p g.done g.wrote done_room new₂ p₂ part h;
        parts = so_far ∙ sym (append_assoc g.done part rest);
      }

pub progress_end : (buf new : List ℕ) (at p : ℕ) (all left : List ℕ) → Progress buf new at p all left → left ≡ [] → Appended buf new at p all
progress_end buf new at p all left g e =
    subst (λ (l : List ℕ). Appended buf new at p l) (sym (g.parts ∙ ap (λ (l : List ℕ). g.done ++ l) e ∙ append-nil g.done)) g.wrote

-- ---- a zeroed buffer

pub unpack_zeros : (n : ℕ) → unpack (replicate n 0) ≡ replicate (8 * n) 0
unfolding unpack bits
unpack_zeros zero = refl
unpack_zeros (suc n) =
    let e : 8 + 8 * n ≡ 8 * suc n = omega arith in
    ap (λ (l : List ℕ). replicate 8 0 ++ l) (unpack_zeros n) ∙ replicate-append-replicate 8 (8 * n) 0 ∙ ap (λ (k : ℕ). replicate k 0) e

pub free_zeros : (n : ℕ) (bs : List ℕ) → 8 * n < 2 ^ 64 → length bs ≤ 8 * n → Free (replicate n 0) 0 bs
free_zeros n bs s h =
    record {
      small = omega (arith, length-replicate {A = ℕ} n 0);
      room = omega (arith, length-replicate {A = ℕ} n 0);
      zeros = λ k l. ap (λ (u : List ℕ). get_or u k 0) (unpack_zeros n) ∙ zeros_at (8 * n) k;
    }
