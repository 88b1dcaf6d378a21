-- What follows the segments: terminator, fill and pad bytes. What is written is read, and what is read was written.
-- Assumes nothing.
use Rattle.std.specs.Prelude.{ℕ, zero, suc, ◌+◌, ◌-◌, ◌*◌, ◌/◌, ◌%◌, ◌≤◌, ◌<◌, Bool, true, false, cond, ◌≡◌, refl, List, [], ◌++◌, eqb, length, drop, Ok}
use Rattle.std.proofs.Common.{ap, ap₂, ◌∙◌, arith, pow_pos, lit<, eq-eqb, eqb-true}
use Rattle.std.proofs.Math.Seq.{drop-length}
use Rattle.standard.specs.Bits.{bits}
use Rattle.standard.specs.Codewords.{pad_byte}
use Rattle.laws.specs.Tests.{cond_true}
use Rattle.bits.specs.Fields.{field, Binary, field_hit, field_rest, field_room, field_split}
use Rattle.segments.specs.Ends.{end_width, fill_width, fill_up, fill_inside}
use Rattle.parser.specs.Runs.{no_end}
use Rattle.parser.specs.Faults.{Ends, fault_at}
use Rattle.parser.specs.Choices.{cond_inv}

unfoldable pub pad_bits : ℕ → ℕ → List ℕ
pad_bits zero i = []
pad_bits (suc f) i = bits 8 (pad_byte i) ++ pad_bits f (suc i)

-- from the bit e after the terminator
unfoldable pub fill_bits : ℕ → ℕ → List ℕ
fill_bits total e = bits (fill_width e) 0 ++ pad_bits ((total - (e + fill_width e)) / 8) 0

unfoldable pub tail_bits : ℕ → ℕ → List ℕ
tail_bits total at = bits (end_width total at) 0 ++ fill_bits total (at + end_width total at)

-- ---- read
unfoldable pub pads_at : List ℕ → ℕ → ℕ → ℕ → Ends
pads_at u zero p i = Ok p
pads_at u (suc f) p i = elim (eqb (field u p 8) (pad_byte i)) [ true ↦ pads_at u f (p + 8) (suc i) | false ↦ fault_at p ]

unfoldable pub fill_at : List ℕ → ℕ → Ends
fill_at u e =
    cond (eqb (field u e (fill_width e)) 0) (pads_at u ((length u - (e + fill_width e)) / 8) (e + fill_width e) 0) (fault_at e)

unfoldable pub tail_at : List ℕ → ℕ → Ends
tail_at u at = cond (eqb (field u at (end_width (length u) at)) 0) (fill_at u (at + end_width (length u) at)) (fault_at at)

-- ---- what is written is read
pub pad_lt : (i : ℕ) → pad_byte i < 256
unfolding pad_byte
pad_lt i = go (eqb (i % 2) 0)
  where
    go : (t : Bool) → cond t 0xEC 0x11 < 256
    go true = lit< tt
    go false = lit< tt

pub pads_hit : (u : List ℕ) (f p i : ℕ) → eqb (field u p 8) (pad_byte i) ≡ true → pads_at u (suc f) p i ≡ pads_at u f (p + 8) (suc i)
unfolding pads_at
pads_hit u f p i e = ap (λ (t : Bool). elim t as (λ _. Ends) [ true ↦ pads_at u f (p + 8) (suc i) | false ↦ fault_at p ]) e

pub pads_miss : (u : List ℕ) (f p i : ℕ) → eqb (field u p 8) (pad_byte i) ≡ false → pads_at u (suc f) p i ≡ fault_at p
unfolding pads_at
pads_miss u f p i e = ap (λ (t : Bool). elim t as (λ _. Ends) [ true ↦ pads_at u f (p + 8) (suc i) | false ↦ fault_at p ]) e

pads_complete : (u : List ℕ) (f p i : ℕ) → p ≤ length u → drop p u ≡ pad_bits f i → (end : ℕ) × (pads_at u f p i ≡ Ok end)
unfolding pads_at pad_bits
pads_complete u zero p i a e = (p, refl)
pads_complete u (suc f) p i a e =
    let hit : field u p 8 ≡ pad_byte i = field_hit u p 8 (pad_byte i) (pad_bits f (suc i)) e (pad_lt i) in
    let next : (end : ℕ) × (pads_at u f (p + 8) (suc i) ≡ Ok end)
    = pads_complete u f (p + 8) (suc i) (field_room u p 8 (pad_byte i) (pad_bits f (suc i)) e a) (field_rest u p 8 (pad_byte i) (pad_bits f (suc i)) e) in
    (next.0, pads_hit u f p i (eq-eqb (field u p 8) (pad_byte i) hit) ∙ next.1)

pub tail_complete : (u : List ℕ) (at : ℕ) → at ≤ length u → drop at u ≡ tail_bits (length u) at → (end : ℕ) × (tail_at u at ≡ Ok end)
unfolding tail_at fill_at tail_bits fill_bits
tail_complete u at a e =
    let t : ℕ = end_width (length u) at in
    let x : ℕ = at + t in
    let g : ℕ = fill_width x in
    let f : ℕ = (length u - (x + g)) / 8 in
    let zero_t : field u at t ≡ 0 = field_hit u at t 0 (bits g 0 ++ pad_bits f 0) e (pow_pos t) in
    let room_t : x ≤ length u = field_room u at t 0 (bits g 0 ++ pad_bits f 0) e a in
    let rest_t : drop x u ≡ bits g 0 ++ pad_bits f 0 = field_rest u at t 0 (bits g 0 ++ pad_bits f 0) e in
    let zero_g : field u x g ≡ 0 = field_hit u x g 0 (pad_bits f 0) rest_t (pow_pos g) in
    let pads : (end : ℕ) × (pads_at u f (x + g) 0 ≡ Ok end)
    = pads_complete u f (x + g) 0 (field_room u x g 0 (pad_bits f 0) rest_t room_t) (field_rest u x g 0 (pad_bits f 0) rest_t) in (
      pads.0,
      cond_true _ (fill_at u x) (fault_at at) (eq-eqb (field u at t) 0 zero_t)
          ∙ cond_true _ (pads_at u f (x + g) 0) (fault_at x) (eq-eqb (field u x g) 0 zero_g)
          ∙ pads.1,
    )

-- ---- what is read was written
pads_sound : (u : List ℕ) (f p i end : ℕ) → Binary u → p + 8 * f ≡ length u → pads_at u f p i ≡ Ok end → drop p u ≡ pad_bits f i
unfolding pads_at pad_bits
pads_sound u zero p i end b l e =
    let q : p ≡ length u = omega arith in
    ap (λ (k : ℕ). drop k u) q ∙ drop-length u
pads_sound u (suc f) p i end b l e = go (eqb (field u p 8) (pad_byte i)) refl (pads_sound u f (p + 8) (suc i) end b (omega arith)) e
  where
    go : (t : Bool) → eqb (field u p 8) (pad_byte i) ≡ t → (pads_at u f (p + 8) (suc i) ≡ Ok end → drop (p + 8) u ≡ pad_bits f (suc i))
        → ◌≡◌ {A = Ends} (elim t [ true ↦ pads_at u f (p + 8) (suc i) | false ↦ fault_at p ]) (Ok end) → drop p u ≡ bits 8 (pad_byte i) ++ pad_bits f (suc i)
    go true q ih e =
        field_split u p 8 b (omega arith)
        ∙ ap₂ (λ (x : ℕ) (l : List ℕ). bits 8 x ++ l) (eqb-true (field u p 8) (pad_byte i) q) (ih e)
    go false q ih e = no_end p end e

-- pads fill the rest
pads_fill : (p q total : ℕ) → p % 8 ≡ 0 → total ≡ 8 * q → p ≤ total → p + 8 * ((total - p) / 8) ≡ total
pads_fill p q total hp ht h = omega arith

fill_room : (e q total : ℕ) → total ≡ 8 * q → e ≤ total → e + fill_width e ≤ total
fill_room e q total ht h = omega (arith, fill_inside e q (omega arith))

pub tail_sound : (u : List ℕ) (q at end : ℕ) → Binary u → length u ≡ 8 * q → at ≤ length u → tail_at u at ≡ Ok end → drop at u ≡ tail_bits (length u) at
unfolding tail_at fill_at tail_bits fill_bits
tail_sound u q at end b l a e =
    let t : ℕ = end_width (length u) at in
    let x : ℕ = at + t in
    let g : ℕ = fill_width x in
    let f : ℕ = (length u - (x + g)) / 8 in
    let room_t : x ≤ length u = omega arith in
    let room_g : x + g ≤ length u = fill_room x q (length u) l room_t in
    cond_inv (eqb (field u at t) 0) (fill_at u x) (fault_at at) (Ok end) e
    (λ h e.
    cond_inv (eqb (field u x g) 0) (pads_at u f (x + g) 0) (fault_at x) (Ok end) e
    (λ k e.
    field_split u at t b room_t
    ∙ ap₂ (λ (i : ℕ) (r : List ℕ). bits t i ++ r) (eqb-true (field u at t) 0 h)
    (field_split u x g b room_g
    ∙ ap₂ (λ (i : ℕ) (r : List ℕ). bits g i ++ r) (eqb-true (field u x g) 0 k)
    (pads_sound u f (x + g) 0 end b (pads_fill (x + g) q (length u) (fill_up x) l room_g) e)))
    (λ _ e. no_end x end e))
    (λ _ e. no_end at end e)
