-- What joins of a line's dark and light modules show: where cores stand, of a unit of one module or of more.
-- Assumes nothing.
use Rattle.std.specs.Prelude.{◌≡◌, [], ◌∷◌, ℕ, ◌+◌, ◌/◌, ◌^◌}
use Rattle.std.proofs.Common.{sym, ap, ap₂, ◌∙◌}
use Rattle.std.specs.Int.Bits.{bit_and, bit_or}
use Rattle.std.specs.Int.Count.{ones}
use Rattle.packed.specs.Marks.{marks, hits, marked, marks_hits, no_hits, or_none}
use Rattle.packed.specs.Cores.{before, behind, pairs, triples, larger}
use Rattle.packed.specs.Frame.{Framed}
use Rattle.packed.specs.Whole.{zone, dark_zone}

-- r has the places of f behind which, k further, g has one
abbrev pub Joins : ℕ → ℕ → ℕ → ℕ → Type 0
Joins r f g k = r ≡ bit_and f (g / 2 ^ k)

-- x has the dark modules of a framed line, y the light ones
module _ (s x y : ℕ) (f : Framed s x) (ey : y ≡ marks (0 ∷ []) (zone s x)) where
  pub unit_found : {l2 l4 d2 d3 p2 p5 p6 core p8 a p11 b m n : ℕ}
      → Joins l2 y y 1 → Joins l4 l2 l2 2 → Joins d2 x x 1 → Joins d3 d2 x 2 → Joins p2 y x 1 → Joins p5 d3 p2 3 → Joins p6 y p5 1 → Joins core x p6 1
      → Joins p8 core y 7 → Joins a l4 p8 4 → Joins p11 core l4 7 → Joins b y p11 1 → m ≡ ones a → n ≡ ones b
      → m + n ≡ hits before (zone s x) + hits behind (zone s x)
  unit_found jl2 jl4 jd2 jd3 jp2 jp5 jp6 jcore jp8 ja jp11 jb em en =
      let z = zone s x in
      let ex = dark_zone s x f in
      let l2 = marked 0 [] 0 [] z ey ey jl2 in
      let l4 = marked 0 (0 ∷ []) 0 (0 ∷ []) z l2 l2 jl4 in
      let d2 = marked 1 [] 1 [] z ex ex jd2 in
      let d3 = marked 1 (1 ∷ []) 1 [] z d2 ex jd3 in
      let p2 = marked 0 [] 1 [] z ey ex jp2 in
      let p5 = marked 1 (1 ∷ 1 ∷ []) 0 (1 ∷ []) z d3 p2 jp5 in
      let p6 = marked 0 [] 1 (1 ∷ 1 ∷ 0 ∷ 1 ∷ []) z ey p5 jp6 in
      let core = marked 1 [] 0 (1 ∷ 1 ∷ 1 ∷ 0 ∷ 1 ∷ []) z ex p6 jcore in
      let p8 = marked 1 (0 ∷ 1 ∷ 1 ∷ 1 ∷ 0 ∷ 1 ∷ []) 0 [] z core ey jp8 in
      let a = marked 0 (0 ∷ 0 ∷ 0 ∷ []) 1 (0 ∷ 1 ∷ 1 ∷ 1 ∷ 0 ∷ 1 ∷ 0 ∷ []) z l4 p8 ja in
      let p11 = marked 1 (0 ∷ 1 ∷ 1 ∷ 1 ∷ 0 ∷ 1 ∷ []) 0 (0 ∷ 0 ∷ 0 ∷ []) z core l4 jp11 in
      let b = marked 0 [] 1 (0 ∷ 1 ∷ 1 ∷ 1 ∷ 0 ∷ 1 ∷ 0 ∷ 0 ∷ 0 ∷ 0 ∷ []) z ey p11 jb in
      ap₂ (λ (m n : ℕ). m + n) (em ∙ ap ones a ∙ marks_hits before z) (en ∙ ap ones b ∙ marks_hits behind z)

  pub none_found : {l2 l3 l4 d2 d3 d6 d9 d12 p4 p6 p12 p18 t6 t9 t18 t27 q16 : ℕ}
      → Joins l2 y y 1 → Joins l3 l2 y 2 → Joins l4 l2 l2 2 → Joins d2 x x 1 → Joins d3 d2 x 2 → Joins d6 d3 d3 3 → Joins d9 d6 d3 6 → Joins d12 d6 d6 6
      → Joins p4 d2 l2 2 → Joins p6 l2 p4 2 → Joins p12 d6 p6 6 → Joins p18 p6 p12 6 → Joins t6 d3 l3 3 → Joins t9 l3 t6 3 → Joins t18 d9 t9 9
      → Joins t27 t9 t18 9 → Joins q16 l4 d12 4 → bit_or p18 (bit_or t27 q16) ≡ 0
      → (hits pairs (zone s x) ≡ 0) × (hits triples (zone s x) ≡ 0) × (hits larger (zone s x) ≡ 0)
  none_found jl2 jl3 jl4 jd2 jd3 jd6 jd9 jd12 jp4 jp6 jp12 jp18 jt6 jt9 jt18 jt27 jq16 e =
      let z = zone s x in
      let ex = dark_zone s x f in
      let l2 = marked 0 [] 0 [] z ey ey jl2 in
      let l3 = marked 0 (0 ∷ []) 0 [] z l2 ey jl3 in
      let l4 = marked 0 (0 ∷ []) 0 (0 ∷ []) z l2 l2 jl4 in
      let d2 = marked 1 [] 1 [] z ex ex jd2 in
      let d3 = marked 1 (1 ∷ []) 1 [] z d2 ex jd3 in
      let d6 = marked 1 (1 ∷ 1 ∷ []) 1 (1 ∷ 1 ∷ []) z d3 d3 jd6 in
      let d9 = marked 1 (1 ∷ 1 ∷ 1 ∷ 1 ∷ 1 ∷ []) 1 (1 ∷ 1 ∷ []) z d6 d3 jd9 in
      let d12 = marked 1 (1 ∷ 1 ∷ 1 ∷ 1 ∷ 1 ∷ []) 1 (1 ∷ 1 ∷ 1 ∷ 1 ∷ 1 ∷ []) z d6 d6 jd12 in
      let p4 = marked 1 (1 ∷ []) 0 (0 ∷ []) z d2 l2 jp4 in
      let p6 = marked 0 (0 ∷ []) 1 (1 ∷ 0 ∷ 0 ∷ []) z l2 p4 jp6 in
      let p12 = marked 1 (1 ∷ 1 ∷ 1 ∷ 1 ∷ 1 ∷ []) 0 (0 ∷ 1 ∷ 1 ∷ 0 ∷ 0 ∷ []) z d6 p6 jp12 in
      let p18 = marked 0 (0 ∷ 1 ∷ 1 ∷ 0 ∷ 0 ∷ []) 1 (1 ∷ 1 ∷ 1 ∷ 1 ∷ 1 ∷ 0 ∷ 0 ∷ 1 ∷ 1 ∷ 0 ∷ 0 ∷ []) z p6 p12 jp18 in
      let t6 = marked 1 (1 ∷ 1 ∷ []) 0 (0 ∷ 0 ∷ []) z d3 l3 jt6 in
      let t9 = marked 0 (0 ∷ 0 ∷ []) 1 (1 ∷ 1 ∷ 0 ∷ 0 ∷ 0 ∷ []) z l3 t6 jt9 in
      let t18 = marked 1 (1 ∷ 1 ∷ 1 ∷ 1 ∷ 1 ∷ 1 ∷ 1 ∷ 1 ∷ []) 0 (0 ∷ 0 ∷ 1 ∷ 1 ∷ 1 ∷ 0 ∷ 0 ∷ 0 ∷ []) z d9 t9 jt18 in
      let t27 = marked 0 (0 ∷ 0 ∷ 1 ∷ 1 ∷ 1 ∷ 0 ∷ 0 ∷ 0 ∷ []) 1 (1 ∷ 1 ∷ 1 ∷ 1 ∷ 1 ∷ 1 ∷ 1 ∷ 1 ∷ 0 ∷ 0 ∷ 0 ∷ 1 ∷ 1 ∷ 1 ∷ 0 ∷ 0 ∷ 0 ∷ []) z t9 t18 jt27 in
      let q16 = marked 0 (0 ∷ 0 ∷ 0 ∷ []) 1 (1 ∷ 1 ∷ 1 ∷ 1 ∷ 1 ∷ 1 ∷ 1 ∷ 1 ∷ 1 ∷ 1 ∷ 1 ∷ []) z l4 d12 jq16 in
      let m = or_none (marks pairs z) (bit_or (marks triples z) (marks larger z)) (ap₂ bit_or (sym p18) (ap₂ bit_or (sym t27) (sym q16)) ∙ e) in
      let n = or_none (marks triples z) (marks larger z) m.1 in
      (no_hits pairs z m.0, no_hits triples z n.0, no_hits larger z n.1)
