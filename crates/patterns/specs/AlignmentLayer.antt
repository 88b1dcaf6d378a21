-- The alignment patterns, drawn centre by centre, are the layer of the definition.
-- Assumes nothing.
use Rattle.std.specs.Prelude.{ℕ, ◌+◌, ◌≤◌, ◌<◌, max, Bool, not, ◌&&◌, ◌||◌, ◌≡◌, List, ltb, get_or}
use Rattle.std.proofs.Math.Bool.{true, false, cond, and-false}
use Rattle.std.proofs.Math.Path.{refl}
use Rattle.std.proofs.Common.{sym, ◌∙◌, le_antisymm, arith}
use Rattle.std.proofs.Math.Dec.{eqb}
use borrow.Author.Tests.{lt-ltb, le-ltb, eqb-true}
use Rattle.standard.specs.Numbers.{apart, one}
use Rattle.standard.specs.Sizes.{side, centres}
use Rattle.standard.specs.Patterns.{ring, nearest, alignment, on_corner, on_alignment, alignment_colour}
use Rattle.laws.specs.Grid.{Pattern, Square, on, paint, paint_ext, paint_none, scan, scan_start, scan_end}
use Rattle.laws.specs.Tests.{leb_max, split}
use Rattle.patterns.specs.Layers.{layer, alignments}
use Rattle.patterns.specs.Shapes.{alignment_square}
use Rattle.patterns.specs.Centres.{Positions, two, count, position, centres_length, which_of, centre, corner, near_which, at_centre, distance, at_left, at_right}

corners_agree : (a b c d : Bool) → (a && (b || c)) || (d && b) ≡ cond a (cond b true c) (cond d b false)
corners_agree true true c d = refl
corners_agree true false true d = refl
corners_agree true false false true = refl
corners_agree true false false false = refl
corners_agree false b c true = refl
corners_agree false b c false = refl

-- what turn (i, j) of the two loops draws
abbrev pub alignment_turn : ℕ → ℕ → ℕ → Pattern
alignment_turn v i j = on (λ x y. eqb (which_of v x) i) (on (λ x y. eqb (which_of v y) j) (alignments v))

module _ (v i j : ℕ) (low : 2 ≤ v) (high : v ≤ 40) (hi : i < centres v) (hj : j < centres v) where
  module _ (x y : ℕ) (hx : x < side v) (hy : y < side v) where
    on_corner_lem : which_of v x ≡ i → which_of v y ≡ j → on_corner (side v) x y ≡ corner (centres v) i j
    unfolding on_corner corner
    on_corner_lem ex ey =
        rw (
          at_left v low high x hx i ex hi,
          at_left v low high y hy j ey hj,
          at_right v low high x hx i ex hi,
          at_right v low high y hy j ey hj,
        )
        (corners_agree (eqb i 0) (eqb j 0) (eqb (j + 1) (centres v)) (eqb (i + 1) (centres v)))

    on_alignment_lem : which_of v x ≡ i → which_of v y ≡ j → on_alignment v x y ≡ not (corner (centres v) i j)
    unfolding on_alignment
    on_alignment_lem ex ey =
        rw (
          near_which v low high x hx,
          near_which v low high y hy,
          ex,
          ey,
          lt-ltb i (centres v) hi,
          lt-ltb j (centres v) hj,
          on_corner_lem ex ey,
        )

    drawn : (w : ℕ) → corner (centres v) i j ≡ false → alignment_square (centre v i) (centre v j) x y w ≡ alignment_turn v i j x y w
    unfolding alignment_square layer alignment_colour
    drawn w e =
        rw (leb_max (apart x (centre v i)) (apart y (centre v j)) 2, at_centre v low high x hx i hi, at_centre v low high y hy j hj)
        (go (eqb (which_of v x) i) refl (eqb (which_of v y) j) refl)
      where
        go : (p : Bool) → eqb (which_of v x) i ≡ p → (q : Bool) → eqb (which_of v y) j ≡ q
            → cond (p && q) (2 + one (not (eqb (ring x y (centre v i) (centre v j)) 1))) w
            ≡ cond p (cond q (cond (on_alignment v x y) (2 + one (not (eqb (max (nearest (alignment v) x) (nearest (alignment v) y)) 1))) w) w) w
        go true ep true eq =
            let ex = eqb-true _ _ ep in
            let ey = eqb-true _ _ eq in
            rw (on_alignment_lem ex ey, e, distance v low high x hx i ex hi, distance v low high y hy j ey hj)
        go true ep false eq = refl
        go false ep q eq = refl

    skipped : (w : ℕ) → corner (centres v) i j ≡ true → alignment_turn v i j x y w ≡ w
    unfolding layer
    skipped w e = go (eqb (which_of v x) i) refl (eqb (which_of v y) j) refl
      where
        go : (p : Bool) → eqb (which_of v x) i ≡ p → (q : Bool) → eqb (which_of v y) j ≡ q
            → cond p (cond q (cond (on_alignment v x y) (2 + alignment_colour v x y) w) w) w ≡ w
        go true ep true eq = rw (on_alignment_lem (eqb-true _ _ ep) (eqb-true _ _ eq), e)
        go true ep false eq = refl
        go false ep q eq = refl

  pub turn_drawn : (g h : List ℕ) → h ≡ paint (side v) (alignment_square (centre v i) (centre v j)) g → Square g (side v) → corner (centres v) i j ≡ false
      → h ≡ paint (side v) (alignment_turn v i j) g
  turn_drawn g h f sq e = f ∙ paint_ext (side v) g sq.size _ _ (λ x y w hx hy. drawn x y hx hy w e)

  pub turn_skipped : (g : List ℕ) → Square g (side v) → corner (centres v) i j ≡ true → g ≡ paint (side v) (alignment_turn v i j) g
  turn_skipped g sq e = paint_none (side v) g sq.size _ (λ x y hx hy. skipped x y hx hy _ e)

-- a cell that is near no centre stays
module _ (v : ℕ) (low : 2 ≤ v) (high : v ≤ 40) (x y w : ℕ) (hx : x < side v) (hy : y < side v) where
  off_x : centres v ≤ which_of v x → alignments v x y w ≡ w
  unfolding layer on_alignment
  off_x h = rw (near_which v low high x hx, le-ltb (which_of v x) (centres v) h)

  off_y : centres v ≤ which_of v y → alignments v x y w ≡ w
  unfolding layer on_alignment
  off_y h = rw (near_which v low high y hy, le-ltb (which_of v y) (centres v) h, and-false)

-- what the loop over j, and the loop over i, has drawn before its turn n
pub alignment_row : ℕ → ℕ → ℕ → Pattern
alignment_row v i n = on (λ x y. eqb (which_of v x) i) (on (λ x y. ltb (which_of v y) n) (alignments v))

pub alignment_rows : ℕ → ℕ → Pattern
alignment_rows v n = on (λ x y. ltb (which_of v x) n) (alignments v)

module _ (v : ℕ) (g : List ℕ) where
  pub row_start : (i : ℕ) → Square g (side v) → g ≡ paint (side v) (alignment_row v i 0) g
  unfolding alignment_row
  row_start i sq = scan_start (side v) g sq.size (λ x y. eqb (which_of v x) i) (λ x y. which_of v y) 0 (alignments v) (λ x y w h. absurd (omega arith))

  pub row_next : (i n : ℕ) (h k : List ℕ) → h ≡ paint (side v) (alignment_row v i n) g → k ≡ paint (side v) (alignment_turn v i n) h → k ≡ paint (side v) (alignment_row v i (n + 1)) g
  unfolding alignment_row
  row_next i n h k e f = f ∙ rw e (scan (side v) (λ x y. eqb (which_of v x) i) (λ x y. which_of v y) n (alignments v) g)

  pub rows_start : Square g (side v) → g ≡ paint (side v) (alignment_rows v 0) g
  unfolding alignment_rows
  rows_start sq = scan_start (side v) g sq.size (λ x y. true) (λ x y. which_of v x) 0 (alignments v) (λ x y w h. absurd (omega arith))

  pub rows_next : (i n : ℕ) (h k : List ℕ) → h ≡ paint (side v) (alignment_rows v i) g → Square h (side v) → 2 ≤ v → v ≤ 40
      → k ≡ paint (side v) (alignment_row v i n) h → n ≤ centres v → centres v ≤ n
      → k ≡ paint (side v) (alignment_rows v (i + 1)) g
  unfolding alignment_row alignment_rows
  rows_next i n h k e sq low high f l m =
      let whole : k ≡ paint (side v) (on (λ x y. eqb (which_of v x) i) (alignments v)) h =
      f ∙ rw (le_antisymm l m) (scan_end (side v) h sq.size (λ x y. eqb (which_of v x) i) (λ x y. which_of v y) (centres v) (alignments v) (λ x y w hx hy o. off_y v low high x y w hx hy o)) in
      whole ∙ rw e (scan (side v) (λ x y. true) (λ x y. which_of v x) i (alignments v) g)

  pub rows_end : (n : ℕ) (h : List ℕ) → h ≡ paint (side v) (alignment_rows v n) g → Square g (side v) → 2 ≤ v → v ≤ 40 → n ≤ centres v → centres v ≤ n → h ≡ paint (side v) (alignments v) g
  unfolding alignment_rows
  rows_end n h e sq low high l m =
      e ∙ rw (le_antisymm l m) (scan_end (side v) g sq.size (λ x y. true) (λ x y. which_of v x) (centres v) (alignments v) (λ x y w hx hy o. off_x v low high x y w hx hy o))

-- version 1 has none
pub none_at_1 : (x y w : ℕ) → alignments 1 x y w ≡ w
unfolding layer on_alignment alignment nearest
none_at_1 x y w = refl

-- ---- as the code names sizes, positions and the version

module _ (v n : ℕ) (at : List ℕ) (low : 1 ≤ v) (high : v ≤ 40) (is : Positions v n at) where
  module _ (i j : ℕ) (hi : i < n) (hj : j < n) where
    few : n ≡ centres v
    few = count v n at low high is i hi

    pub turn : (size : ℕ) → size ≡ side v → (b : Bool) → b ≡ corner n i j → b ≡ false → (g h : List ℕ) → h ≡ paint size (alignment_square (get_or at i 0) (get_or at j 0)) g → Square g (side v)
        → h ≡ paint (side v) (alignment_turn v i j) g
    turn size same b e off g h f sq =
        let c : corner (centres v) i j ≡ false = rw (← few) (sym e ∙ off) in
        turn_drawn v i j (two v n at low high is i hi) high (omega (arith, few)) (omega (arith, few)) g h (rw (same, position v n at low high is i hi, position v n at low high is j hj) at f) sq c

    pub no_turn : (b : Bool) → b ≡ corner n i j → b ≡ true → (g : List ℕ) → Square g (side v) → g ≡ paint (side v) (alignment_turn v i j) g
    no_turn b e on g sq =
        let c : corner (centres v) i j ≡ true = rw (← few) (sym e ∙ on) in
        turn_skipped v i j (two v n at low high is i hi) high (omega (arith, few)) (omega (arith, few)) g sq c

  pub next_row : (i j : ℕ) → i < n → (g h k : List ℕ) → h ≡ paint (side v) (alignment_rows v i) g → k ≡ paint (side v) (alignment_row v i j) h → j ≤ n → n ≤ j → Square h (side v)
      → k ≡ paint (side v) (alignment_rows v (i + 1)) g
  next_row i j hi g h k e f l m sq =
      let c = count v n at low high is i hi in
      rows_next v g i j h k e sq (two v n at low high is i hi) high f (omega (arith, c)) (omega (arith, c))

  pub all_rows : (i : ℕ) (g h : List ℕ) → h ≡ paint (side v) (alignment_rows v i) g → i ≤ n → n ≤ i → Square g (side v) → h ≡ paint (side v) (alignments v) g
  unfolding alignment_rows
  all_rows i g h e l m sq = split v 2 one (λ t. rows_end v g i h e sq t high (omega (arith, is.0, centres_length v t high)) (omega (arith, is.0, centres_length v t high)))
    where
      one : v < 2 → h ≡ paint (side v) (alignments v) g
      one t =
          let k : v ≡ 1 = omega arith in
          e ∙ scan_end (side v) g sq.size (λ x y. true) (λ x y. which_of v x) i (alignments v) (λ x y w hx hy o. rw k (none_at_1 x y w))
