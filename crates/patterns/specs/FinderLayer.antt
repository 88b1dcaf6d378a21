-- The timing lines and the three finders are the layers of the definition.
-- Assumes nothing.
use Prim.Native.Nat.{ℕ, ◌+◌, ◌-◌, ◌%◌, ◌≤◌, ◌<◌, min}
use Rattle.std.specs.Prelude.{Bool, not, ◌&&◌, ◌||◌, ◌≡◌, List, leb, ltb}
use Rattle.std.proofs.Math.Bool.{true, false, cond, and-false}
use Rattle.std.proofs.Math.Path.{refl}
use Rattle.std.proofs.Common.{sym, ◌∙◌, le_antisymm}
use Rattle.std.proofs.Math.Nat.{max-le, le-max_left, le-max_right}
use native.Mathlib.Omega.{arith}
use Rattle.std.proofs.Math.Dec.{eqb}
use borrow.Author.Tests.{lt-ltb, le-ltb, le-leb, lt-leb, ne_eqb, ltb-true, ltb-false, leb-true, leb-false, eqb-true, eqb-false}
use Rattle.laws.specs.Grid.{Pattern, Square, then, paint, paint_ext}
use Rattle.standard.specs.Numbers.{apart, one}
use Rattle.standard.specs.Patterns.{ring, on_timing, timing_colour, on_finder, finder_ring, finder_colour}
use Rattle.laws.specs.Marks.{marks_at, twin_hit, twins}
use Rattle.patterns.specs.Shapes.{finder}
use Rattle.patterns.specs.Layers.{layer, timings, finder_layer}

-- the three finders of a grid
abbrev pub finders : ℕ → Pattern
finders s = then (then (finder 3 3) (finder (s - 4) 3)) (finder 3 (s - 4))

apart_near : (x c : ℕ) → x ≤ c + 4 → c ≤ x + 4 → apart x c ≤ 4
apart_near x c p q = omega arith

apart_low : (x c : ℕ) → x + 4 < c → 4 < apart x c
apart_low x c p = omega arith

apart_high : (x c : ℕ) → c + 4 < x → 4 < apart x c
apart_high x c p = omega arith

module _ (cx cy x y : ℕ) where
  near : x ≤ cx + 4 → cx ≤ x + 4 → y ≤ cy + 4 → cy ≤ y + 4 → ring x y cx cy ≤ 4
  near p q r s = max-le (apart_near x cx p q) (apart_near y cy r s)

  far_left : x + 4 < cx → 4 < ring x y cx cy
  far_left p = omega (arith, apart_low x cx p, le-max_left (apart x cx) (apart y cy))

  far_right : cx + 4 < x → 4 < ring x y cx cy
  far_right p = omega (arith, apart_high x cx p, le-max_left (apart x cx) (apart y cy))

  far_up : y + 4 < cy → 4 < ring x y cx cy
  far_up p = omega (arith, apart_low y cy p, le-max_right (apart x cx) (apart y cy))

  far_down : cy + 4 < y → 4 < ring x y cx cy
  far_down p = omega (arith, apart_high y cy p, le-max_right (apart x cx) (apart y cy))

-- three rings, of which at most one is near
module _ (a b c v : ℕ) where
  Three : Bool → Type 0
  Three t =
      cond (leb c 4) (2 + one (not (eqb c 2 || eqb c 4))) (cond (leb b 4) (2 + one (not (eqb b 2 || eqb b 4))) (cond (leb a 4) (2 + one (not (eqb a 2 || eqb a 4))) v))
      ≡ cond t (2 + one (not (eqb (min a (min b c)) 2 || eqb (min a (min b c)) 4))) v

  first : a ≤ 4 → 4 < b → 4 < c → Three true
  unfolding Three
  first p q r =
      let e : min a (min b c) ≡ a = omega arith in
      rw (lt-leb c 4 r, lt-leb b 4 q, le-leb a 4 p, e)

  second : 4 < a → b ≤ 4 → 4 < c → Three true
  unfolding Three
  second p q r =
      let e : min a (min b c) ≡ b = omega arith in
      rw (lt-leb c 4 r, le-leb b 4 q, e)

  third : 4 < a → 4 < b → c ≤ 4 → Three true
  unfolding Three
  third p q r =
      let e : min a (min b c) ≡ c = omega arith in
      rw (le-leb c 4 r, e)

  none : 4 < a → 4 < b → 4 < c → Three false
  unfolding Three
  none p q r = rw (lt-leb c 4 r, lt-leb b 4 q, lt-leb a 4 p)

module _ (s x y v : ℕ) (big : 21 ≤ s) (hx : x < s) (hy : y < s) where
  A : ℕ
  A = ring x y 3 3

  B : ℕ
  B = ring x y (s - 4) 3

  C : ℕ
  C = ring x y 3 (s - 4)

  zones : (p : Bool) → ltb x 8 ≡ p → (q : Bool) → ltb y 8 ≡ q → (t : Bool) → leb (s - 8) x ≡ t → (u : Bool) → leb (s - 8) y ≡ u
      → Three A B C v ((p && (q || u)) || (t && q))
  unfolding A B C
  zones true ep true eq t et u eu =
      let hp = ltb-true x 8 ep in
      let hq = ltb-true y 8 eq in
      first A B C v (near 3 3 x y (omega arith) (omega arith) (omega arith) (omega arith)) (far_left (s - 4) 3 x y (omega arith)) (far_up 3 (s - 4) x y (omega arith))
  zones true ep false eq t et true eu =
      let hp = ltb-true x 8 ep in
      let hq = ltb-false y 8 eq in
      let hu = leb-true (s - 8) y eu in
      third A B C v (far_down 3 3 x y (omega arith)) (far_left (s - 4) 3 x y (omega arith)) (near 3 (s - 4) x y (omega arith) (omega arith) (omega arith) (omega arith))
  zones true ep false eq true et false eu = absurd (omega (arith, ltb-true x 8 ep, leb-true (s - 8) x et))
  zones true ep false eq false et false eu =
      let hp = ltb-true x 8 ep in
      let hq = ltb-false y 8 eq in
      let hu = leb-false (s - 8) y eu in
      none A B C v (far_down 3 3 x y (omega arith)) (far_left (s - 4) 3 x y (omega arith)) (far_up 3 (s - 4) x y (omega arith))
  zones false ep true eq true et u eu =
      let hp = ltb-false x 8 ep in
      let hq = ltb-true y 8 eq in
      let ht = leb-true (s - 8) x et in
      second A B C v (far_right 3 3 x y (omega arith)) (near (s - 4) 3 x y (omega arith) (omega arith) (omega arith) (omega arith)) (far_right 3 (s - 4) x y (omega arith))
  zones false ep true eq false et u eu =
      let hp = ltb-false x 8 ep in
      let ht = leb-false (s - 8) x et in
      none A B C v (far_right 3 3 x y (omega arith)) (far_left (s - 4) 3 x y (omega arith)) (far_right 3 (s - 4) x y (omega arith))
  zones false ep false eq true et u eu =
      let hp = ltb-false x 8 ep in
      let hq = ltb-false y 8 eq in
      none A B C v (far_right 3 3 x y (omega arith)) (far_down (s - 4) 3 x y (omega arith)) (far_right 3 (s - 4) x y (omega arith))
  zones false ep false eq false et u eu =
      let hp = ltb-false x 8 ep in
      let hq = ltb-false y 8 eq in
      none A B C v (far_right 3 3 x y (omega arith)) (far_down (s - 4) 3 x y (omega arith)) (far_right 3 (s - 4) x y (omega arith))

  pub finders_layer : finders s x y v ≡ finder_layer s x y v
  unfolding A B C Three finder layer on_finder finder_ring finder_colour
  finders_layer = zones (ltb x 8) refl (ltb y 8) refl (leb (s - 8) x) refl (leb (s - 8) y) refl

-- ---- timing

-- the turn that hits a cell
time_of : ℕ → ℕ → ℕ → ℕ
time_of s x y = cond (eqb x 6) y (cond (eqb y 6) x s)

-- a module of the timing lines
abbrev pub timing_module : ℕ → ℕ
timing_module i = 2 + (i + 1) % 2

pub timing_module_lem : (i : ℕ) → 2 + one (eqb (i % 2) 0) ≡ timing_module i
timing_module_lem i = go (eqb (i % 2) 0) refl
  where
    go : (b : Bool) → eqb (i % 2) 0 ≡ b → 2 + one b ≡ 2 + (i + 1) % 2
    go true e = omega (arith, eqb-true (i % 2) 0 e)
    go false e = omega (arith, eqb-false (i % 2) 0 e)

module _ (s x y : ℕ) (big : 21 ≤ s) (hx : x < s) (hy : y < s) where
  time_hit : (k : ℕ) → k < s → twin_hit 6 k x y ≡ eqb (time_of s x y) k
  unfolding time_of
  time_hit k h = go (eqb x 6) refl (eqb y 6) refl
    where
      go : (p : Bool) → eqb x 6 ≡ p → (q : Bool) → eqb y 6 ≡ q → (eqb y k && p) || (q && eqb x k) ≡ eqb (cond p y (cond q x s)) k
      go true e false f = and_or (eqb y k)
        where
          and_or : (b : Bool) → (b && true) || false ≡ b
          and_or true = refl
          and_or false = refl
      go true e true f = rw (eqb-true x 6 e, eqb-true y 6 f) (both (eqb 6 k))
        where
          both : (b : Bool) → (b && true) || (true && b) ≡ b
          both true = refl
          both false = refl
      go false e true f = rw (and-false (eqb y k))
      go false e false f = rw (and-false (eqb y k)) (sym (ne_eqb s k (λ z. omega arith)))

  pub timing_layer : (v : ℕ) → twins s (λ _. 6) (λ k. k) timing_module x y v ≡ timings x y v
  unfolding time_of layer on_timing timing_colour
  timing_layer v = marks_at (λ k. twin_hit 6 k) timing_module x y v (time_of s x y) s time_hit s (omega arith) ∙ go (eqb x 6) refl (eqb y 6) refl
    where
      go : (p : Bool) → eqb x 6 ≡ p → (q : Bool) → eqb y 6 ≡ q
          → cond (ltb (cond p y (cond q x s)) s) (timing_module (cond p y (cond q x s))) v ≡ cond (p || q) (2 + (x + y + 1) % 2) v
      go true e q f = let z = eqb-true x 6 e in rw (lt-ltb y s hy) (omega arith)
      go false e true f = let z = eqb-true y 6 f in rw (lt-ltb x s hx) (omega arith)
      go false e false f = rw (le-ltb s s (omega arith))

pub timing_end : (s n : ℕ) (g h : List ℕ) → h ≡ paint s (twins n (λ _. 6) (λ k. k) timing_module) g → Square g s → 21 ≤ s → n ≤ s → s ≤ n → h ≡ paint s timings g
timing_end s n g h e sq big l m =
    e ∙ rw (le_antisymm l m) (paint_ext s g sq.size _ _ (λ x y v hx hy. timing_layer s x y big hx hy v))
