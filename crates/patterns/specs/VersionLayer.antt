-- The two copies of the version word are the layer of the definition.
-- Assumes nothing.
use Rattle.std.specs.Prelude.{ℕ, ◌+◌, ◌-◌, ◌*◌, ◌/◌, ◌%◌, ◌≤◌, ◌<◌, min, max, Bool, ◌&&◌, ◌||◌, ◌≡◌, List, leb}
use Rattle.std.proofs.Math.Bool.{true, false, cond, or-true}
use Rattle.std.proofs.Common.{true≢false, sym, ◌∙◌, arith, le_antisymm}
use Rattle.std.proofs.Math.Path.{refl}
use Rattle.std.proofs.Math.Dec.{ltb, eqb}
use borrow.Author.Tests.{lt-ltb, le-leb, lt-leb, eq-eqb, ltb-true, leb-true, eqb-true}
use Rattle.laws.specs.Grid.{Square, paint, paint_none, paint_ext}
use Rattle.standard.specs.Numbers.{bit}
use Rattle.standard.specs.Sizes.{side}
use Rattle.standard.specs.Format.{in_version, on_version, version_colour, version_word}
use Rattle.patterns.specs.Layers.{layer, versions}
use Rattle.patterns.specs.FormatPlaces.{word_bit}
use Rattle.laws.specs.Marks.{marks_at, twin_hit, twins}
use Rattle.laws.specs.Tests.{same_test, and_both, and_first, and_second, or_first, or_second}

-- where bit k of the first copy stands
abbrev pub version_x : ℕ → ℕ → ℕ
version_x s k = s - 11 + k % 3

abbrev pub version_y : ℕ → ℕ
version_y k = k / 3

module _ (s a b : ℕ) where
  inside : b < 6 → s - 11 ≤ a → a < s - 8 → in_version s a b ≡ true
  unfolding in_version
  inside p q r = rw (lt-ltb b 6 p, le-leb (s - 11) a q, lt-ltb a (s - 8) r)

  inside_low : in_version s a b ≡ true → b < 6
  unfolding in_version
  inside_low e = ltb-true b 6 (and_first (ltb b 6) (leb (s - 11) a && ltb a (s - 8)) e)

  inside_from : in_version s a b ≡ true → s - 11 ≤ a
  unfolding in_version
  inside_from e = leb-true (s - 11) a (and_first (leb (s - 11) a) (ltb a (s - 8)) (and_second (ltb b 6) (leb (s - 11) a && ltb a (s - 8)) e))

  inside_below : in_version s a b ≡ true → a < s - 8
  unfolding in_version
  inside_below e = ltb-true a (s - 8) (and_second (leb (s - 11) a) (ltb a (s - 8)) (and_second (ltb b 6) (leb (s - 11) a && ltb a (s - 8)) e))

-- which bit stands there: 0 to 17, and 18 where none does
number : ℕ → ℕ → ℕ → ℕ
number s x y = 3 * min x y + (max x y + 11 - s)

version_of : ℕ → ℕ → ℕ → ℕ
version_of s x y = cond (in_version s x y || in_version s y x) (number s x y) 18

number_first : (s x y : ℕ) → 45 ≤ s → y < 6 → s - 11 ≤ x → number s x y ≡ 3 * y + (x + 11 - s)
unfolding number
number_first s x y big p q =
    let a : min x y ≡ y = omega arith in
    let b : max x y ≡ x = omega arith in
    rw (a, b)

number_second : (s x y : ℕ) → 45 ≤ s → x < 6 → s - 11 ≤ y → number s x y ≡ 3 * x + (y + 11 - s)
unfolding number
number_second s x y big p q =
    let a : min x y ≡ x = omega arith in
    let b : max x y ≡ y = omega arith in
    rw (a, b)

module _ (s x y : ℕ) (big : 45 ≤ s) where
  place_hit : (k : ℕ) → k < 18 → twin_hit (version_x s k) (version_y k) x y ≡ true → version_of s x y ≡ k
  unfolding version_of
  place_hit k h = go (eqb y (k / 3)) refl (eqb x (s - 11 + k % 3)) refl (eqb y (s - 11 + k % 3)) refl (eqb x (k / 3)) refl
    where
      one : y ≡ k / 3 → x ≡ s - 11 + k % 3 → cond (in_version s x y || in_version s y x) (number s x y) 18 ≡ k
      one ey ex =
          rw (inside s x y (omega arith) (omega arith) (omega arith)) (number_first s x y big (omega arith) (omega arith) ∙ omega arith)

      other : y ≡ s - 11 + k % 3 → x ≡ k / 3 → cond (in_version s x y || in_version s y x) (number s x y) 18 ≡ k
      other ey ex =
          rw (inside s y x (omega arith) (omega arith) (omega arith), or-true (in_version s x y)) (number_second s x y big (omega arith) (omega arith) ∙ omega arith)

      go : (a : Bool) → eqb y (k / 3) ≡ a → (b : Bool) → eqb x (s - 11 + k % 3) ≡ b → (c : Bool) → eqb y (s - 11 + k % 3) ≡ c → (d : Bool) → eqb x (k / 3) ≡ d
          → (a && b) || (c && d) ≡ true → cond (in_version s x y || in_version s y x) (number s x y) 18 ≡ k
      go true p true q c r d t e = one (eqb-true y (k / 3) p) (eqb-true x (s - 11 + k % 3) q)
      go true p false q true r true t e = other (eqb-true y (s - 11 + k % 3) r) (eqb-true x (k / 3) t)
      go true p false q true r false t e = absurd (true≢false (sym e))
      go true p false q false r d t e = absurd (true≢false (sym e))
      go false p b q true r true t e = other (eqb-true y (s - 11 + k % 3) r) (eqb-true x (k / 3) t)
      go false p b q true r false t e = absurd (true≢false (sym e))
      go false p b q false r d t e = absurd (true≢false (sym e))

  place_back : (k : ℕ) → k < 18 → version_of s x y ≡ k → twin_hit (version_x s k) (version_y k) x y ≡ true
  unfolding version_of
  place_back k h e = go (in_version s x y) refl (in_version s y x) refl e
    where
      go : (a : Bool) → in_version s x y ≡ a → (b : Bool) → in_version s y x ≡ b → cond (a || b) (number s x y) 18 ≡ k → twin_hit (version_x s k) (version_y k) x y ≡ true
      go true p b q n =
          let l = inside_low s x y p in
          let f = inside_from s x y p in
          let u = inside_below s x y p in
          let m = number_first s x y big l f in
          or_first (eqb y (k / 3) && eqb x (s - 11 + k % 3)) _
          (and_both (eqb y (k / 3)) (eqb x (s - 11 + k % 3)) (eq-eqb y (k / 3) (omega arith)) (eq-eqb x (s - 11 + k % 3) (omega arith)))
      go false p true q n =
          let l = inside_low s y x q in
          let f = inside_from s y x q in
          let u = inside_below s y x q in
          let m = number_second s x y big l f in
          or_second (eqb y (k / 3) && eqb x (s - 11 + k % 3)) (eqb y (s - 11 + k % 3) && eqb x (k / 3))
          (and_both (eqb y (s - 11 + k % 3)) (eqb x (k / 3)) (eq-eqb y (s - 11 + k % 3) (omega arith)) (eq-eqb x (k / 3) (omega arith)))
      go false p false q n = absurd (omega arith)

  hit : (k : ℕ) → k < 18 → twin_hit (version_x s k) (version_y k) x y ≡ eqb (version_of s x y) k
  hit k h =
      same_test (twin_hit (version_x s k) (version_y k) x y) (eqb (version_of s x y) k)
      (λ e. eq-eqb (version_of s x y) k (place_hit k h e))
      (λ e. place_back k h (eqb-true (version_of s x y) k e))

  -- where a bit stands, its number is below 18
  number_lt : (b : Bool) → in_version s x y || in_version s y x ≡ b → ltb (cond b (number s x y) 18) 18 ≡ b
  number_lt true e = go (in_version s x y) refl (in_version s y x) refl e
    where
      go : (a : Bool) → in_version s x y ≡ a → (b : Bool) → in_version s y x ≡ b → a || b ≡ true → ltb (number s x y) 18 ≡ true
      go true p b q z = lt-ltb (number s x y) 18 (omega (arith, inside_low s x y p, inside_from s x y p, inside_below s x y p, number_first s x y big (inside_low s x y p) (inside_from s x y p)))
      go false p true q z = lt-ltb (number s x y) 18 (omega (arith, inside_low s y x q, inside_from s y x q, inside_below s y x q, number_second s x y big (inside_low s y x q) (inside_from s y x q)))
      go false p false q z = absurd (true≢false (sym z))
  number_lt false e = refl

  layer_at : (word w : ℕ) → twins 18 (version_x s) version_y (word_bit word) x y w ≡ cond (in_version s x y || in_version s y x) (2 + bit word (number s x y)) w
  unfolding version_of
  layer_at word w =
      marks_at (λ k. twin_hit (version_x s k) (version_y k)) (word_bit word) x y w (version_of s x y) 18 hit 18 (omega arith)
      ∙ go (in_version s x y || in_version s y x) refl
    where
      go : (b : Bool) → in_version s x y || in_version s y x ≡ b → cond (ltb (cond b (number s x y) 18) 18) (word_bit word (cond b (number s x y) 18)) w ≡ cond b (2 + bit word (number s x y)) w
      go true e = rw (number_lt true e)
      go false e = refl

pub version_layer : (v x y w : ℕ) → 7 ≤ v → twins 18 (version_x (side v)) version_y (word_bit (version_word v)) x y w ≡ versions v x y w
unfolding layer on_version version_colour number
version_layer v x y w h = layer_at (side v) x y (omega arith) (version_word v) w ∙ rw (le-leb 7 v h)

pub none_below_7 : (v : ℕ) (g : List ℕ) → Square g (side v) → v < 7 → g ≡ paint (side v) (versions v) g
unfolding layer on_version
none_below_7 v g sq h = paint_none (side v) g sq.size _ (λ x y hx hy. rw (lt-leb 7 v h))

pub version_drawn : (v size word n : ℕ) (g h : List ℕ) → h ≡ paint size (twins n (version_x size) version_y (word_bit word)) g → size ≡ side v → word ≡ version_word v → Square g (side v) → 7 ≤ v → n ≤ 18 → 18 ≤ n
    → h ≡ paint (side v) (versions v) g
version_drawn v size word n g h e q f sq low l m =
    rw q at e ∙ rw (le_antisymm l m, f) (paint_ext (side v) g sq.size _ _ (λ x y w hx hy. version_layer v x y w low))
