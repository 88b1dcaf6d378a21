-- The two copies of the format word and the dark module are the layer of the definition.
-- Assumes nothing.
use Rattle.std.specs.Prelude.{ℕ, ◌+◌, ◌-◌, ◌*◌, ◌/◌, ◌%◌, ◌^◌, ◌≤◌, ◌<◌, Bool, true, false, cond, ◌&&◌, ◌≡◌, refl, List, ltb}
use Rattle.std.proofs.Common.{sym, ap, ◌∙◌, arith, pow-add, pow_pos}
use Rattle.std.proofs.Math.Nat.{mul-add-div_right}
use Rattle.std.proofs.Math.Dec.{T, eqb, eqb→eq}
use borrow.Author.Tests.{lt-ltb, le-ltb, eq-eqb, ltb-true, ltb-false, eqb-true, eqb-false}
use Rattle.laws.specs.Grid.{Square, paint, paint_ext, paint_then}
use Rattle.laws.specs.Dots.{dot, dots}
use Rattle.standard.specs.Numbers.{bit}
use Rattle.standard.specs.Sizes.{side}
use Rattle.standard.specs.Format.{format_in_column, format_in_row, format_place, on_format, format_colour}
use Rattle.laws.specs.Computed.{among, below, at_version}
use Rattle.patterns.specs.Layers.{layer, formats}
use Rattle.patterns.specs.FormatPlaces.{first_x, first_y, second_x, second_y, word_bit, format}
use Rattle.laws.specs.Marks.{marks_at, dots_marks}
use Rattle.laws.specs.Tests.{same_test, T_true, true_T, and_left, and_right, and_first, and_second, cond_same, cond_and, implies, implies_use}

-- the first copy lies in the corner
abbrev in_corner : ℕ → ℕ → Bool
in_corner x y = ltb x 9 && ltb y 9

-- which bit of the first copy, and of the second, stands there: 0 to 14, or more where none does
first_of : ℕ → ℕ → ℕ → ℕ
first_of s x y = cond (in_corner x y) (format_place s x y) 16

second_of : ℕ → ℕ → ℕ → ℕ
second_of s x y = cond (in_corner x y) 16 (format_place s x y)

-- bit k of each copy stands at its place
there : ℕ → ℕ → Bool
there s k = eqb (first_of s (first_x k) (first_y k)) k && eqb (second_of s (second_x s k) (second_y s k)) k

-- and the bit that stands at a place is at no other place
first_back : ℕ → ℕ → ℕ → ℕ → Bool
first_back s x y f = implies (ltb f 15) (eqb y (first_y f) && eqb x (first_x f))

second_back : ℕ → ℕ → ℕ → ℕ → Bool
second_back s x y g = implies (ltb g 15) (eqb y (second_y s g) && eqb x (second_x s g))

dark_back : ℕ → ℕ → ℕ → Bool
dark_back s x y = implies (eqb (format_place s x y) 15) (eqb y (s - 8) && eqb x 8)

back : ℕ → ℕ → ℕ → Bool
back s x y = first_back s x y (first_of s x y) && (second_back s x y (second_of s x y) && dark_back s x y)

dark : ℕ → Bool
dark s = eqb (format_place s 8 (s - 8)) 15

facts : ℕ → Bool
facts v =
    let s = side v in
    among 0 15 (there s) && (among 0 s (λ t. back s 8 t && back s t 8) && dark s)

facts_all : T (among 1 40 facts)
unfolding facts there back first_back second_back dark_back dark first_of second_of first_x first_y second_x second_y implies format_place format_in_column format_in_row
facts_all = tt

back_off : (s x y : ℕ) → format_place s x y ≡ 16 → T (back s x y)
unfolding back first_back second_back dark_back first_of second_of implies
back_off s x y z = rw (z, cond_same {A = ℕ} (in_corner x y) 16) tt

module _ (v : ℕ) (low : 1 ≤ v) (high : v ≤ 40) where
  all : T (facts v)
  all = at_version facts facts_all v low high

  there_at : (k : ℕ) → k < 15 → T (there (side v) k)
  unfolding facts
  there_at k h = below (there (side v)) 15 (and_left (among 0 15 (there (side v))) _ all) k h

  rest : T (among 0 (side v) (λ t. back (side v) 8 t && back (side v) t 8) && dark (side v))
  unfolding facts
  rest = and_right (among 0 15 (there (side v))) _ all

  on_lines : (t : ℕ) → t < side v → T (back (side v) 8 t && back (side v) t 8)
  on_lines t h =
      below (λ t. back (side v) 8 t && back (side v) t 8) (side v)
      (and_left (among 0 (side v) (λ t. back (side v) 8 t && back (side v) t 8)) (dark (side v)) rest) t h

  dark_place : format_place (side v) 8 (side v - 8) ≡ 15
  unfolding dark
  dark_place = eqb→eq (format_place (side v) 8 (side v - 8)) 15 (and_right (among 0 (side v) (λ t. back (side v) 8 t && back (side v) t 8)) (dark (side v)) rest)

  module _ (x y : ℕ) (hx : x < side v) (hy : y < side v) where
    elsewhere : eqb x 8 ≡ false → eqb y 8 ≡ false → format_place (side v) x y ≡ 16
    unfolding format_place
    elsewhere p q = rw (p, q)

    back_at : T (back (side v) x y)
    back_at = go (eqb x 8) refl (eqb y 8) refl
      where
        go : (p : Bool) → eqb x 8 ≡ p → (q : Bool) → eqb y 8 ≡ q → T (back (side v) x y)
        go true p q e = rw (eqb-true x 8 p) (and_left (back (side v) 8 y) (back (side v) y 8) (on_lines y hy))
        go false p true e = rw (eqb-true y 8 e) (and_right (back (side v) 8 x) (back (side v) x 8) (on_lines x hx))
        go false p false e = back_off (side v) x y (elsewhere p e)

    back_rest : T (second_back (side v) x y (second_of (side v) x y) && dark_back (side v) x y)
    unfolding back
    back_rest = and_right (first_back (side v) x y (first_of (side v) x y)) _ back_at

    first_hit : (k : ℕ) → k < 15 → eqb y (first_y k) && eqb x (first_x k) ≡ eqb (first_of (side v) x y) k
    unfolding there first_back back
    first_hit k h =
        same_test (eqb y (first_y k) && eqb x (first_x k)) (eqb (first_of (side v) x y) k)
        (λ e.
        let ey = eqb-true y (first_y k) (and_first (eqb y (first_y k)) (eqb x (first_x k)) e) in
        let ex = eqb-true x (first_x k) (and_second (eqb y (first_y k)) (eqb x (first_x k)) e) in
        rw (ey, ex) (T_true _ (and_left (eqb (first_of (side v) (first_x k) (first_y k)) k) (eqb (second_of (side v) (second_x (side v) k) (second_y (side v) k)) k) (there_at k h))))
        (λ e.
        let ek : first_of (side v) x y ≡ k = eqb-true (first_of (side v) x y) k e in
        let b : T (first_back (side v) x y k) = rw ek at (and_left (first_back (side v) x y (first_of (side v) x y)) (second_back (side v) x y (second_of (side v) x y) && dark_back (side v) x y) back_at) in
        T_true _ (implies_use (ltb k 15) (eqb y (first_y k) && eqb x (first_x k)) b (true_T (ltb k 15) (lt-ltb k 15 h))))

    second_hit : (k : ℕ) → k < 15 → eqb y (second_y (side v) k) && eqb x (second_x (side v) k) ≡ eqb (second_of (side v) x y) k
    unfolding there second_back
    second_hit k h =
        same_test (eqb y (second_y (side v) k) && eqb x (second_x (side v) k)) (eqb (second_of (side v) x y) k)
        (λ e.
        let ey = eqb-true y (second_y (side v) k) (and_first (eqb y (second_y (side v) k)) (eqb x (second_x (side v) k)) e) in
        let ex = eqb-true x (second_x (side v) k) (and_second (eqb y (second_y (side v) k)) (eqb x (second_x (side v) k)) e) in
        rw (ey, ex) (T_true _ (and_right (eqb (first_of (side v) (first_x k) (first_y k)) k) (eqb (second_of (side v) (second_x (side v) k) (second_y (side v) k)) k) (there_at k h))))
        (λ e.
        let ek : second_of (side v) x y ≡ k = eqb-true (second_of (side v) x y) k e in
        let b : T (second_back (side v) x y k) = rw ek at (and_left (second_back (side v) x y (second_of (side v) x y)) (dark_back (side v) x y) back_rest) in
        T_true _ (implies_use (ltb k 15) (eqb y (second_y (side v) k) && eqb x (second_x (side v) k)) b (true_T (ltb k 15) (lt-ltb k 15 h))))

    dark_hit : eqb y (side v - 8) && eqb x 8 ≡ eqb (format_place (side v) x y) 15
    unfolding dark_back
    dark_hit =
        same_test (eqb y (side v - 8) && eqb x 8) (eqb (format_place (side v) x y) 15)
        (λ e.
        let ey = eqb-true y (side v - 8) (and_first (eqb y (side v - 8)) (eqb x 8) e) in
        let ex = eqb-true x 8 (and_second (eqb y (side v - 8)) (eqb x 8) e) in
        rw (ey, ex) (eq-eqb (format_place (side v) 8 (side v - 8)) 15 dark_place))
        (λ e.
        T_true _
        (implies_use (eqb (format_place (side v) x y) 15) (eqb y (side v - 8) && eqb x 8) (and_right (second_back (side v) x y (second_of (side v) x y)) (dark_back (side v) x y) back_rest)
        (true_T (eqb (format_place (side v) x y) 15) e)))

-- ---- the bits of the word, and of the word with the dark module as bit 15

low_bit : (word k : ℕ) → k < 15 → bit (2 ^ 15 + word) k ≡ bit word k
low_bit word k h =
    let two : 2 ^ 15 ≡ 2 ^ (14 - k) * 2 * 2 ^ k =
    let a : 14 - k + 1 + k ≡ 15 = omega arith in
    sym (ap (λ (n : ℕ). 2 ^ n) a) ∙ pow-add 2 (14 - k + 1) k ∙ ap (λ (n : ℕ). n * 2 ^ k) (pow-add 2 (14 - k) 1) in
    let d : (2 ^ (14 - k) * 2 * 2 ^ k + word) / 2 ^ k ≡ 2 ^ (14 - k) * 2 + word / 2 ^ k = mul-add-div_right (pow_pos k) (2 ^ (14 - k) * 2) word in
    ap (λ (n : ℕ). (n + word) / 2 ^ k % 2) two ∙ ap (λ (n : ℕ). n % 2) d ∙ omega arith

high_bit : (word : ℕ) → word < 32768 → bit (2 ^ 15 + word) 15 ≡ 1
high_bit word h = omega arith

-- f is the place; in the corner the first copy's, elsewhere the second's
stack : (word f w : ℕ) → word < 32768 → (c : Bool)
    → cond (eqb f 15) 3 (cond (ltb (cond c 16 f) 15) (word_bit word (cond c 16 f)) (cond (ltb (cond c f 16) 15) (word_bit word (cond c f 16)) w))
    ≡ cond (ltb f 16) (2 + bit (2 ^ 15 + word) f) w
stack word f w small c = go (ltb f 15) refl (eqb f 15) refl c
  where
    go : (p : Bool) → ltb f 15 ≡ p → (q : Bool) → eqb f 15 ≡ q → (c : Bool)
        → cond q 3 (cond (ltb (cond c 16 f) 15) (word_bit word (cond c 16 f)) (cond (ltb (cond c f 16) 15) (word_bit word (cond c f 16)) w))
        ≡ cond (ltb f 16) (2 + bit (2 ^ 15 + word) f) w
    go true p true q c = absurd (omega (arith, ltb-true f 15 p, eqb-true f 15 q))
    go true p false q true = let h = ltb-true f 15 p in rw (p, lt-ltb f 16 (omega arith), low_bit word f h)
    go true p false q false = let h = ltb-true f 15 p in rw (p, lt-ltb f 16 (omega arith), low_bit word f h)
    go false p true q c = rw (eqb-true f 15 q, high_bit word small)
    go false p false q true = let h = ltb-false f 15 p in let n = eqb-false f 15 q in rw (p, le-ltb f 16 (omega arith))
    go false p false q false = let h = ltb-false f 15 p in let n = eqb-false f 15 q in rw (p, le-ltb f 16 (omega arith))

pub format_layer : (v word x y w : ℕ) → 1 ≤ v → v ≤ 40 → word < 32768 → x < side v → y < side v → format (side v) word x y w ≡ formats (side v) word x y w
unfolding layer on_format format_colour first_of second_of
format_layer v word x y w low high small hx hy =
    sym (cond_and (eqb y (side v - 8)) (eqb x 8) 3 _)
    ∙ rw (
      dark_hit v low high x y hx hy,
      dots_marks 15 (second_x (side v)) (second_y (side v)) (word_bit word) x y (dots 15 first_x first_y (word_bit word) x y w),
      dots_marks 15 first_x first_y (word_bit word) x y w,
      marks_at (λ k x y. eqb y (first_y k) && eqb x (first_x k)) (word_bit word) x y w (first_of (side v) x y) 15 (first_hit v low high x y hx hy) 15 (omega arith),
      marks_at (λ k x y. eqb y (second_y (side v) k) && eqb x (second_x (side v) k)) (word_bit word) x y _ (second_of (side v) x y) 15 (second_hit v low high x y hx hy) 15 (omega arith),
    )
    (stack word (format_place (side v) x y) w small (in_corner x y))

pub format_drawn : (v word size bits : ℕ) (g a b c : List ℕ) → a ≡ paint size (dots 15 first_x first_y (word_bit bits)) g → b ≡ paint size (dots 15 (second_x size) (second_y size) (word_bit bits)) a
    → c ≡ paint size (dot 8 (size - 8) 3) b → size ≡ side v → bits ≡ word → bits < 32768 → Square g (side v) → 1 ≤ v → v ≤ 40
    → c ≡ paint (side v) (formats (side v) word) g
format_drawn v word size bits g a b c p q r same known small sq low high =
    let whole : c ≡ paint (side v) (format (side v) word) g = rw (same, known) at (paint_then size _ _ g b c (paint_then size _ _ g a b p q) r) in
    whole ∙ paint_ext (side v) g sq.size _ _ (λ x y w hx hy. format_layer v word x y w low high (rw known at small) hx hy)
