-- The squares of one colour between two rows.
-- Assumes nothing.
use Rattle.std.specs.Prelude.{◌≡◌, refl, List, [], ◌∷◌, Bool, ◌&&◌, ℕ, zero, suc, ◌+◌, ◌-◌, ◌/◌, ◌%◌, ◌<◌, min, max, eqb, length}
use Rattle.std.proofs.Common.{sym, ap, ap₂, ◌∙◌, arith, eqb→eq}
use Rattle.std.specs.Int.Bits.{bit_xor, bit_or, differ, and_zero_l}
use Rattle.std.specs.Int.Count.{ones, ones_step}
use Rattle.standard.specs.Numbers.{one, sum, from}
use Rattle.standard.specs.Penalty.{module_of, row, square, squares}
use Rattle.laws.specs.Xor.{xor_half, xor_odd}
use Rattle.laws.specs.Computed.{among, below}
use Rattle.penalty.specs.Scan.{Modules}
use Rattle.penalty.specs.Windows.{is}
use Rattle.packed.specs.Digits.{value, low, or_half, or_odd, low_half, low_odd, value_odd, value_half}
use Rattle.packed.specs.Cost.{steps, steps_half, steps_odd, without, without_half, without_odd}

-- digit i: the square at i is not of one colour
unfoldable pub uneven : ℕ → ℕ → ℕ
uneven a b = bit_or (steps a) (bit_or (bit_xor a b) (steps b))

unfoldable pub squares_of : List ℕ → List ℕ → ℕ
squares_of [] ys = 0
squares_of (a ∷ []) ys = 0
squares_of (a ∷ c ∷ xs) [] = 0
squares_of (a ∷ c ∷ xs) (b ∷ []) = 0
squares_of (a ∷ c ∷ xs) (b ∷ d ∷ ys) = one (eqb a c && (eqb a b && eqb a d)) + squares_of (c ∷ xs) (d ∷ ys)

uneven_half : (a b : ℕ) → uneven a b / 2 ≡ uneven (a / 2) (b / 2)
unfolding uneven
uneven_half a b = or_half (steps a) (bit_or (bit_xor a b) (steps b)) ∙ rw (or_half (bit_xor a b) (steps b), xor_half a b, steps_half a, steps_half b)

odd_of : ℕ → ℕ → ℕ → ℕ → ℕ
odd_of a c b d = differ 1 (min 1 (max (differ a c) (max (differ a b) (differ b d))))

uneven_odd : (k a b : ℕ) → without (low (suc k)) (uneven a b) % 2 ≡ odd_of (a % 2) (a / 2 % 2) (b % 2) (b / 2 % 2)
unfolding odd_of uneven
uneven_odd k a b =
    without_odd (low (suc k)) (uneven a b)
    ∙ rw (low_odd k, or_odd (steps a) (bit_or (bit_xor a b) (steps b)), or_odd (bit_xor a b) (steps b), xor_odd a b, steps_odd a, steps_odd b)

test4 : ℕ → ℕ → ℕ → ℕ → Bool
test4 a c b d = eqb (odd_of a c b d) (one (eqb a c && (eqb a b && eqb a d)))

same4 : (a c b d : ℕ) → a < 2 → c < 2 → b < 2 → d < 2 → odd_of a c b d ≡ one (eqb a c && (eqb a b && eqb a d))
unfolding test4 odd_of
same4 a c b d ha hc hb hd =
    eqb→eq (odd_of a c b d) (one (eqb a c && (eqb a b && eqb a d)))
    (below (λ d. test4 a c b d) 2
    (below (λ b. among 0 2 (λ d. test4 a c b d)) 2
    (below (λ c. among 0 2 (λ b. among 0 2 (λ d. test4 a c b d))) 2
    (below (λ a. among 0 2 (λ c. among 0 2 (λ b. among 0 2 (λ d. test4 a c b d)))) 2 tt a ha) c hc) b hb) d hd)

none : (v : ℕ) → ones (without 0 v) ≡ 0
unfolding without ones
none v = rw (and_zero_l v)

pub squares_count : (xs ys : List ℕ) → Modules xs → Modules ys → length xs ≡ length ys
    → ones (without (low (length xs - 1)) (uneven (value xs) (value ys))) ≡ squares_of xs ys
unfolding squares_of Modules
squares_count [] ys ha hb e = none (uneven (value []) (value ys))
squares_count (a ∷ []) ys ha hb e = none (uneven (value (a ∷ [])) (value ys))
squares_count (a ∷ c ∷ xs) [] ha hb e = absurd (omega arith)
squares_count (a ∷ c ∷ xs) (b ∷ []) ha hb e = absurd (omega arith)
squares_count (a ∷ c ∷ xs) (b ∷ d ∷ ys) ha hb e =
    ap (λ (k : ℕ). ones (without (low k) (uneven v w))) (is (length (a ∷ c ∷ xs) - 1) (suc (length xs)) (omega arith))
    ∙ ones_step (without (low (suc (length xs))) (uneven v w))
    ∙ ap₂ (λ (m n : ℕ). m + ones n)
    (uneven_odd (length xs) v w
    ∙ rw (value_half a (c ∷ xs) ha.0, value_half b (d ∷ ys) hb.0, value_odd a (c ∷ xs) ha.0, value_odd b (d ∷ ys) hb.0, value_odd c xs ha.1.0, value_odd d ys hb.1.0)
    (same4 a c b d ha.0 ha.1.0 hb.0 hb.1.0))
    (without_half (low (suc (length xs))) (uneven v w)
    ∙ ap₂ without (low_half (suc (length xs)) ∙ ap low (is (suc (length xs) - 1) (length (c ∷ xs) - 1) (omega arith)))
    (uneven_half v w ∙ ap₂ uneven (value_half a (c ∷ xs) ha.0) (value_half b (d ∷ ys) hb.0)))
    ∙ ap (λ (n : ℕ). one (eqb a c && (eqb a b && eqb a d)) + n) (squares_count (c ∷ xs) (d ∷ ys) ha.1 hb.1 (omega arith))
  where
    v : ℕ
    v = value (a ∷ c ∷ xs)

    w : ℕ
    w = value (b ∷ d ∷ ys)

tables : (k n : ℕ) (f h : ℕ → ℕ)
    → squares_of (from k n f) (from k n h) ≡ sum (from k (n - 1) (λ x. one (eqb (f x) (f (suc x)) && (eqb (f x) (h x) && eqb (f x) (h (suc x))))))
unfolding squares_of
tables k zero f h = refl
tables k (suc zero) f h = refl
tables k (suc (suc n)) f h =
    ap (λ (m : ℕ). one (eqb (f k) (f (suc k)) && (eqb (f k) (h k) && eqb (f k) (h (suc k)))) + m)
    (tables (suc k) (suc n) f h ∙ ap (λ (m : ℕ). sum (from (suc k) m (λ x. one (eqb (f x) (f (suc x)) && (eqb (f x) (h x) && eqb (f x) (h (suc x))))))) (is (suc n - 1) n (omega arith)))
    ∙ sym (ap (λ (m : ℕ). sum (from k m (λ x. one (eqb (f x) (f (suc x)) && (eqb (f x) (h x) && eqb (f x) (h (suc x))))))) (is (suc (suc n) - 1) (suc n) (omega arith)))

-- two rows of a grid
pub squares_rows : (s : ℕ) (g : List ℕ) (y : ℕ) → squares_of (row s g y) (row s g (suc y)) ≡ squares s g y
unfolding row squares square
squares_rows s g y = tables 0 s (λ x. module_of s g x y) (λ x. module_of s g x (suc y))
