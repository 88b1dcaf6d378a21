-- What the runs of a line cost, counted in digits of the line's number.
-- Assumes nothing.
use Rattle.std.specs.Prelude.{◌≡◌, refl, List, [], ◌∷◌, Bool, true, false, ◌&&◌, not, ℕ, zero, suc, ◌+◌, ◌-◌, ◌*◌, ◌/◌, ◌%◌, ◌<◌, min, max, eqb, length}
use Rattle.std.proofs.Common.{ap, ap₂, ◌∙◌, not-suc-le-zero, le_of_suc-le-suc, arith, eqb→eq, lit<}
use Rattle.std.specs.Int.Bits.{bit_xor, bit_and, bit_or, differ}
use Rattle.std.specs.Int.Count.{ones, ones_step}
use Rattle.standard.specs.Numbers.{one}
use Rattle.packed.specs.Runs.{lead, five, place_cost}
use Rattle.laws.specs.Xor.{xor_half, xor_odd}
use Rattle.laws.specs.Computed.{among, below}
use Rattle.penalty.specs.Scan.{Modules}
use Rattle.packed.specs.Digits.{value, low, and_half, or_half, and_odd, or_odd, low_half, low_odd, value_odd, value_half}

-- digit i: module i differs from the next
unfoldable pub steps : ℕ → ℕ
steps v = bit_xor v (v / 2)

-- digit i: d has one of the digits i .. i + 1
unfoldable pub two : ℕ → ℕ
two d = bit_or d (d / 2)

-- digit i: d has one of the digits i .. i + 3
unfoldable pub four : ℕ → ℕ
four d = bit_or (two d) (two d / 2 / 2)

-- the digits of m that u has not
unfoldable pub without : ℕ → ℕ → ℕ
without m u = bit_xor m (bit_and m u)

-- digit i, of those of m: five equal modules begin at i
unfoldable pub fives : ℕ → ℕ → ℕ
fives m v = without m (four (steps v))

unfoldable pub word_cost : ℕ → ℕ
word_cost w = ones w + 2 * ones (without w (w / 2))

-- ---- halving

pub steps_half : (v : ℕ) → steps v / 2 ≡ steps (v / 2)
unfolding steps
steps_half v = xor_half v (v / 2)

two_half : (v : ℕ) → two v / 2 ≡ two (v / 2)
unfolding two
two_half v = or_half v (v / 2)

four_half : (v : ℕ) → four v / 2 ≡ four (v / 2)
unfolding four
four_half v = or_half (two v) (two v / 2 / 2) ∙ rw (two_half v)

pub without_half : (m u : ℕ) → without m u / 2 ≡ without (m / 2) (u / 2)
unfolding without
without_half m u = xor_half m (bit_and m u) ∙ rw (and_half m u)

pub fives_half : (m v : ℕ) → fives m v / 2 ≡ fives (m / 2) (v / 2)
unfolding fives
fives_half m v = without_half m (four (steps v)) ∙ rw (four_half (steps v), steps_half v)

-- ---- the lowest digit

pub without_odd : (m u : ℕ) → without m u % 2 ≡ differ (m % 2) (min (m % 2) (u % 2))
unfolding without
without_odd m u = xor_odd m (bit_and m u) ∙ rw (and_odd m u)

pub steps_odd : (v : ℕ) → steps v % 2 ≡ differ (v % 2) (v / 2 % 2)
unfolding steps
steps_odd v = xor_odd v (v / 2)

two_odd : (d : ℕ) → two d % 2 ≡ max (d % 2) (d / 2 % 2)
unfolding two
two_odd d = or_odd d (d / 2)

four_odd : (d : ℕ) → four d % 2 ≡ max (max (d % 2) (d / 2 % 2)) (max (d / 2 / 2 % 2) (d / 2 / 2 / 2 % 2))
unfolding four
four_odd d = or_odd (two d) (two d / 2 / 2) ∙ rw (two_half d, two_half (d / 2), two_odd d, two_odd (d / 2 / 2))

-- the lowest digit of `fives`, from the five lowest of the line
five_of : ℕ → ℕ → ℕ → ℕ → ℕ → ℕ
five_of a b c d e = differ 1 (min 1 (max (max (differ a b) (differ b c)) (max (differ c d) (differ d e))))

fives_at : (k v : ℕ) → fives (low (suc k)) v % 2 ≡ five_of (v % 2) (v / 2 % 2) (v / 2 / 2 % 2) (v / 2 / 2 / 2 % 2) (v / 2 / 2 / 2 / 2 % 2)
unfolding fives five_of
fives_at k v =
    without_odd (low (suc k)) (four (steps v))
    ∙ rw (
      low_odd k,
      four_odd (steps v),
      steps_half v,
      steps_half (v / 2),
      steps_half (v / 2 / 2),
      steps_odd v,
      steps_odd (v / 2),
      steps_odd (v / 2 / 2),
      steps_odd (v / 2 / 2 / 2),
    )

lead5 : ℕ → ℕ → ℕ → ℕ → ℕ → Bool
lead5 a b c d e = eqb b a && (eqb c a && (eqb d a && (eqb e a && true)))

test5 : ℕ → ℕ → ℕ → ℕ → ℕ → Bool
test5 a b c d e = eqb (five_of a b c d e) (one (lead5 a b c d e))

same5 : (a b c d e : ℕ) → a < 2 → b < 2 → c < 2 → d < 2 → e < 2 → five_of a b c d e ≡ one (lead5 a b c d e)
unfolding test5 five_of lead5
same5 a b c d e ha hb hc hd he =
    eqb→eq (five_of a b c d e) (one (lead5 a b c d e))
    (below (λ e. test5 a b c d e) 2
    (below (λ d. among 0 2 (λ e. test5 a b c d e)) 2
    (below (λ c. among 0 2 (λ d. among 0 2 (λ e. test5 a b c d e))) 2
    (below (λ b. among 0 2 (λ c. among 0 2 (λ d. among 0 2 (λ e. test5 a b c d e)))) 2
    (below (λ a. among 0 2 (λ b. among 0 2 (λ c. among 0 2 (λ d. among 0 2 (λ e. test5 a b c d e))))) 2 tt a ha) b hb) c hc) d hd) e he)

lead_short : (k c : ℕ) (xs : List ℕ) → length xs < k → lead k c xs ≡ false
unfolding lead
lead_short zero c xs h = absurd (not-suc-le-zero h)
lead_short (suc k) c [] h = refl
lead_short (suc k) c (x ∷ xs) h = rw (lead_short k c xs (le_of_suc-le-suc h)) (go (eqb x c))
  where
    go : (b : Bool) → (b && false) ≡ false
    go true = refl
    go false = refl

none : (v : ℕ) → fives 0 v % 2 ≡ 0
unfolding fives
none v = without_odd 0 (four (steps v)) ∙ go (four (steps v) % 2)
  where
    go : (n : ℕ) → min 0 n ≡ 0
    go n = omega arith

pub fives_odd : (xs : List ℕ) → Modules xs → fives (low (length xs - 4)) (value xs) % 2 ≡ one (five xs)
unfolding five Modules lead lead5
fives_odd [] h = none (value [])
fives_odd (a ∷ []) h = none (value (a ∷ []))
fives_odd (a ∷ b ∷ []) h = none (value (a ∷ b ∷ [])) ∙ rw (lead_short 4 a (b ∷ []) (lit< tt))
fives_odd (a ∷ b ∷ c ∷ []) h = none (value (a ∷ b ∷ c ∷ [])) ∙ rw (lead_short 4 a (b ∷ c ∷ []) (lit< tt))
fives_odd (a ∷ b ∷ c ∷ d ∷ []) h = none (value (a ∷ b ∷ c ∷ d ∷ [])) ∙ rw (lead_short 4 a (b ∷ c ∷ d ∷ []) (lit< tt))
fives_odd (a ∷ b ∷ c ∷ d ∷ e ∷ xs) h =
    ap (λ (k : ℕ). fives (low k) v % 2) count ∙ fives_at (length xs) v
    ∙ rw (
      value_half a (b ∷ c ∷ d ∷ e ∷ xs) ha,
      value_half b (c ∷ d ∷ e ∷ xs) hb,
      value_half c (d ∷ e ∷ xs) hc,
      value_half d (e ∷ xs) hd,
      value_odd a (b ∷ c ∷ d ∷ e ∷ xs) ha,
      value_odd b (c ∷ d ∷ e ∷ xs) hb,
      value_odd c (d ∷ e ∷ xs) hc,
      value_odd d (e ∷ xs) hd,
      value_odd e xs he,
    )
    (same5 a b c d e ha hb hc hd he)
  where
    v : ℕ
    v = value (a ∷ b ∷ c ∷ d ∷ e ∷ xs)

    ha : a < 2
    ha = h.0

    hb : b < 2
    hb = h.1.0

    hc : c < 2
    hc = h.1.1.0

    hd : d < 2
    hd = h.1.1.1.0

    he : e < 2
    he = h.1.1.1.1.0

    count : length (a ∷ b ∷ c ∷ d ∷ e ∷ xs) - 4 ≡ suc (length xs)
    count = omega arith

-- ---- the whole line

last_test : (p q : Bool) → differ (one p) (min (one p) (one q)) ≡ one (p && not q)
last_test true true = refl
last_test true false = refl
last_test false true = refl
last_test false false = refl

empty : word_cost (fives 0 0) ≡ 0
unfolding word_cost fives without four two steps ones
empty = refl

word_step : (w : ℕ) → word_cost w ≡ w % 2 + 2 * (without w (w / 2) % 2) + word_cost (w / 2)
unfolding word_cost
word_step w = omega (arith, ones_step w, ones_step (without w (w / 2)), ap ones (without_half w (w / 2)))

-- a line that is one module longer
fives_tail : (x : ℕ) (xs : List ℕ) → x < 2 → fives (low (suc (length xs) - 4)) (value (x ∷ xs)) / 2 ≡ fives (low (length xs - 4)) (value xs)
fives_tail x xs h =
    fives_half (low (suc (length xs) - 4)) (value (x ∷ xs))
    ∙ ap₂ fives (low_half (suc (length xs) - 4) ∙ ap low (omega arith)) (value_half x xs h)

pub word_cost_lem : (xs : List ℕ) → Modules xs → word_cost (fives (low (length xs - 4)) (value xs)) ≡ place_cost xs
unfolding place_cost Modules value
word_cost_lem [] h = empty
word_cost_lem (x ∷ xs) h =
    word_step w
    ∙ rw (without_odd w (w / 2), fives_odd (x ∷ xs) h, fives_tail x xs h.0, fives_odd xs h.1, last_test (five (x ∷ xs)) (five xs), word_cost_lem xs h.1)
  where
    w : ℕ
    w = fives (low (suc (length xs) - 4)) (value (x ∷ xs))
