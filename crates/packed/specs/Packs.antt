-- A line of a grid, packed word by word.
-- Assumes nothing.
use Rattle.std.specs.Prelude.{◌≡◌, refl, Bool, true, false, List, [], ◌∷◌, ◌++◌, ℕ, suc, min, ◌+◌, ◌-◌, ◌*◌, ◌%◌, ◌^◌, ◌≤◌, ◌<◌, length, get_or, ltb}
use Rattle.std.proofs.Common.{sym, ap, ap₂, ◌∙◌, subst, mul_assoc, add_assoc, add-mul, pow-suc, lt_of_lt_of_le, mod-lt, zero-lt-suc, arith, pow_mono}
use Rattle.std.proofs.Math.Pow.{ones_split}
use mir.Val.{bool_byte}
use Rattle.standard.specs.Numbers.{one, from, tabulate}
use Rattle.laws.specs.Tests.{split}
use Rattle.laws.specs.Lists.{length_from, from_append}
use Rattle.penalty.specs.Scan.{Modules}
use Rattle.penalty.specs.Windows.{is}
use Rattle.penalty.specs.Lines.{from_modules}
use Rattle.packed.specs.Digits.{value, low}
use Rattle.packed.specs.Words.{join3, one_word}
use Rattle.packed.specs.Frame.{frame, value_frame}

-- of a byte of a work grid: its colour or, if asked, whether it is a data module
unfoldable pub digit_of : Bool → ℕ → ℕ
digit_of true v = one (ltb v 2)
digit_of false v = v % 2

-- the same of the byte that comes i steps after the start
unfoldable pub digit_at : Bool → List ℕ → ℕ → ℕ → ℕ → ℕ
digit_at free g start step i = digit_of free (get_or g (start + i * step) 0)

pub digit_free : (b : Bool) (v : ℕ) → b ≡ true → bool_byte (ltb v 2) ≡ digit_of b v
unfolding digit_of bool_byte
digit_free b v e = rw e (go (ltb v 2))
  where
    go : (t : Bool) → bool_byte t ≡ one t
    go true = refl
    go false = refl

pub digit_colour : (b : Bool) (v : ℕ) → b ≡ false → v % 2 ≡ digit_of b v
unfolding digit_of
digit_colour b v e = rw e

digit_lt : (b : Bool) (v : ℕ) → digit_of b v < 2
unfolding digit_of
digit_lt true v = go (ltb v 2)
  where
    go : (t : Bool) → one t < 2
    go true = omega arith
    go false = omega arith
digit_lt false v = mod-lt v (zero-lt-suc 1)

pub at_lt : (b : Bool) (g : List ℕ) (start step i : ℕ) → digit_at b g start step i < 2
unfolding digit_at
at_lt b g start step i = digit_lt b (get_or g (start + i * step) 0)

pub at_is : (b : Bool) (g : List ℕ) (start step i : ℕ) → digit_of b (get_or g (start + i * step) 0) ≡ digit_at b g start step i
unfolding digit_at
at_is b g start step i = refl

pub value_lt : (xs : List ℕ) → Modules xs → value xs < 2 ^ length xs
unfolding value Modules
value_lt [] h = omega arith
value_lt (x ∷ xs) h = subst (λ (n : ℕ). value xs * 2 + x < n) (sym (pow-suc 2 (length xs))) (omega (arith, value_lt xs h.1, h.0))

value_append : (xs ys : List ℕ) → value (xs ++ ys) ≡ value ys * 2 ^ length xs + value xs
unfolding value
value_append [] ys = omega arith
value_append (x ∷ xs) ys =
    ap (λ (n : ℕ). n * 2 + x) (value_append xs ys)
    ∙ ap (λ (n : ℕ). n + x) (add-mul (value ys * 2 ^ length xs) (value xs) 2)
    ∙ add_assoc (value ys * 2 ^ length xs * 2) (value xs * 2) x
    ∙ ap (λ (n : ℕ). n + (value xs * 2 + x)) (mul_assoc (value ys) (2 ^ length xs) 2 ∙ ap (λ (n : ℕ). value ys * n) (sym (pow-suc 2 (length xs))))

-- one more module at the front of a word
pub word_more : (f : ℕ → ℕ) (k n : ℕ) (w : ℕ) → w ≡ value (from (suc k) n f) → w * 2 + f k ≡ value (from k (suc n) f)
unfolding value
word_more f k n w e = ap (λ (v : ℕ). v * 2 + f k) e

pub word_lt : (f : ℕ → ℕ) → ((i : ℕ) → f i < 2) → (k n m : ℕ) → n ≤ m → value (from k n f) < 2 ^ m
word_lt f h k n m l = lt_of_lt_of_le (value_lt (from k n f) (from_modules f h k n)) (pow_mono {i = length (from k n f)} {j = m} (omega (arith, length_from k n f)))

pub split2 : (f : ℕ → ℕ) (k a n : ℕ) → value (from k (a + n) f) ≡ value (from (k + a) n f) * 2 ^ a + value (from k a f)
split2 f k a n =
    ap value (from_append k a n f) ∙ value_append (from k a f) (from (k + a) n f)
    ∙ ap (λ (m : ℕ). value (from (k + a) n f) * 2 ^ m + value (from k a f)) (length_from k a f)

sixteen : (x v a : ℕ) → a ≡ 60 → x * 2 ^ 64 + v * 16 ≡ (x * 2 ^ a + v) * 16
sixteen x v a e = rw e (omega arith)

-- the words of a framed line: the first has 60 of its modules
packed2 : (f : ℕ → ℕ) (a n : ℕ) → a ≡ 60 → join3 (value (from 0 a f) * 16) (value (from a n f)) 0 ≡ value (frame (tabulate (a + n) f))
unfolding join3
packed2 f a n e =
    is ((0 * 2 ^ 64 + value (from a n f)) * 2 ^ 64 + value (from 0 a f) * 16) (value (from a n f) * 2 ^ 64 + value (from 0 a f) * 16) (omega arith)
    ∙ sixteen (value (from a n f)) (value (from 0 a f)) a e
    ∙ ap (λ (m : ℕ). m * 16) (sym (split2 f 0 a n ∙ ap (λ (m : ℕ). value (from m n f) * 2 ^ a + value (from 0 a f)) (is (0 + a) a (omega arith))))
    ∙ sym (value_frame (tabulate (a + n) f))

packed3 : (f : ℕ → ℕ) (a b n : ℕ) → a ≡ 60 → b ≡ 64
    → join3 (value (from 0 a f) * 16) (value (from a b f)) (value (from (a + b) n f)) ≡ value (frame (tabulate (a + (b + n)) f))
unfolding join3
packed3 f a b n e q =
    sixteen (value (from (a + b) n f) * 2 ^ 64 + value (from a b f)) (value (from 0 a f)) a e
    ∙ ap (λ (m : ℕ). (m * 2 ^ a + value (from 0 a f)) * 16) (ap (λ (k : ℕ). value (from (a + b) n f) * 2 ^ k + value (from a b f)) (sym q) ∙ sym (split2 f a b n))
    ∙ ap (λ (m : ℕ). m * 16) (sym (split2 f 0 a (b + n) ∙ ap (λ (m : ℕ). value (from m (b + n) f) * 2 ^ a + value (from 0 a f)) (is (0 + a) a (omega arith))))
    ∙ sym (value_frame (tabulate (a + (b + n)) f))

pub packed_one : (f : ℕ → ℕ) (s x : ℕ) → x ≡ value (frame (tabulate s f)) → join3 x 0 0 ≡ value (frame (tabulate s f))
packed_one f s x e = one_word x ∙ e

pub packed_two : (f : ℕ → ℕ) (s x y : ℕ) → 60 ≤ s → x ≡ value (frame (tabulate 60 f)) → y ≡ value (from 60 (s - 60) f)
    → join3 x y 0 ≡ value (frame (tabulate s f))
packed_two f s x y h ex ey =
    ap₂ (λ (a b : ℕ). join3 a b 0) (ex ∙ value_frame (tabulate 60 f)) ey ∙ packed2 f 60 (s - 60) refl
    ∙ ap (λ (n : ℕ). value (frame (tabulate n f))) (is (60 + (s - 60)) s (omega arith))

pub packed_three : (f : ℕ → ℕ) (s x y z : ℕ) → 124 ≤ s → x ≡ value (frame (tabulate 60 f)) → y ≡ value (from 60 64 f)
    → z ≡ value (from 124 (s - 124) f) → join3 x y z ≡ value (frame (tabulate s f))
packed_three f s x y z h ex ey ez =
    ap₂ (λ (a b : ℕ). join3 a b z) (ex ∙ value_frame (tabulate 60 f)) ey ∙ ap (join3 (value (from 0 60 f) * 16) (value (from 60 64 f))) ez
    ∙ packed3 f 60 64 (s - 124) refl refl ∙ ap (λ (n : ℕ). value (frame (tabulate n f))) (is (60 + (64 + (s - 124))) s (omega arith))

-- masks
pub mask_two : (k : ℕ) → 64 ≤ k → join3 18446744073709551615 (low (k - 64)) 0 ≡ low k
unfolding join3
mask_two k h = is ((0 * 2 ^ 64 + low (k - 64)) * 2 ^ 64 + 18446744073709551615) (low (k - 64) * 2 ^ 64 + 18446744073709551615) (omega arith)
    ∙ sym (ones_split (k - 64) 64) ∙ ap low (omega arith)

pub mask_three : (k : ℕ) → 128 ≤ k → join3 18446744073709551615 18446744073709551615 (low (k - 128)) ≡ low k
unfolding join3
mask_three k h =
    ap (λ (n : ℕ). n * 2 ^ 64 + 18446744073709551615) (sym (ones_split (k - 128) 64) ∙ ap low (is (k - 128 + 64) (k - 64) (omega arith)))
    ∙ sym (ones_split (k - 64) 64) ∙ ap low (omega arith)

pub mask_line : (k x y z : ℕ) → x ≡ low (min k 64) → y ≡ low (min (k - 64) 64) → z ≡ low (k - 128) → join3 x y z ≡ low k
mask_line k x y z ex ey ez =
    split k 64 (λ l. parts k 0 0 (omega arith) (omega arith) (omega arith) ∙ one_word (low k))
    (λ h.
    split k 128 (λ l. parts 64 (k - 64) 0 (omega arith) (omega arith) (omega arith) ∙ mask_two k h)
    (λ u. parts 64 64 (k - 128) (omega arith) (omega arith) refl ∙ mask_three k u))
  where
    parts : (i j m : ℕ) → min k 64 ≡ i → min (k - 64) 64 ≡ j → k - 128 ≡ m → join3 x y z ≡ join3 (low i) (low j) (low m)
    parts i j m ei ej em =
        ap₂ (λ (a b : ℕ). join3 a b z) (ex ∙ ap low ei) (ey ∙ ap low ej) ∙ ap (join3 (low i) (low j)) (ez ∙ ap low em)
