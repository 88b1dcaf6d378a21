-- Where a pattern stands in a line: the places as the digits of a number, and how many they are.
-- Assumes nothing.
use Rattle.std.specs.Prelude.{◌≡◌, refl, List, [], ◌∷◌, ◌++◌, Bool, true, false, ◌&&◌, ℕ, zero, suc, ◌+◌, ◌*◌, ◌/◌, ◌%◌, ◌^◌, ◌<◌, min, eqb, nat_eq, IsTrue, ◌↔◌, length, drop}
use Rattle.std.proofs.Common.{sym, ap, ap₂, ◌∙◌, div-one, div-add-mod', add-one, drop-drop, arith, lit<, shr-shr, eqb-true}
use Rattle.std.proofs.Math.Nat.{zero-div}
use Rattle.std.proofs.Math.Arith.{digits_mod, digits_div}
use Rattle.std.specs.Int.Bits.{bit_and, bit_or, and_step, and_zero_l, differ, or_add_and}
use Rattle.std.proofs.lemmas.Nat.{and_le_l, and_le_r}
use Rattle.std.specs.Int.Count.{ones, ones_step}
use Rattle.standard.specs.Numbers.{one}
use Rattle.packed.specs.Words.{join3, zero3, all_zero}
use Rattle.penalty.specs.Scan.{Modules}
use Rattle.penalty.specs.Windows.{is}
use Rattle.packed.specs.Digits.{value, low, value_odd, value_half, low_half, low_odd}
use Rattle.packed.specs.Cost.{without, without_half, without_odd}

-- the pattern stands first
unfoldable pub pre : List ℕ → List ℕ → Bool
pre [] xs = true
pre (p ∷ ps) [] = false
pre (p ∷ ps) (x ∷ xs) = eqb x p && pre ps xs

-- at how many places of a line the pattern stands
unfoldable pub hits : List ℕ → List ℕ → ℕ
hits ps [] = 0
hits ps (x ∷ xs) = one (pre ps (x ∷ xs)) + hits ps xs

-- those places
unfoldable pub marks : List ℕ → List ℕ → ℕ
marks ps [] = 0
marks ps (x ∷ xs) = marks ps xs * 2 + one (pre ps (x ∷ xs))

empty : 0 ≡ without (low 0) (value [])
unfolding without value
empty = refl

one_lt : (b : Bool) → one b < 2
one_lt true = lit< tt
one_lt false = lit< tt

marks_half : (ps : List ℕ) (x : ℕ) (xs : List ℕ) → marks ps (x ∷ xs) / 2 ≡ marks ps xs
unfolding marks
marks_half ps x xs = digits_div (marks ps xs) (one_lt (pre ps (x ∷ xs)))

marks_odd : (p : ℕ) (ps xs : List ℕ) → marks (p ∷ ps) xs % 2 ≡ one (pre (p ∷ ps) xs)
unfolding marks pre
marks_odd p ps [] = refl
marks_odd p ps (x ∷ xs) = digits_mod (marks (p ∷ ps) xs) (one_lt (pre (p ∷ ps) (x ∷ xs)))

pub marks_hits : (ps xs : List ℕ) → ones (marks ps xs) ≡ hits ps xs
unfolding marks hits ones
marks_hits ps [] = refl
marks_hits ps (x ∷ xs) =
    ones_step (marks ps (x ∷ xs))
    ∙ ap₂ (λ (a b : ℕ). a + ones b) (digits_mod (marks ps xs) (one_lt (pre ps (x ∷ xs)))) (marks_half ps x xs)
    ∙ ap (λ (n : ℕ). one (pre ps (x ∷ xs)) + n) (marks_hits ps xs)

pub marks_drop : (ps xs : List ℕ) (k : ℕ) → marks ps xs / 2 ^ k ≡ marks ps (drop k xs)
unfolding marks
marks_drop ps xs zero = div-one (marks ps xs)
marks_drop ps [] (suc k) = zero-div (2 ^ suc k)
marks_drop ps (x ∷ xs) (suc k) =
    ap (λ (n : ℕ). marks ps (x ∷ xs) / 2 ^ n) (is (suc k) (1 + k) (omega arith)) ∙ sym (shr-shr (marks ps (x ∷ xs)) 1 k)
    ∙ ap (λ (n : ℕ). n / 2 ^ k) (marks_half ps x xs) ∙ marks_drop ps xs k

-- one pattern, and then another
pre_append : (ps qs xs : List ℕ) → pre (ps ++ qs) xs ≡ (pre ps xs && pre qs (drop (length ps) xs))
unfolding pre
pre_append [] qs xs = refl
pre_append (p ∷ ps) qs [] = refl
pre_append (p ∷ ps) qs (x ∷ xs) = rw (pre_append ps qs xs) (go (eqb x p) (pre ps xs) (pre qs (drop (length ps) xs)))
  where
    go : (a b c : Bool) → (a && (b && c)) ≡ ((a && b) && c)
    go true b c = refl
    go false b c = refl

min_one : (a b : Bool) → min (one a) (one b) ≡ one (a && b)
min_one true true = refl
min_one true false = refl
min_one false true = refl
min_one false false = refl

then_drop : (p : ℕ) (ps : List ℕ) (q : ℕ) (qs xs : List ℕ)
    → bit_and (marks (p ∷ ps) xs) (marks (q ∷ qs) (drop (suc (length ps)) xs)) ≡ marks (p ∷ (ps ++ (q ∷ qs))) xs
unfolding marks
then_drop p ps q qs [] = and_zero_l (marks (q ∷ qs) [])
then_drop p ps q qs (x ∷ xs) =
    and_step (marks (p ∷ ps) (x ∷ xs)) (marks (q ∷ qs) (drop (length ps) xs))
    ∙ ap₂ (λ (m n : ℕ). m * 2 + n)
    (ap₂ bit_and (marks_half (p ∷ ps) x xs)
    (marks_drop (q ∷ qs) (drop (length ps) xs) 1 ∙ ap (marks (q ∷ qs)) (drop-drop 1 (length ps) xs ∙ ap (λ (n : ℕ). drop n xs) (add-one (length ps))))
    ∙ then_drop p ps q qs xs)
    (ap₂ min (marks_odd p ps (x ∷ xs)) (marks_odd q qs (drop (length ps) xs))
    ∙ min_one (pre (p ∷ ps) (x ∷ xs)) (pre (q ∷ qs) (drop (length ps) xs)) ∙ ap one (sym (pre_append (p ∷ ps) (q ∷ qs) (x ∷ xs))))

pub marks_then : (p : ℕ) (ps : List ℕ) (q : ℕ) (qs xs : List ℕ)
    → bit_and (marks (p ∷ ps) xs) (marks (q ∷ qs) xs / 2 ^ length (p ∷ ps)) ≡ marks ((p ∷ ps) ++ (q ∷ qs)) xs
marks_then p ps q qs xs = ap (bit_and (marks (p ∷ ps) xs)) (marks_drop (q ∷ qs) xs (suc (length ps))) ∙ then_drop p ps q qs xs

is_one : (x : ℕ) → x < 2 → one (eqb x 1 && true) ≡ x
is_one zero h = refl
is_one (suc zero) h = refl
is_one (suc (suc x)) h = omega arith

is_zero : (x : ℕ) → x < 2 → differ 1 (min 1 x) ≡ one (eqb x 0 && true)
is_zero zero h = refl
is_zero (suc zero) h = refl
is_zero (suc (suc x)) h = omega arith

pub marks_dark : (xs : List ℕ) → Modules xs → marks (1 ∷ []) xs ≡ value xs
unfolding marks pre value Modules
marks_dark [] h = refl
marks_dark (x ∷ xs) h = ap₂ (λ (m n : ℕ). m * 2 + n) (marks_dark xs h.1) (is_one x h.0)

pub marks_light : (xs : List ℕ) → Modules xs → marks (0 ∷ []) xs ≡ without (low (length xs)) (value xs)
unfolding marks pre Modules
marks_light [] h = empty
marks_light (x ∷ xs) h =
    ap₂ (λ (m n : ℕ). m * 2 + n)
    (marks_light xs h.1 ∙ sym (without_half (low (suc (length xs))) (value (x ∷ xs)) ∙ ap₂ without (low_half (suc (length xs)) ∙ ap low (omega arith)) (value_half x xs h.0)))
    (sym (without_odd (low (suc (length xs))) (value (x ∷ xs)) ∙ rw (low_odd (length xs), value_odd x xs h.0) (is_zero x h.0)))
    ∙ div-add-mod' (without (low (suc (length xs))) (value (x ∷ xs))) 2

-- the same, of numbers that are known to be places
pub marked : (p : ℕ) (ps : List ℕ) (q : ℕ) (qs xs : List ℕ) {f g r : ℕ} → f ≡ marks (p ∷ ps) xs → g ≡ marks (q ∷ qs) xs
    → r ≡ bit_and f (g / 2 ^ length (p ∷ ps)) → r ≡ marks ((p ∷ ps) ++ (q ∷ qs)) xs
marked p ps q qs xs e f h = h ∙ ap₂ (λ (a b : ℕ). bit_and a (b / 2 ^ length (p ∷ ps))) e f ∙ marks_then p ps q qs xs

pub no_hits : (ps xs : List ℕ) → marks ps xs ≡ 0 → hits ps xs ≡ 0
unfolding ones
no_hits ps xs e = sym (marks_hits ps xs) ∙ ap ones e

pub or_none : (a b : ℕ) → bit_or a b ≡ 0 → (a ≡ 0) × (b ≡ 0)
or_none a b e = (omega (arith, or_add_and a b, and_le_l a b, and_le_r a b), omega (arith, or_add_and a b, and_le_l a b, and_le_r a b))

-- no digit in any of three words
pub or_light : (a b c : ℕ) → IsTrue (nat_eq (bit_or (bit_or a b) c) 0) ↔ (join3 a b c ≡ 0)
or_light a b c = (
  λ e.
      let m = or_none (bit_or a b) c (eqb-true _ 0 e) in let n = or_none a b m.0 in all_zero a b c n.0 n.1 m.1,
  λ e. let z = zero3 a b c e in rw (z.0, z.1, z.2),
)
