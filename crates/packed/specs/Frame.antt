-- A line as a number, with four light modules before it and behind it.
-- Assumes nothing.
use Rattle.std.specs.Prelude.{◌≡◌, refl, List, [], ◌∷◌, ◌++◌, ℕ, zero, suc, ◌+◌, ◌*◌, ◌/◌, ◌%◌, ◌^◌, ◌≤◌, ◌<◌, length, get_or, set, replicate}
use Rattle.std.proofs.Common.{sym, ap, ap₂, ◌∙◌, mod-lt, mod-eq_of_lt, zero-lt-suc, div-one, not-suc-le-zero, le_of_suc-le-suc, arith, length-append, shr-shr}
use Rattle.std.proofs.Math.Nat.{mul-div_left}
use Rattle.std.specs.Int.Bits.{block_odd}
use Rattle.standard.specs.Numbers.{tabulate}
use Rattle.standard.specs.Penalty.{line_cost}
use Rattle.laws.specs.Lists.{is_tabulate}
use Rattle.laws.specs.Front.{front, front_suc, front_all}
use Rattle.penalty.specs.Scan.{Modules}
use Rattle.penalty.specs.Windows.{is}
use Rattle.penalty.specs.Lines.{along}
use Rattle.packed.specs.Words.{join3}
use Rattle.packed.specs.Digits.{value, value_odd, value_half}

-- the n lowest digits, lowest first
unfoldable pub digits : ℕ → ℕ → List ℕ
digits zero v = []
digits (suc n) v = v % 2 ∷ digits n (v / 2)

abbrev pub frame : List ℕ → List ℕ
frame xs = replicate 4 0 ++ xs ++ replicate 4 0

-- the line of s modules in a framed number
unfoldable pub line_of : ℕ → ℕ → List ℕ
line_of s v = digits s (v / 16)

abbrev pub Framed : ℕ → ℕ → Type 0
Framed s v = v ≡ value (frame (line_of s v))

pub digits_modules : (n v : ℕ) → Modules (digits n v)
unfolding digits Modules
digits_modules zero v = tt
digits_modules (suc n) v = (mod-lt v (zero-lt-suc 1), digits_modules n (v / 2))

pub digits_length : (n v : ℕ) → length (digits n v) ≡ n
unfolding digits
digits_length zero v = refl
digits_length (suc n) v = ap suc (digits_length n (v / 2))

pub digits_value : (xs : List ℕ) → Modules xs → digits (length xs) (value xs) ≡ xs
unfolding digits Modules
digits_value [] h = refl
digits_value (x ∷ xs) h = ap₂ (λ (y : ℕ) (ys : List ℕ). y ∷ ys) (value_odd x xs h.0) (ap (digits (length xs)) (value_half x xs h.0) ∙ digits_value xs h.1)

value_zeros : (n : ℕ) → value (replicate n 0) ≡ 0
unfolding value
value_zeros zero = refl
value_zeros (suc n) = omega (arith, value_zeros n)

value_behind : (xs : List ℕ) (n : ℕ) → value (xs ++ replicate n 0) ≡ value xs
unfolding value
value_behind [] n = value_zeros n
value_behind (x ∷ xs) n = ap (λ (m : ℕ). m * 2 + x) (value_behind xs n)

pub value_frame : (xs : List ℕ) → value (frame xs) ≡ value xs * 16
unfolding value
value_frame xs = value_behind (replicate 4 0 ++ xs) 4 ∙ omega arith

pub line_of_frame : (xs : List ℕ) (s : ℕ) → Modules xs → length xs ≡ s → line_of s (value (frame xs)) ≡ xs
unfolding line_of
line_of_frame xs s h e =
    ap₂ (λ (n m : ℕ). digits n (m / 16)) (sym e) (value_frame xs)
    ∙ ap (digits (length xs)) (mul-div_left (value xs) (zero-lt-suc 15)) ∙ digits_value xs h

pub framed : (xs : List ℕ) (s v : ℕ) → Modules xs → length xs ≡ s → v ≡ value (frame xs) → Framed s v
framed xs s v h e q = q ∙ ap (λ (ys : List ℕ). value (frame ys)) (sym (ap (line_of s) q ∙ line_of_frame xs s h e))

pub line_modules : (s v : ℕ) → Modules (line_of s v)
unfolding line_of
line_modules s v = digits_modules s (v / 16)

pub line_length_lem : (s v : ℕ) → length (line_of s v) ≡ s
unfolding line_of
line_length_lem s v = digits_length s (v / 16)

pub frame_length : (s v : ℕ) → length (frame (line_of s v)) ≡ s + 8
frame_length s v = omega (arith, length-append (replicate 4 0 ++ line_of s v) (replicate 4 0), line_length_lem s v)

pub value_line : (s v : ℕ) → Framed s v → v / 16 ≡ value (line_of s v)
value_line s v f = ap (λ (n : ℕ). n / 16) (f ∙ value_frame (line_of s v)) ∙ mul-div_left (value (line_of s v)) (zero-lt-suc 15)

-- ---- module by module

pub digit_at : (n v i : ℕ) → i < n → get_or (digits n v) i 0 ≡ v / 2 ^ i % 2
unfolding digits
digit_at zero v i h = absurd (not-suc-le-zero h)
digit_at (suc n) v zero h = ap (λ (m : ℕ). m % 2) (sym (div-one v))
digit_at (suc n) v (suc i) h =
    digit_at n (v / 2) i (le_of_suc-le-suc h)
    ∙ ap (λ (m : ℕ). m % 2) (shr-shr v 1 i ∙ ap (λ (m : ℕ). v / 2 ^ m) (is (1 + i) (suc i) (omega arith)))

-- the digits of v, one after the other, in the place of o
pub unpacked_next : (v n i w b : ℕ) (o h : List ℕ) → h ≡ front i (digits n v) o → w ≡ v / 2 ^ i → n ≡ length o → i < n → b ≡ w % 2
    → set h i b ≡ front (i + 1) (digits n v) o
unpacked_next v n i w b o h e f q l d =
    ap (λ (x : List ℕ). set x i b) e
    ∙ front_suc (digits n v) o i b (digits_length n v ∙ q) (omega arith) (d ∙ ap (λ (m : ℕ). m % 2) f ∙ sym (digit_at n v i l))

pub rest_next : (v i w r : ℕ) → w ≡ v / 2 ^ i → r ≡ w / 2 ^ 1 → r ≡ v / 2 ^ (i + 1)
rest_next v i w r e f = f ∙ ap (λ (m : ℕ). m / 2 ^ 1) e ∙ shr-shr v i 1

pub unpacked_end : (v n i : ℕ) (o h : List ℕ) → h ≡ front i (digits n v) o → n ≡ length o → n ≤ i → h ≡ digits (length o) v
unpacked_end v n i o h e q l =
    e ∙ front_all (digits n v) o i (digits_length n v ∙ q) (omega arith) ∙ ap (λ (m : ℕ). digits m v) q

-- the lowest digit of three words is that of the first
pub odd3 : (a b c : ℕ) → join3 a b c % 2 ≡ a % 2
unfolding join3
odd3 a b c = block_odd (c * 2 ^ 64 + b) 63 a

-- a line of bytes is what they were unpacked from
pub bytes_line : (s v : ℕ) (g : List ℕ) → g ≡ digits s v → tabulate s (along g 0 1) ≡ digits s v
unfolding along
bytes_line s v g e =
    sym (is_tabulate 0 (digits s v) s (along g 0 1) (digits_length s v)
    (λ i l.
    digit_at s v i l ∙ sym (mod-eq_of_lt (mod-lt (v / 2 ^ i) (zero-lt-suc 1)))
    ∙ ap (λ (m : ℕ). m % 2) (sym (digit_at s v i l) ∙ ap (λ (x : List ℕ). get_or x i 0) (sym e) ∙ ap (λ (k : ℕ). get_or g k 0) (is i (0 + i * 1) (omega arith)))))

pub scanned_bytes : (s v n r : ℕ) (g : List ℕ) → r ≡ line_cost s (tabulate s (along g 0 1)) → g ≡ digits n v → n ≡ s → r ≡ line_cost s (digits s v)
scanned_bytes s v n r g e f q = e ∙ ap (line_cost s) (bytes_line s v g (f ∙ ap (λ (m : ℕ). digits m v) q))

pub scanned_line : (s v w r : ℕ) → r ≡ line_cost s (digits s w) → w ≡ v / 2 ^ 4 → r ≡ line_cost s (line_of s v)
unfolding line_of
scanned_line s v w r e f = e ∙ ap (λ (m : ℕ). line_cost s (digits s m)) f
