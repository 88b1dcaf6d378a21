-- The field's laws. `double` and `times` are linear in each argument at all numbers, so what is left of each law is a test at the eight powers of two,
-- which is computed. Assumes nothing.
use Rattle.std.specs.Prelude.{◌≡◌, refl, Bool, ℕ, zero, suc, ◌-◌, ◌*◌, ◌/◌, ◌%◌, ◌^◌, ◌<◌, eqb, ltb}
use Rattle.std.proofs.Common.{sym, ap, ap₂, ◌∙◌, zero-lt-suc, mod-lt, zero-mul, one-mul, add-one, arith, shr-shr, eqb→eq, ltb→lt, lit<}
use Rattle.std.specs.Int.Bits.{bit_xor, bit_and, xor_self}
use Rattle.std.proofs.lemmas.Nat.{and_mask, xor_shr, xor_lt}
use Rattle.standard.specs.Field.{double, times_low, times}
use Rattle.laws.specs.Computed.{among, below}
use Rattle.laws.specs.Xor.{xor_half, xor_odd, xor4, xor_dbl, differ_scale, bit_scale, basis_ind}

mod2 : (n : ℕ) → n % 2 < 2
mod2 n = mod-lt n (zero-lt-suc 1)

-- ---- linear

pub double_xor : (a b : ℕ) → double (bit_xor a b) ≡ bit_xor (double a) (double b)
unfolding double
double_xor a b =
    ap₂ bit_xor (xor_dbl a b)
    (ap (λ (x : ℕ). x % 2 * 0x11D) (xor_shr a b 7) ∙ ap (λ (x : ℕ). x * 0x11D) (xor_odd (a / 128) (b / 128))
    ∙ differ_scale (a / 128 % 2) (b / 128 % 2) 0x11D (mod2 (a / 128)) (mod2 (b / 128)))
    ∙ xor4 (a * 2) (b * 2) (a / 128 % 2 * 0x11D) (b / 128 % 2 * 0x11D)

left : (k a b y : ℕ) → times_low k (bit_xor a b) y ≡ bit_xor (times_low k a y) (times_low k b y)
unfolding times_low
left zero a b y = refl
left (suc k) a b y =
    ap₂ bit_xor (ap double (left k a b (y / 2)) ∙ double_xor (times_low k a (y / 2)) (times_low k b (y / 2))) (bit_scale (y % 2) a b (mod2 y))
    ∙ xor4 (double (times_low k a (y / 2))) (double (times_low k b (y / 2))) (y % 2 * a) (y % 2 * b)

right : (k x a b : ℕ) → times_low k x (bit_xor a b) ≡ bit_xor (times_low k x a) (times_low k x b)
unfolding times_low
right zero x a b = refl
right (suc k) x a b =
    ap₂ bit_xor
    (ap (λ (n : ℕ). double (times_low k x n)) (xor_half a b) ∙ ap double (right k x (a / 2) (b / 2)) ∙ double_xor (times_low k x (a / 2)) (times_low k x (b / 2)))
    (ap (λ (n : ℕ). n * x) (xor_odd a b) ∙ differ_scale (a % 2) (b % 2) x (mod2 a) (mod2 b))
    ∙ xor4 (double (times_low k x (a / 2))) (double (times_low k x (b / 2))) (a % 2 * x) (b % 2 * x)

pub times_xor_l : (a b y : ℕ) → times (bit_xor a b) y ≡ bit_xor (times a y) (times b y)
unfolding times
times_xor_l = left 8

pub times_xor_r : (x a b : ℕ) → times x (bit_xor a b) ≡ bit_xor (times x a) (times x b)
unfolding times
times_xor_r = right 8

pub times_zero_l : (y : ℕ) → times 0 y ≡ 0
times_zero_l y = times_xor_l 0 0 y ∙ xor_self (times 0 y)

pub times_zero_r : (x : ℕ) → times x 0 ≡ 0
times_zero_r x = times_xor_r x 0 0 ∙ xor_self (times x 0)

-- ---- bytes

double_test : ℕ → Bool
double_test n = ltb (double n) 256

pub double_lt : (n : ℕ) → n < 256 → double n < 256
unfolding double_test double
double_lt n h = ltb→lt (double n) 256 (below double_test 256 tt n h)

bits_lt : (k a b : ℕ) → a < 256 → times_low k a b < 256
unfolding times_low
bits_lt zero a b h = zero-lt-suc 255
bits_lt (suc k) a b h = xor_lt 8 (double (times_low k a (b / 2))) (b % 2 * a) (double_lt (times_low k a (b / 2)) (bits_lt k a (b / 2) h)) (chosen (b % 2) (mod2 b))
  where
    chosen : (p : ℕ) → p < 2 → p * a < 256
    chosen zero l = omega arith
    chosen (suc zero) l = omega arith
    chosen (suc (suc p)) l = omega arith

pub times_lt : (a b : ℕ) → a < 256 → times a b < 256
unfolding times
times_lt = bits_lt 8

-- ---- the laws, each by a test at powers of two

comm_test : ℕ → ℕ → Bool
comm_test i j = eqb (times (2 ^ i) (2 ^ j)) (times (2 ^ j) (2 ^ i))

comm_all : (i : ℕ) → i < 8 → (j : ℕ) → j < 8 → times (2 ^ i) (2 ^ j) ≡ times (2 ^ j) (2 ^ i)
unfolding comm_test times times_low double
comm_all i hi j hj =
    eqb→eq (times (2 ^ i) (2 ^ j)) (times (2 ^ j) (2 ^ i))
    (below (λ (m : ℕ). comm_test i m) 8 (below (λ (n : ℕ). among 0 8 (λ (m : ℕ). comm_test n m)) 8 tt i hi) j hj)

pub times_comm : (a b : ℕ) → a < 256 → b < 256 → times a b ≡ times b a
times_comm a b ha hb =
    basis_ind (λ (x : ℕ). times x b ≡ times b x) (times_zero_l b ∙ sym (times_zero_r b))
    (λ x y p q. times_xor_l x y b ∙ ap₂ bit_xor p q ∙ sym (times_xor_r b x y)) 8
    (λ i hi. basis_ind (λ (y : ℕ). times (2 ^ i) y ≡ times y (2 ^ i)) (times_zero_r (2 ^ i) ∙ sym (times_zero_l (2 ^ i)))
    (λ x y p q. times_xor_r (2 ^ i) x y ∙ ap₂ bit_xor p q ∙ sym (times_xor_l x y (2 ^ i))) 8 (comm_all i hi) b hb) a ha

-- the product with x: then the product is associative, bit by bit of the last factor
times_double_test : ℕ → ℕ → Bool
times_double_test i j = eqb (times (2 ^ i) (double (2 ^ j))) (double (times (2 ^ i) (2 ^ j)))

times_double_all : (i : ℕ) → i < 8 → (j : ℕ) → j < 8 → times (2 ^ i) (double (2 ^ j)) ≡ double (times (2 ^ i) (2 ^ j))
unfolding times_double_test times times_low double
times_double_all i hi j hj =
    eqb→eq (times (2 ^ i) (double (2 ^ j))) (double (times (2 ^ i) (2 ^ j)))
    (below (λ (m : ℕ). times_double_test i m) 8 (below (λ (n : ℕ). among 0 8 (λ (m : ℕ). times_double_test n m)) 8 tt i hi) j hj)

double_zero : double 0 ≡ 0
unfolding double
double_zero = refl

times_double : (a b : ℕ) → a < 256 → b < 256 → times a (double b) ≡ double (times a b)
times_double a b ha hb =
    basis_ind (λ (x : ℕ). times x (double b) ≡ double (times x b)) (times_zero_l (double b) ∙ sym (ap double (times_zero_l b) ∙ double_zero))
    (λ x y p q. times_xor_l x y (double b) ∙ ap₂ bit_xor p q ∙ sym (ap double (times_xor_l x y b) ∙ double_xor (times x b) (times y b))) 8
    (λ i hi. basis_ind (λ (y : ℕ). times (2 ^ i) (double y) ≡ double (times (2 ^ i) y))
    (ap (times (2 ^ i)) double_zero ∙ times_zero_r (2 ^ i) ∙ sym (ap double (times_zero_r (2 ^ i)) ∙ double_zero))
    (λ x y p q. ap (times (2 ^ i)) (double_xor x y) ∙ times_xor_r (2 ^ i) (double x) (double y) ∙ ap₂ bit_xor p q
    ∙ sym (ap double (times_xor_r (2 ^ i) x y) ∙ double_xor (times (2 ^ i) x) (times (2 ^ i) y))) 8
    (times_double_all i hi) b hb) a ha

bit_times : (p a b : ℕ) → p < 2 → times a (p * b) ≡ p * times a b
bit_times zero a b h = ap (times a) (zero-mul b) ∙ times_zero_r a ∙ sym (zero-mul (times a b))
bit_times (suc zero) a b h = ap (times a) (one-mul b) ∙ sym (one-mul (times a b))
bit_times (suc (suc p)) a b h = omega arith

assoc : (k a b c : ℕ) → a < 256 → b < 256 → times a (times_low k b c) ≡ times_low k (times a b) c
unfolding times_low
assoc zero a b c ha hb = times_zero_r a
assoc (suc k) a b c ha hb =
    let m = times_low k b (c / 2) in
    times_xor_r a (double m) (c % 2 * b)
    ∙ ap₂ bit_xor (times_double a m ha (bits_lt k b (c / 2) hb) ∙ ap double (assoc k a b (c / 2) ha hb)) (bit_times (c % 2) a b (mod2 c))

pub times_assoc : (a b c : ℕ) → a < 256 → b < 256 → times (times a b) c ≡ times a (times b c)
unfolding times
times_assoc a b c ha hb = sym (assoc 8 a b c ha hb)

one_test : ℕ → Bool
one_test i = eqb (times (2 ^ i) 1) (2 ^ i)

one_all : (i : ℕ) → i < 8 → times (2 ^ i) 1 ≡ 2 ^ i
unfolding one_test times times_low double
one_all i h = eqb→eq (times (2 ^ i) 1) (2 ^ i) (below one_test 8 tt i h)

pub times_one_r : (a : ℕ) → a < 256 → times a 1 ≡ a
times_one_r a h = basis_ind (λ (x : ℕ). times x 1 ≡ x) (times_zero_l 1) (λ x y p q. times_xor_l x y 1 ∙ ap₂ bit_xor p q) 8 one_all a h

pub times_one_l : (a : ℕ) → a < 256 → times 1 a ≡ a
times_one_l a h = times_comm 1 a (lit< tt) h ∙ times_one_r a h

-- ---- as the code has it: in eight bits the top bit is shifted out, and 1D (hex) is what is left of the modulus
byte_test : ℕ → Bool
byte_test n = eqb (bit_xor (n * 2 % 256) (n / 128 * 29)) (double n)

pub double_byte : (n : ℕ) → n < 256 → bit_xor (n * 2 % 256) (n / 128 * 29) ≡ double n
unfolding byte_test double
double_byte n h = eqb→eq (bit_xor (n * 2 % 256) (n / 128 * 29)) (double n) (below byte_test 256 tt n h)

pub bit_lt : (p a : ℕ) → p < 2 → a < 256 → p * a < 256
bit_lt zero a l h = omega arith
bit_lt (suc zero) a l h = omega arith
bit_lt (suc (suc p)) a l h = omega arith

-- a turn of the loop takes in bit j of y
pub turn : (x y z d j : ℕ) → j < 8 → d ≡ double z → z ≡ times_low (8 - suc j) x (y / 2 ^ suc j)
    → bit_xor d (bit_and (y / 2 ^ j) 1 * x) ≡ times_low (8 - j) x (y / 2 ^ j)
unfolding times_low
turn x y z d j hj hd e =
    ap₂ (λ (u v : ℕ). bit_xor u (v * x)) (hd ∙ ap double (e ∙ ap (times_low (8 - suc j) x) (ap (λ (k : ℕ). y / 2 ^ k) (sym (add-one j)) ∙ sym (shr-shr y j 1)))) (and_mask (y / 2 ^ j) 1)
    ∙ ap (λ (k : ℕ). times_low k x (y / 2 ^ j)) eight
  where
    eight : suc (8 - suc j) ≡ 8 - j
    eight = omega arith
