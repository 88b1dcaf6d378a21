-- Long division leaves the check bytes: data and remainder together are a multiple of the divisor, and no other check bytes are.
-- Assumes nothing.
use Rattle.std.specs.Prelude.{◌≡◌, refl, ◌↔◌, ℕ, suc, ◌+◌, ◌<◌, length, get_or, take}
use Rattle.std.proofs.Common.{sym, ap, ap₂, ◌∙◌, subst, zero-lt-suc, not-suc-le-zero, add-one, arith, length-append, take-suc}
use mathlib.Core.List.{List, [], ◌∷◌, ◌++◌, append-nil, head-eq_of_cons-eq, tail-eq_of_cons-eq}
use Rattle.std.proofs.lemmas.List.{length-replicate, replicate-append-replicate}
use Rattle.std.proofs.Math.Seq.{append_snoc}
use Rattle.std.specs.Int.Bits.{bit_xor, xor_zero_r}
use Rattle.std.proofs.lemmas.Nat.{xor_lt}
use Rattle.standard.specs.Field.{times, Bytes, zeros, plus, scale, product, Divisible, generator, step, divide, remainder, divisor, check}
use Rattle.laws.specs.Lists.{bytes_append}
use Rattle.field.specs.Times.{times_one_l}
use Rattle.field.specs.Polynomials.{length_plus, length_scale, length_snoc, get_d_plus, get_d_scale, get_d_snoc0, bytes_plus, bytes_scale, bytes_zeros, cons, plus_zeros_r, plus_zeros_l, plus_self, plus_zz, plus_cancel, plus_assoc, plus_append, plus_eq_zero, scale_zero, length_product, product_plus}
use Rattle.field.specs.Generator.{divisor_generator, length_divisor, bytes_divisor}

-- ---- lengths and coefficients of a step

pub length_step : (g r : List ℕ) (b : ℕ) → length r ≡ length g → length (step g r b) ≡ length r
unfolding step
length_step g [] b e = refl
length_step g (h ∷ t) b e =
    length_plus (t ++ (0 ∷ [])) (scale (bit_xor b h) g) (length_snoc t 0 ∙ e ∙ sym (length_scale (bit_xor b h) g)) ∙ length_snoc t 0

pub length_divide : (g r p : List ℕ) → length r ≡ length g → length (divide g r p) ≡ length g
unfolding divide
length_divide g r [] e = e
length_divide g r (b ∷ p) e = length_divide g (step g r b) p (length_step g r b e ∙ e)

pub divide_snoc : (g r p : List ℕ) (b : ℕ) → divide g r (p ++ (b ∷ [])) ≡ step g (divide g r p) b
unfolding divide
divide_snoc g r [] b = refl
divide_snoc g r (a ∷ p) b = divide_snoc g (step g r a) p b

-- as the code has it
pub get_d_step : (g r : List ℕ) (b j : ℕ) → 0 < length r → length r ≡ length g
    → get_or (step g r b) j 0 ≡ bit_xor (get_or r (j + 1) 0) (times (get_or g j 0) (bit_xor b (get_or r 0 0)))
unfolding step
get_d_step g [] b j h e = absurd (not-suc-le-zero h)
get_d_step g (x ∷ t) b j h e =
    get_d_plus (t ++ (0 ∷ [])) (scale (bit_xor b x) g) j (length_snoc t 0 ∙ e ∙ sym (length_scale (bit_xor b x) g))
    ∙ ap₂ bit_xor (get_d_snoc0 t j ∙ ap (λ (k : ℕ). get_or (x ∷ t) k 0) (sym (add-one j))) (get_d_scale (bit_xor b x) g j)

pub remainder_suc : (g d : List ℕ) (i : ℕ) → i < length d → remainder g (take (i + 1) d) ≡ step g (remainder g (take i d)) (get_or d i 0)
unfolding remainder
remainder_suc g d i h =
    ap (remainder g) (ap (λ (k : ℕ). take k d) (add-one i) ∙ take-suc d i 0 h) ∙ divide_snoc g (zeros (length g)) (take i d) (get_or d i 0)

pub length_remainder : (g p : List ℕ) → length (remainder g p) ≡ length g
unfolding remainder
length_remainder g p = length_divide g (zeros (length g)) p (length-replicate (length g) 0)

-- ---- the quotient

unfoldable pub quotient : List ℕ → List ℕ → List ℕ → List ℕ
quotient g r [] = []
quotient g r (b ∷ p) = bit_xor b (get_or r 0 0) ∷ quotient g (step g r b) p

length_quotient : (g r p : List ℕ) → length (quotient g r p) ≡ length p
unfolding quotient
length_quotient g r [] = refl
length_quotient g r (b ∷ p) = ap suc (length_quotient g (step g r b) p)

bytes_step : (g r : List ℕ) (b : ℕ) → Bytes g → Bytes r → Bytes (step g r b)
unfolding step
bytes_step g [] b hg hr = tt
bytes_step g (h ∷ t) b hg hr =
    bytes_plus (t ++ (0 ∷ [])) (scale (bit_xor b h) g) (bytes_append t (0 ∷ []) hr.1 (zero-lt-suc 255, tt)) (bytes_scale (bit_xor b h) g hg)

pub bytes_divide : (g r p : List ℕ) → Bytes g → Bytes r → Bytes (divide g r p)
unfolding divide
bytes_divide g r [] hg hr = hr
bytes_divide g r (b ∷ p) hg hr = bytes_divide g (step g r b) p hg (bytes_step g r b hg hr)

pub head_lt : (r : List ℕ) → Bytes r → get_or r 0 0 < 256
head_lt [] h = zero-lt-suc 255
head_lt (a ∷ r) h = h.0

bytes_quotient : (g r p : List ℕ) → Bytes g → Bytes r → Bytes p → Bytes (quotient g r p)
unfolding quotient
bytes_quotient g r [] hg hr hp = tt
bytes_quotient g r (b ∷ p) hg hr hp =
    (xor_lt 8 b (get_or r 0 0) hp.0 (head_lt r hr), bytes_quotient g (step g r b) p hg (bytes_step g r b hg hr) hp.1)

-- a multiple of x^d + g by its highest coefficient
product_cons : (f : ℕ) (q g : List ℕ) → f < 256
    → product (f ∷ q) (1 ∷ g) ≡ f ∷ plus (scale f g ++ zeros (length q)) (product q (1 ∷ g))
unfolding product plus scale
product_cons f q g h = ap (λ (x : ℕ). x ∷ plus (scale f g ++ zeros (length q)) (product q (1 ∷ g))) (xor_zero_r (times 1 f) ∙ times_one_l f h)

-- one step: the multiple f (x^d + g) that is taken away comes back in the product
taken : (g t xs ps : List ℕ) (f n : ℕ) → suc (length t) ≡ length g → length xs ≡ n + length g
    → plus xs (plus (t ++ (0 ∷ [])) (scale f g) ++ zeros n) ≡ ps
    → plus xs (t ++ (0 ∷ zeros n)) ≡ plus (scale f g ++ zeros n) ps
taken g t xs ps f n ht hx e =
    let s = scale f g ++ zeros n in
    let u = t ++ (0 ∷ zeros n) in
    let ls : length s ≡ n + length g = length-append (scale f g) (zeros n) ∙ omega (arith, length_scale f g, length-replicate {A = ℕ} n 0) in
    let lu : length u ≡ n + length g = length-append t (0 ∷ zeros n) ∙ omega (arith, length-replicate {A = ℕ} n 0) in
    let split : plus (t ++ (0 ∷ [])) (scale f g) ++ zeros n ≡ plus u s
    = ap (λ (l : List ℕ). plus (t ++ (0 ∷ [])) (scale f g) ++ l) (sym (plus_zz n))
    ∙ sym (plus_append (t ++ (0 ∷ [])) (zeros n) (scale f g) (zeros n) (length_snoc t 0 ∙ ht ∙ sym (length_scale f g)))
    ∙ ap (λ (l : List ℕ). plus l s) (append_snoc t 0 (zeros n)) in
    sym (plus_cancel s (plus xs u) (length_plus xs u (hx ∙ sym lu) ∙ hx ∙ sym ls))
    ∙ ap (plus s) (plus_assoc xs u s ∙ ap (plus xs) (sym split) ∙ e)

-- what has been taken in, with the remainder so far, is the quotient's multiple
divided : (g r p : List ℕ) → Bytes g → Bytes r → Bytes p → length r ≡ length g → 0 < length g
    → plus (p ++ divide g r p) (r ++ zeros (length p)) ≡ product (quotient g r p) (1 ∷ g)
unfolding divide quotient product plus step
divided g r [] hg hr hp e h = ap (plus r) (append-nil r) ∙ plus_self r ∙ ap zeros e
divided g [] (b ∷ p) hg hr hp e h = absurd (omega (arith, e))
divided g (x ∷ t) (b ∷ p) hg hr hp e h =
    let r : List ℕ = step g (x ∷ t) b in
    let hb : Bytes r = bytes_step g (x ∷ t) b hg hr in
    let lr : length r ≡ length g = length_step g (x ∷ t) b e ∙ e in
    let q : List ℕ = quotient g r p in
    let lx : length (p ++ divide g r p) ≡ length p + length g = length-append p (divide g r p) ∙ ap (λ (n : ℕ). length p + n) (length_divide g r p lr) in
    cons refl (taken g t (p ++ divide g r p) (product q (1 ∷ g)) (bit_xor b x) (length p) e lx (divided g r p hg hb hp.1 lr h)
    ∙ ap (λ (n : ℕ). plus (scale (bit_xor b x) g ++ zeros n) (product q (1 ∷ g))) (sym (length_quotient g r p)))
    ∙ sym (product_cons (bit_xor b x) q g (xor_lt 8 b x hp.0 hr.0))

-- data and check bytes are divisible
pub remainder_divisible : (g p : List ℕ) → Bytes g → Bytes p → 0 < length g → Divisible (1 ∷ g) (p ++ remainder g p)
unfolding remainder
remainder_divisible g p hg hp h =
    let z = zeros (length g) in
    let lz : length z ≡ length g = length-replicate {A = ℕ} (length g) 0 in
    let x = p ++ divide g z p in
    let lx : length x ≡ length p + length g = length-append p (divide g z p) ∙ ap (λ (n : ℕ). length p + n) (length_divide g z p lz) in
    let n : length g + length p ≡ length x = omega arith in
    let pad : z ++ zeros (length p) ≡ zeros (length x) = replicate-append-replicate (length g) (length p) 0 ∙ ap zeros n in (
      quotient g z p,
      bytes_quotient g z p hg (bytes_zeros (length g)) hp,
      sym (plus_zeros_r x) ∙ ap (plus x) (sym pad) ∙ divided g z p hg (bytes_zeros (length g)) hp lz h,
    )

-- ---- and no others: a multiple whose upper coefficients are 0 is 0

low : (g q e : List ℕ) → Bytes q → product q (1 ∷ g) ≡ zeros (length q) ++ e → e ≡ zeros (length g)
unfolding product
low g [] e hq h = sym h
low g (a ∷ q) e hq h =
    let m : product (a ∷ q) (1 ∷ g) ≡ a ∷ plus (scale a g ++ zeros (length q)) (product q (1 ∷ g)) = product_cons a q g hq.0 in
    let k : a ∷ plus (scale a g ++ zeros (length q)) (product q (1 ∷ g)) ≡ 0 ∷ (zeros (length q) ++ e) = sym m ∙ h in
    let a0 : a ≡ 0 = head-eq_of_cons-eq k in
    let s : scale a g ++ zeros (length q) ≡ zeros (length g + length q)
    = ap (λ (l : List ℕ). l ++ zeros (length q)) (ap (λ (x : ℕ). scale x g) a0 ∙ scale_zero g) ∙ replicate-append-replicate (length g) (length q) 0 in
    low g q e hq.1
    (sym (ap (λ (l : List ℕ). plus l (product q (1 ∷ g))) s ∙ plus_zeros_l (length g + length q) (product q (1 ∷ g)) (omega (arith, length_product q g 1)))
    ∙ tail-eq_of_cons-eq k)

pub check_unique : (g p c d : List ℕ) → length c ≡ length g → length d ≡ length g
    → Divisible (1 ∷ g) (p ++ c) → Divisible (1 ∷ g) (p ++ d) → c ≡ d
check_unique g p c d hc hd u v =
    let lq : length u.0 ≡ length p = omega (arith, ap length u.2, length-append p c, length_product u.0 g 1) in
    let lr : length v.0 ≡ length p = omega (arith, ap length v.2, length-append p d, length_product v.0 g 1) in
    let w = plus u.0 v.0 in
    let lw : length w ≡ length p = length_plus u.0 v.0 (lq ∙ sym lr) ∙ lq in
    let e : product w (1 ∷ g) ≡ zeros (length w) ++ plus c d
    = sym (product_plus u.0 v.0 g 1 (lq ∙ sym lr)) ∙ sym (ap₂ plus u.2 v.2) ∙ plus_append p c p d refl
    ∙ ap (λ (l : List ℕ). l ++ plus c d) (plus_self p ∙ ap zeros (sym lw)) in
    plus_eq_zero c d (hc ∙ sym hd) (low g w (plus c d) (bytes_plus u.0 v.0 u.1 v.1) e ∙ ap zeros (sym hc))

pub bytes_remainder : (g p : List ℕ) → Bytes g → Bytes (remainder g p)
unfolding remainder
bytes_remainder g p hg = bytes_divide g (zeros (length g)) p hg (bytes_zeros (length g))

-- ---- check bytes: division by the generator of degree d

-- what the code's division by the divisor leaves
pub remainder_check : (d : ℕ) (p : List ℕ) → remainder (divisor d) p ≡ check d p
unfolding check
remainder_check d p = refl

pub length_check : (d : ℕ) (p : List ℕ) → length (check d p) ≡ d
unfolding check
length_check d p = length_remainder (divisor d) p ∙ length_divisor d

pub bytes_check : (d : ℕ) (p : List ℕ) → Bytes (check d p)
unfolding check
bytes_check d p = bytes_remainder (divisor d) p (bytes_divisor d)

-- a block, data then check bytes, is divisible by the generator
pub codeword : (d : ℕ) (p : List ℕ) → 0 < d → Bytes p → Divisible (generator d) (p ++ check d p)
unfolding check
codeword d p h hp =
    subst (λ (g : List ℕ). Divisible g (p ++ remainder (divisor d) p)) (divisor_generator d)
    (remainder_divisible (divisor d) p (bytes_divisor d) hp (omega (arith, length_divisor d)))

-- no other d bytes make it so
pub only_codeword : (d : ℕ) (p u v : List ℕ) → length u ≡ d → length v ≡ d
    → Divisible (generator d) (p ++ u) → Divisible (generator d) (p ++ v) → u ≡ v
only_codeword d p u v hu hv x y =
    let ld = sym (length_divisor d) in
    let g = sym (divisor_generator d) in
    check_unique (divisor d) p u v (hu ∙ ld) (hv ∙ ld) (subst (λ (g : List ℕ). Divisible g (p ++ u)) g x) (subst (λ (g : List ℕ). Divisible g (p ++ v)) g y)

-- so a block is divisible exactly where its last d bytes are the check bytes of the others
pub divisible_test : (d : ℕ) (p u : List ℕ) → 0 < d → Bytes p → length u ≡ d
    → Divisible (generator d) (p ++ u) ↔ (u ≡ check d p)
divisible_test d p u h hp hu =
    let m : Divisible (generator d) (p ++ check d p) = codeword d p h hp in (
      (λ x. only_codeword d p u (check d p) hu (length_check d p) x m),
      (λ r. subst (λ (l : List ℕ). Divisible (generator d) (p ++ l)) (sym r) m),
    )
