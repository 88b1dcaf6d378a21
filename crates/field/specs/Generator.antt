-- The generator: its length, its bytes, its highest coefficient, and how the code makes it.
-- Assumes nothing.
use Rattle.std.specs.Prelude.{◌≡◌, refl, List, [], ◌∷◌, ◌++◌, ℕ, zero, suc, ◌+◌, ◌-◌, ◌≤◌, ◌<◌, length, get_or, set, take, drop}
use Rattle.std.proofs.Common.{sym, ap, ap₂, ◌∙◌, subst, append-nil, le_of_suc-le-suc, not-suc-le-zero, zero-lt-suc, add_comm, add-one, arith, length-append, length-drop, take_at, drop_at, drop-drop, lit<}
use Rattle.std.proofs.Math.Nat.{suc_inj}
use Rattle.std.proofs.lemmas.List.{length-replicate, set-get_or, get_or_at, drop-append-le}
use Rattle.std.proofs.Math.ListN.{get_or-eq_default}
use Rattle.std.specs.Int.Bits.{bit_xor, xor_zero_r}
use Rattle.std.proofs.lemmas.Nat.{xor_comm}
use Rattle.standard.specs.Field.{times, power, Bytes, zeros, plus, scale, product, generator, divisor}
use Rattle.laws.specs.Front.{front, front_suc, front_all, front_rest}
use Rattle.laws.specs.Lists.{bytes_append}
use Rattle.field.specs.Times.{times_zero_l}
use Rattle.field.specs.Polynomials.{length_plus, length_scale, length_snoc, bytes_plus, bytes_scale, plus_zeros_r, scale_one}

-- p (x - r)
unfoldable pub by_root : ℕ → List ℕ → List ℕ
by_root r p = plus (p ++ (0 ∷ [])) (0 ∷ scale r p)

product_one : (r : ℕ) (p : List ℕ) → 0 < length p → product (r ∷ []) p ≡ scale r p
unfolding product
product_one r [] h = absurd (not-suc-le-zero h)
product_one r (a ∷ p) h =
    ap (λ (x : List ℕ). plus x (0 ∷ zeros (length p))) (append-nil (scale r (a ∷ p)))
    ∙ ap (λ (n : ℕ). plus (scale r (a ∷ p)) (zeros n)) (sym (length_scale r (a ∷ p))) ∙ plus_zeros_r (scale r (a ∷ p))

product_root : (r : ℕ) (p : List ℕ) → 0 < length p → Bytes p → product (1 ∷ r ∷ []) p ≡ by_root r p
unfolding product by_root
product_root r p h b = ap₂ (λ (x y : List ℕ). plus (x ++ (0 ∷ [])) (0 ∷ y)) (scale_one p b) (product_one r p h)

length_by_root : (r : ℕ) (p : List ℕ) → length (by_root r p) ≡ suc (length p)
unfolding by_root
length_by_root r p = length_plus (p ++ (0 ∷ [])) (0 ∷ scale r p) (length_snoc p 0 ∙ ap suc (sym (length_scale r p))) ∙ length_snoc p 0

bytes_by_root : (r : ℕ) (p : List ℕ) → Bytes p → Bytes (by_root r p)
unfolding by_root
bytes_by_root r p h = bytes_plus (p ++ (0 ∷ [])) (0 ∷ scale r p) (bytes_append p (0 ∷ []) h (zero-lt-suc 255, tt)) (zero-lt-suc 255, bytes_scale r p h)

-- ---- the generator's length, its bytes and its highest coefficient

whole : (d : ℕ) → (length (generator d) ≡ suc d) × Bytes (generator d)
unfolding generator
whole zero = (refl, (lit< tt, tt))
whole (suc d) =
    let w = whole d in
    let e : product (1 ∷ power d ∷ []) (generator d) ≡ by_root (power d) (generator d) = product_root (power d) (generator d) (omega (arith, w.0)) w.1 in
    (ap length e ∙ length_by_root (power d) (generator d) ∙ ap suc w.0, subst Bytes (sym e) (bytes_by_root (power d) (generator d) w.1))

pub length_generator : (d : ℕ) → length (generator d) ≡ suc d
length_generator d = (whole d).0

pub bytes_generator : (d : ℕ) → Bytes (generator d)
bytes_generator d = (whole d).1

generator_suc : (d : ℕ) → generator (suc d) ≡ by_root (power d) (generator d)
unfolding generator
generator_suc d = product_root (power d) (generator d) (omega (arith, length_generator d)) (bytes_generator d)

pub monic : (d : ℕ) → generator d ≡ 1 ∷ drop 1 (generator d)
unfolding generator by_root plus
monic zero = refl
monic (suc d) =
    let e : generator (suc d) ≡ by_root (power d) (1 ∷ drop 1 (generator d)) = generator_suc d ∙ ap (by_root (power d)) (monic d) in
    e ∙ ap (λ (l : List ℕ). 1 ∷ drop 1 l) (sym e)

-- the divisor is the generator without that coefficient
pub divisor_generator : (d : ℕ) → 1 ∷ divisor d ≡ generator d
unfolding divisor
divisor_generator d = sym (monic d)

pub length_divisor : (d : ℕ) → length (divisor d) ≡ d
length_divisor d = suc_inj (ap length (divisor_generator d) ∙ length_generator d)

pub bytes_divisor : (d : ℕ) → Bytes (divisor d)
bytes_divisor d = (subst Bytes (sym (divisor_generator d)) (bytes_generator d)).1

-- ---- a turn of the code: p (x - r) without its highest coefficient, which is p's

unfoldable pub times_root : ℕ → List ℕ → List ℕ
times_root r [] = []
times_root r (a ∷ p) = bit_xor (times a r) (get_or p 0 0) ∷ times_root r p

pub length_times_root : (r : ℕ) (p : List ℕ) → length (times_root r p) ≡ length p
unfolding times_root
length_times_root r [] = refl
length_times_root r (a ∷ p) = ap suc (length_times_root r p)

pub get_d_times_root : (r : ℕ) (p : List ℕ) (j : ℕ) → j < length p → get_or (times_root r p) j 0 ≡ bit_xor (times (get_or p j 0) r) (get_or p (j + 1) 0)
unfolding times_root
get_d_times_root r [] j h = absurd (not-suc-le-zero h)
get_d_times_root r (a ∷ p) zero h = refl
get_d_times_root r (a ∷ p) (suc j) h =
    let e : suc (j + 1) ≡ suc j + 1 = omega arith in
    get_d_times_root r p j (le_of_suc-le-suc h) ∙ ap (λ (k : ℕ). bit_xor (times (get_or p j 0) r) (get_or (a ∷ p) k 0)) e

-- a zero after the coefficients stays
pub front_times_root : (r n : ℕ) (p : List ℕ) → length p ≡ n + 1 → get_or p n 0 ≡ 0 → front n (times_root r p) p ≡ times_root r p
front_times_root r n p h z =
    let s = times_root r p in
    let q = front n s p in
    let l : length s ≡ length p = length_times_root r p in
    let old : get_or q n 0 ≡ 0 = front_rest s p n n (omega arith) (omega arith) ∙ z in
    let new : get_or s n 0 ≡ 0
    = get_d_times_root r p n (omega arith) ∙ ap₂ bit_xor (ap (λ (x : ℕ). times x r) z ∙ times_zero_l r) (get_or-eq_default p 0 {n = n + 1} (omega arith)) in
    sym (set-get_or q n 0) ∙ front_suc s p n (get_or q n 0) l (omega arith) (old ∙ sym new) ∙ front_all s p (n + 1) l (omega arith)

drop_by_root : (r a : ℕ) (q : List ℕ) → plus (q ++ (0 ∷ [])) (times a r ∷ scale r q) ≡ times_root r (a ∷ q)
unfolding plus scale times_root
drop_by_root r a [] = ap (λ (x : ℕ). x ∷ []) (sym (xor_zero_r (times a r)))
drop_by_root r a (b ∷ q) = ap₂ (λ (x : ℕ) (l : List ℕ). x ∷ l) (xor_comm b (times a r)) (drop_by_root r b q)

by_root_zeros : (r m : ℕ) (p : List ℕ) → by_root r (zeros m ++ p) ≡ zeros m ++ by_root r p
unfolding by_root plus scale
by_root_zeros r zero p = refl
by_root_zeros r (suc m) p =
    ap (λ (x : ℕ). 0 ∷ plus (zeros m ++ p ++ (0 ∷ [])) (x ∷ scale r (zeros m ++ p))) (times_zero_l r) ∙ ap (λ (l : List ℕ). 0 ∷ l) (by_root_zeros r m p)

times_root_by_root : (r : ℕ) (p : List ℕ) → 0 < length p → times_root r p ≡ drop 1 (by_root r p)
unfolding by_root plus scale
times_root_by_root r [] h = absurd (not-suc-le-zero h)
times_root_by_root r (a ∷ q) h = sym (drop_by_root r a q)

-- what the code has after i turns of n: the n lower coefficients of the generator of degree i, with zeros above
partial : ℕ → ℕ → List ℕ
partial m i = drop 1 (zeros m ++ generator i)

partial_suc : (m i : ℕ) → times_root (power i) (partial (suc m) i) ≡ partial m (suc i)
unfolding partial
partial_suc m i =
    times_root_by_root (power i) (zeros m ++ generator i) (omega (arith, length-append (zeros m) (generator i), length_generator i))
    ∙ ap (drop 1) (by_root_zeros (power i) m (generator i) ∙ ap (λ (l : List ℕ). zeros m ++ l) (sym (generator_suc i)))

turn : (n i : ℕ) → i < n → times_root (power i) (partial (n - i) i) ≡ partial (n - (i + 1)) (i + 1)
turn n i h =
    let p : n - i ≡ suc (n - (i + 1)) = omega arith in
    ap (λ (k : ℕ). times_root (power i) (partial k i)) p ∙ partial_suc (n - (i + 1)) i ∙ ap (partial (n - (i + 1))) (sym (add-one i))

pub power_suc : (i : ℕ) → times (power i) 2 ≡ power (i + 1)
unfolding power
power_suc i = ap power (sym (add-one i))

-- ---- the code's start, turn and end: 32 coefficients, and a zero after them

pub wide_at : ℕ → List ℕ
wide_at i = partial (32 - i) i ++ (0 ∷ [])

length_partial : (m i : ℕ) → length (partial m i) ≡ m + i
unfolding partial
length_partial m i =
    length-drop 1 (zeros m ++ generator i) ∙ omega (arith, length-append (zeros m) (generator i), length-replicate {A = ℕ} m 0, length_generator i)

length_32 : (i : ℕ) → i ≤ 32 → length (partial (32 - i) i) ≡ 32
length_32 i h = length_partial (32 - i) i ∙ omega arith

pub wide_start : set (zeros 33) 31 1 ≡ wide_at 0
unfolding wide_at partial generator
wide_start = refl

pub wide_length : (i : ℕ) (w : List ℕ) → w ≡ wide_at i → i ≤ 32 → length w ≡ 33
unfolding wide_at
wide_length i w e h = ap length e ∙ length-append (partial (32 - i) i) (0 ∷ []) ∙ omega (arith, length_32 i h)

pub wide_last : (i : ℕ) (w : List ℕ) → w ≡ wide_at i → i ≤ 32 → get_or w 32 0 ≡ 0
unfolding wide_at
wide_last i w e h = ap (λ (l : List ℕ). get_or l 32 0) e ∙ get_or_at (partial (32 - i) i) 0 [] 0 32 (length_32 i h)

times_root_zero : (r : ℕ) (p : List ℕ) → times_root r (p ++ (0 ∷ [])) ≡ times_root r p ++ (0 ∷ [])
unfolding times_root
times_root_zero r [] = ap (λ (x : ℕ). bit_xor x 0 ∷ []) (times_zero_l r)
times_root_zero r (a ∷ []) = ap (λ (l : List ℕ). bit_xor (times a r) 0 ∷ l) (times_root_zero r [])
times_root_zero r (a ∷ b ∷ p) = ap (λ (l : List ℕ). bit_xor (times a r) b ∷ l) (times_root_zero r (b ∷ p))

pub wide_turn : (i : ℕ) (w : List ℕ) → w ≡ wide_at i → i < 32 → times_root (power i) w ≡ wide_at (i + 1)
unfolding wide_at
wide_turn i w e h =
    ap (times_root (power i)) e ∙ times_root_zero (power i) (partial (32 - i) i) ∙ ap (λ (l : List ℕ). l ++ (0 ∷ [])) (turn 32 i h)

-- the last d of the coefficients
pub wide_end : (d : ℕ) (w : List ℕ) → w ≡ wide_at d → d ≤ 32 → take (32 - (32 - d)) (drop (32 - d) w) ≡ divisor d
unfolding wide_at partial divisor
wide_end d w e h =
    let m = 32 - d in
    let p = partial m d in
    let z : 32 - m ≡ d = omega arith in
    let f : drop m p ≡ drop 1 (generator d)
    = drop-drop m 1 (zeros m ++ generator d) ∙ ap (λ (k : ℕ). drop k (zeros m ++ generator d)) (add_comm 1 m)
    ∙ sym (drop-drop 1 m (zeros m ++ generator d)) ∙ ap (drop 1) (drop_at (zeros m) (generator d) m (length-replicate {A = ℕ} m 0)) in
    ap (λ (l : List ℕ). take (32 - m) (drop m l)) e ∙ ap (take (32 - m)) (drop-append-le m p (0 ∷ []) (omega (arith, length_32 d h)))
    ∙ take_at (drop m p) (0 ∷ []) (32 - m) (length-drop m p ∙ omega (arith, length_32 d h)) ∙ f
