-- Multiples of a polynomial in rows of 32 coefficients, and the step of long division that reads them: the product by a byte is the sum
-- of the products by its two halves. Assumes nothing.
use Rattle.std.specs.Prelude.{◌≡◌, refl, Bool, List, [], ◌∷◌, ◌++◌, ℕ, zero, suc, ◌+◌, ◌-◌, ◌*◌, ◌/◌, ◌%◌, ◌^◌, ◌≤◌, ◌<◌, eqb, set, take}
use Rattle.std.proofs.Math.Path.{sym, ap}
use Rattle.std.proofs.Common.{ap₂, ◌∙◌, subst, zero-mul, pow-suc, eqb→eq, lit<, length-append, length-drop, ext_get_or, get_or-take, length-take-le, take_all, take_at, drop_at, take-suc, take-suc-set}
use native.Mathlib.Omega.{arith}
use Rattle.std.proofs.Math.Arith.{digits_div, digits_mod}
use Rattle.std.specs.Int.Bits.{bit_xor, xor_shifted}
use Rattle.std.proofs.lemmas.Nat.{xor_comm, xor_lt}
use Rattle.std.proofs.Math.ListN.{length, get_or, drop, get_or-append, get_or-eq_default}
use Rattle.std.proofs.lemmas.List.{length-replicate, replicate-append-replicate}
use Rattle.std.proofs.Math.Seq.{get_or-drop, get_or-append-add}
use Rattle.standard.specs.Numbers.{tabulate}
use Rattle.standard.specs.Field.{double, times_low, times, zeros, scale, step, divide, remainder}
use Rattle.laws.specs.Computed.{below}
use Rattle.laws.specs.Front.{front, front_rest, front_suc, front_all}
use Rattle.laws.specs.Lists.{from_cong, length_tabulate, get_d_tabulate, zeros_at}
use Rattle.laws.specs.Tests.{split}
use Rattle.laws.specs.Xor.{xor_assoc}
use Rattle.field.specs.Times.{times_xor_r, times_zero_r, times_assoc}
use Rattle.field.specs.Polynomials.{get_d_scale, length_scale, bytes_of}
use Rattle.field.specs.Division.{get_d_step, length_step, head_lt, bytes_remainder, length_remainder, remainder_suc}

-- 0 to 15 times p, a row of 32 coefficients each
unfoldable pub multiples_of : List ℕ → List ℕ
multiples_of p = tabulate 512 (λ k. times (get_or p (k % 32) 0) (k / 32))

-- those of a divisor, and those of 16 times it
abbrev pub Tables : List ℕ → List ℕ → List ℕ → Type 0
Tables g low high = (low ≡ multiples_of g) × (high ≡ multiples_of (scale 16 g))

pub length_multiples : (p : List ℕ) → length (multiples_of p) ≡ 512
unfolding multiples_of
length_multiples p = length_tabulate 512 (λ k. times (get_or p (k % 32) 0) (k / 32))

-- coefficient j of row n
pub get_d_multiples : (p : List ℕ) (n j : ℕ) → n < 16 → j < 32 → get_or (multiples_of p) (n * 32 + j) 0 ≡ times (get_or p j 0) n
unfolding multiples_of
get_d_multiples p n j hn hj =
    get_d_tabulate 512 (λ k. times (get_or p (k % 32) 0) (k / 32)) (n * 32 + j) 0 (omega arith)
    ∙ ap₂ (λ (i m : ℕ). times (get_or p i 0) m) (digits_mod n hj) (digits_div n hj)

-- ---- two lists have the same coefficients, however many zeros follow

abbrev pub Alike : List ℕ → List ℕ → Type 0
Alike p q = (j : ℕ) → get_or p j 0 ≡ get_or q j 0

multiples_alike : (p q : List ℕ) → Alike p q → multiples_of p ≡ multiples_of q
unfolding multiples_of
multiples_alike p q h =
    from_cong 0 512 (λ k. times (get_or p (k % 32) 0) (k / 32)) (λ k. times (get_or q (k % 32) 0) (k / 32))
    (λ k l b. ap (λ (x : ℕ). times x (k / 32)) (h (k % 32)))

pub zeros_alike : (m n : ℕ) → Alike (zeros m) (zeros n)
zeros_alike m n j = zeros_at m j ∙ sym (zeros_at n j)

with_zeros : (p : List ℕ) (n : ℕ) → Alike (p ++ zeros n) p
with_zeros [] n j = zeros_at n j
with_zeros (a ∷ p) n zero = refl
with_zeros (a ∷ p) n (suc j) = with_zeros p n j

drop_zeros : (m n : ℕ) → m ≤ n → drop m (zeros n) ≡ zeros (n - m)
drop_zeros m n h =
    let e : n ≡ m + (n - m) = omega arith in
    ap (drop m) (ap zeros e ∙ sym (replicate-append-replicate m (n - m) 0)) ∙ drop_at (zeros m) (zeros (n - m)) m (length-replicate {A = ℕ} m 0)

-- p with zeros after it, in a row of 32
unfoldable pub wide : List ℕ → List ℕ
wide p = p ++ zeros (32 - length p)

wide_alike : (p : List ℕ) → Alike (wide p) p
unfolding wide
wide_alike p = with_zeros p (32 - length p)

length_wide : (p : List ℕ) → length p ≤ 32 → length (wide p) ≡ 32
unfolding wide
length_wide p h = length-append p (zeros (32 - length p)) ∙ omega (arith, length-replicate {A = ℕ} (32 - length p) 0)

-- as the code has it: p written over the start of 32 zeros
pub wide_written : (p o : List ℕ) → o ≡ p → length p ≤ 32 → o ++ drop (length p) (zeros 32) ≡ wide p
unfolding wide
wide_written p o e few = ap₂ (λ (a b : List ℕ). a ++ b) e (drop_zeros (length p) 32 few)

-- c times that, coefficient by coefficient
unfoldable pub padded : ℕ → List ℕ → List ℕ
padded c p = scale c p ++ zeros (32 - length p)

pub padded_alike : (c : ℕ) (p : List ℕ) → Alike (padded c p) (scale c p)
unfolding padded
padded_alike c p = with_zeros (scale c p) (32 - length p)

pub length_padded : (c : ℕ) (p : List ℕ) → length p ≤ 32 → length (padded c p) ≡ 32
unfolding padded
length_padded c p h =
    length-append (scale c p) (zeros (32 - length p)) ∙ omega (arith, length_scale c p, length-replicate {A = ℕ} (32 - length p) 0)

pub padded_turn : (c : ℕ) (p o : List ℕ) (j v : ℕ) → o ≡ front j (padded c p) (wide p) → length p ≤ 32 → j < 32 → v ≡ times (get_or o j 0) c
    → set o j v ≡ front (j + 1) (padded c p) (wide p)
padded_turn c p o j v e few h q =
    let same : length (padded c p) ≡ length (wide p) = length_padded c p few ∙ sym (length_wide p few) in
    let here : get_or o j 0 ≡ get_or p j 0
    = ap (λ (l : List ℕ). get_or l j 0) e ∙ front_rest (padded c p) (wide p) j j (omega (arith, length_padded c p few)) (omega arith) ∙ wide_alike p j in
    ap (λ (l : List ℕ). set l j v) e
    ∙ front_suc (padded c p) (wide p) j v same (omega (arith, length_wide p few))
    (q ∙ ap (λ (x : ℕ). times x c) here ∙ sym (padded_alike c p j ∙ get_d_scale c p j))

pub padded_end : (c : ℕ) (p o : List ℕ) (j : ℕ) → o ≡ front j (padded c p) (wide p) → length p ≤ 32 → 32 ≤ j → o ≡ padded c p
padded_end c p o j e few h =
    e ∙ front_all (padded c p) (wide p) j (length_padded c p few ∙ sym (length_wide p few)) (omega (arith, length_wide p few))

pub multiples_padded : (c : ℕ) (p : List ℕ) → multiples_of (padded c p) ≡ multiples_of (scale c p)
multiples_padded c p = multiples_alike (padded c p) (scale c p) (padded_alike c p)

-- the first of the one are the other
pub alike_part : (r s : List ℕ) (d : ℕ) → Alike r s → length s ≡ d → d ≤ length r → take d r ≡ s
alike_part r s d h e l =
    ext_get_or 0 (take d r) s (length-take-le d r l ∙ sym e)
    (λ j b. get_or-take d r j 0 (omega (arith, length-take-le d r l)) ∙ h j)

-- ---- the rows, each of the row with half its number

-- bits of y above the k low ones are 0: they add nothing
more_bits : (k x y : ℕ) → y < 2 ^ k → times_low k x y ≡ times_low (suc k) x y
unfolding times_low double
more_bits zero x y h = sym (ap (λ (m : ℕ). m * x) none ∙ zero-mul x)
  where
    none : y % 2 ≡ 0
    none = omega arith
more_bits (suc k) x y h = ap (λ (z : ℕ). bit_xor (double z) (y % 2 * x)) (more_bits k x (y / 2) less)
  where
    less : y / 2 < 2 ^ k
    less = omega (arith, pow-suc 2 k)

times_half : (x n : ℕ) → n < 16 → bit_xor (double (times x (n / 2))) (n % 2 * x) ≡ times x n
unfolding times times_low
times_half x n h =
    let less : n / 2 < 128 = omega arith in
    ap (λ (z : ℕ). bit_xor (double z) (n % 2 * x)) (sym (more_bits 7 x (n / 2) less))

-- row 0, as the code begins
pub row_start : (p : List ℕ) → take (1 * 32) (zeros 512) ≡ take (1 * 32) (multiples_of p)
row_start p =
    ext_get_or 0 (take 32 (zeros 512)) (take 32 (multiples_of p)) (sym (length-take-le 32 (multiples_of p) (omega (arith, length_multiples p))))
    (λ j h.
    let e : j ≡ 0 * 32 + j = omega arith in
    get_or-take 32 (zeros 512) j 0 h ∙ zeros_at 512 j
    ∙ sym (get_or-take 32 (multiples_of p) j 0 h ∙ ap (λ (k : ℕ). get_or (multiples_of p) k 0) e ∙ get_d_multiples p 0 j (omega arith) h ∙ times_zero_r (get_or p j 0)))

pub rows_end : (p r : List ℕ) (n : ℕ) → length r ≡ 512 → 16 ≤ n → n ≤ 16 → take (n * 32) r ≡ take (n * 32) (multiples_of p) → r ≡ multiples_of p
rows_end p r n h a b e =
    let w : 512 ≤ n * 32 = omega arith in
    sym (take_all (n * 32) r (omega arith)) ∙ e ∙ take_all (n * 32) (multiples_of p) (omega (arith, length_multiples p))

-- r₀ the rows before, f a copy of the row with half the number
module _ (p r₀ r f : List ℕ) (n j d : ℕ) (some : 0 < n) (few : n < 16) (before : take (n * 32) r₀ ≡ take (n * 32) (multiples_of p))
    (half : f ≡ take 32 (drop (n / 2 * 32) r₀)) (long : length r ≡ 512) (e : take (n * 32 + j) r ≡ take (n * 32 + j) (multiples_of p)) (column : j < 32)
    (is : d ≡ double (get_or f j 0)) where
  earlier : get_or f j 0 ≡ times (get_or p j 0) (n / 2)
  earlier =
      let h : n / 2 * 32 + j < n * 32 = omega arith in
      ap (λ (l : List ℕ). get_or l j 0) half ∙ get_or-take 32 (drop (n / 2 * 32) r₀) j 0 column ∙ get_or-drop (n / 2 * 32) r₀ j 0
      ∙ sym (get_or-take (n * 32) r₀ (n / 2 * 32 + j) 0 h) ∙ ap (λ (l : List ℕ). get_or l (n / 2 * 32 + j) 0) before
      ∙ get_or-take (n * 32) (multiples_of p) (n / 2 * 32 + j) 0 h ∙ get_d_multiples p (n / 2) j (omega arith) column

  -- a turn of the code
  pub row_turn : take (n * 32 + (j + 1)) (set r (n * 32 + j) (bit_xor d (n % 2 * get_or p j 0))) ≡ take (n * 32 + (j + 1)) (multiples_of p)
  row_turn =
      let v = bit_xor d (n % 2 * get_or p j 0) in
      let k = n * 32 + j in
      let next : n * 32 + (j + 1) ≡ suc k = omega arith in
      let q : v ≡ get_or (multiples_of p) k 0
      = ap (λ (x : ℕ). bit_xor x (n % 2 * get_or p j 0)) (is ∙ ap double earlier) ∙ times_half (get_or p j 0) n few ∙ sym (get_d_multiples p n j few column) in
      ap (λ (m : ℕ). take m (set r k v)) next ∙ take-suc-set r k v (omega arith)
      ∙ ap₂ (λ (l : List ℕ) (x : ℕ). l ++ (x ∷ [])) e q
      ∙ sym (ap (λ (m : ℕ). take m (multiples_of p)) next ∙ take-suc (multiples_of p) k 0 (omega (arith, length_multiples p)))

-- ---- a step of division

-- coefficient j after the code's step, f the factor
abbrev pub stepped : List ℕ → List ℕ → List ℕ → ℕ → ℕ → ℕ
stepped low high r f j = bit_xor (bit_xor (get_or r (j + 1) 0) (get_or low (f % 16 * 32 + j) 0)) (get_or high (f / 16 * 32 + j) 0)

unfoldable pub step_in : List ℕ → List ℕ → List ℕ → ℕ → List ℕ
step_in low high r b = tabulate 32 (stepped low high r (bit_xor b (get_or r 0 0))) ++ drop 32 r

pub length_step_in : (low high r : List ℕ) (b : ℕ) → length r ≡ 33 → length (step_in low high r b) ≡ length r
unfolding step_in
length_step_in low high r b h =
    length-append (tabulate 32 (stepped low high r (bit_xor b (get_or r 0 0)))) (drop 32 r)
    ∙ omega (arith, length_tabulate 32 (stepped low high r (bit_xor b (get_or r 0 0))), length-drop 32 r)

pub get_d_step_in : (low high r : List ℕ) (b j : ℕ) → j < 32 → get_or (step_in low high r b) j 0 ≡ stepped low high r (bit_xor b (get_or r 0 0)) j
unfolding step_in
get_d_step_in low high r b j h =
    let t = tabulate 32 (stepped low high r (bit_xor b (get_or r 0 0))) in
    get_or-append t (drop 32 r) 0 j (omega (arith, length_tabulate 32 (stepped low high r (bit_xor b (get_or r 0 0)))))
    ∙ get_d_tabulate 32 (stepped low high r (bit_xor b (get_or r 0 0))) j 0 h

-- the code's loop ends before the last place, which stays
pub front_step_in : (low high r : List ℕ) (b : ℕ) → front 32 (step_in low high r b) r ≡ step_in low high r b
unfolding step_in
front_step_in low high r b =
    let t = tabulate 32 (stepped low high r (bit_xor b (get_or r 0 0))) in
    ap (λ (l : List ℕ). l ++ drop 32 r) (take_at t (drop 32 r) 32 (length_tabulate 32 (stepped low high r (bit_xor b (get_or r 0 0)))))

-- nor does it matter what stood before it, where the last place is the same
pub front_step_moved : (low high r q : List ℕ) (b : ℕ) → length q ≡ length r → ((k d : ℕ) → 32 ≤ k → get_or q k d ≡ get_or r k d)
    → front 32 (step_in low high r b) q ≡ step_in low high r b
front_step_moved low high r q b long same =
    ap (λ (l : List ℕ). take 32 (step_in low high r b) ++ l)
    (ext_get_or 0 (drop 32 q) (drop 32 r) (omega (arith, length-drop 32 q, length-drop 32 r))
    (λ j h. get_or-drop 32 q j 0 ∙ same (32 + j) 0 (omega arith) ∙ sym (get_or-drop 32 r j 0)))
    ∙ front_step_in low high r b

-- 16 n, for n below 16
sixteen_test : ℕ → Bool
sixteen_test n = eqb (times 16 n) (n * 16)

sixteen : (n : ℕ) → n < 16 → times 16 n ≡ n * 16
unfolding sixteen_test times times_low double
sixteen n h = eqb→eq (times 16 n) (n * 16) (below sixteen_test 16 tt n h)

-- THE LAW: the product by a byte is the sum of the products by its two halves
pub halves : (x f : ℕ) → x < 256 → f < 256 → bit_xor (times x (f % 16)) (times (times x 16) (f / 16)) ≡ times x f
halves x f hx hf =
    let q : f / 16 < 16 = omega arith in
    let m : f % 16 < 16 = omega arith in
    let s : f / 16 * 16 + f % 16 ≡ f = omega arith in
    ap (bit_xor (times x (f % 16))) (times_assoc x 16 (f / 16) hx (lit< tt) ∙ ap (times x) (sixteen (f / 16) q))
    ∙ sym (times_xor_r x (f % 16) (f / 16 * 16))
    ∙ ap (times x) (xor_comm (f % 16) (f / 16 * 16) ∙ xor_shifted (f / 16) 4 (f % 16) m ∙ s)

-- the code's step is the step
module _ (g low high s r : List ℕ) (b : ℕ) (tables : Tables g low high) (few : length g ≤ 32) (some : 0 < length g) (size : length s ≡ length g)
    (byte : (i : ℕ) → get_or g i 0 < 256) (factor : bit_xor b (get_or r 0 0) < 256) (same : Alike r s) where
  near : (j : ℕ) → j < 32 → get_or (step_in low high r b) j 0 ≡ get_or (step g s b) j 0
  near j h =
      let f = bit_xor b (get_or r 0 0) in
      let l : get_or low (f % 16 * 32 + j) 0 ≡ times (get_or g j 0) (f % 16)
      = ap (λ (t : List ℕ). get_or t (f % 16 * 32 + j) 0) tables.0 ∙ get_d_multiples g (f % 16) j (omega arith) h in
      let u : get_or high (f / 16 * 32 + j) 0 ≡ times (times (get_or g j 0) 16) (f / 16)
      = ap (λ (t : List ℕ). get_or t (f / 16 * 32 + j) 0) tables.1 ∙ get_d_multiples (scale 16 g) (f / 16) j (omega arith) h
      ∙ ap (λ (x : ℕ). times x (f / 16)) (get_d_scale 16 g j) in
      get_d_step_in low high r b j h
      ∙ ap₂ (λ (x y : ℕ). bit_xor (bit_xor (get_or r (j + 1) 0) x) y) l u
      ∙ xor_assoc (get_or r (j + 1) 0) (times (get_or g j 0) (f % 16)) (times (times (get_or g j 0) 16) (f / 16))
      ∙ ap₂ bit_xor (same (j + 1)) (halves (get_or g j 0) f (byte j) factor ∙ ap (λ (x : ℕ). times (get_or g j 0) (bit_xor b x)) (same 0))
      ∙ sym (get_d_step g s b j (omega arith) size)

  far : (j : ℕ) → 32 ≤ j → get_or (step_in low high r b) j 0 ≡ get_or (step g s b) j 0
  unfolding step_in
  far j h =
      let t = tabulate 32 (stepped low high r (bit_xor b (get_or r 0 0))) in
      let n : length t ≡ 32 = length_tabulate 32 (stepped low high r (bit_xor b (get_or r 0 0))) in
      let i : j ≡ length t + (j - 32) = omega arith in
      let k : 32 + (j - 32) ≡ j = omega arith in
      ap (λ (m : ℕ). get_or (t ++ drop 32 r) m 0) i ∙ get_or-append-add t (drop 32 r) (j - 32) 0 ∙ get_or-drop 32 r (j - 32) 0
      ∙ ap (λ (m : ℕ). get_or r m 0) k ∙ same j ∙ get_or-eq_default s 0 {n = j} (omega arith)
      ∙ sym (get_or-eq_default (step g s b) 0 {n = j} (omega (arith, length_step g s b size)))

  pub step_alike : Alike (step_in low high r b) (step g s b)
  step_alike j = split j 32 (near j) (far j)

-- a turn of the code
pub divide_turn : (g p low high r n : List ℕ) (i : ℕ) → Alike r (remainder g (take i p)) → n ≡ step_in low high r (get_or p i 0) → Tables g low high
    → length g ≤ 32 → 0 < length g → ((i : ℕ) → get_or g i 0 < 256) → ((i : ℕ) → get_or p i 0 < 256) → i < length p
    → Alike n (remainder g (take (i + 1) p))
divide_turn g p low high r n i same e tables few some hg hp l j =
    let s = remainder g (take i p) in
    let first : get_or r 0 0 < 256 = subst (λ (x : ℕ). x < 256) (sym (same 0)) (head_lt s (bytes_remainder g (take i p) (bytes_of g hg))) in
    ap (λ (t : List ℕ). get_or t j 0) e
    ∙ step_alike g low high s r (get_or p i 0) tables few some (length_remainder g (take i p)) hg (xor_lt 8 (get_or p i 0) (get_or r 0 0) (hp i) first) same j
    ∙ ap (λ (t : List ℕ). get_or t j 0) (sym (remainder_suc g p i l))

pub divide_start : (g p : List ℕ) → Alike (zeros 33) (remainder g (take 0 p))
unfolding remainder divide
divide_start g p = zeros_alike 33 (length g)
