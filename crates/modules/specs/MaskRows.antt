-- Twelve rows of a mask, and a grid over which they are laid again and again: each mask repeats after twelve rows, and after six columns.
-- Assumes nothing.
use Rattle.std.specs.Prelude.{ℕ, zero, suc, min, ◌+◌, ◌-◌, ◌*◌, ◌/◌, ◌%◌, ◌≤◌, ◌<◌, Bool, true, false, cond, List, ◌++◌, ◌≡◌, refl, ltb, eqb, length, get_or, take, drop}
use Rattle.std.proofs.Common.{sym, ap, ap₂, ◌∙◌, mod-lt, mod-eq_of_lt, zero-mul, add-mul, mul_comm, mul-add, mul_assoc, mul-le-mul_right, div-add-mod', add-one, arith, le-ltb}
use Rattle.std.proofs.Math.Nat.{add-mod_right}
use Rattle.std.proofs.Math.Arith.{digits_div, digits_mod, digits_lt, mod-mul}
use Rattle.std.specs.Int.Bits.{bit_xor}
use Rattle.std.proofs.lemmas.List.{set-get_or}
use Rattle.standard.specs.Numbers.{one, tabulate}
use Rattle.standard.specs.Masks.{mask_number, inverts}
use Rattle.laws.specs.Lists.{get_d_tabulate, length_tabulate, is_tabulate}
use Rattle.laws.specs.Each.{each, each_done, each_start, each_length, each_reached, each_next, each_end, each_part}
use Rattle.laws.specs.Grid.{Square, paint}
use Rattle.modules.specs.Mask.{flip, masked}

-- column x of row y, 1 where the mask inverts
abbrev pub on_row : ℕ → ℕ → ℕ → ℕ → ℕ
on_row m y x v = one (inverts m x y)

-- place k of the rows
abbrev pub in_row : ℕ → ℕ → ℕ → ℕ → ℕ
in_row m size k v = one (inverts m (k % size) (k / size))

-- a module under a place of the rows: a data module is inverted by 1, a function module never is
abbrev pub inverted : ℕ → ℕ → ℕ
inverted i v = cond (ltb v 2) (bit_xor v i) v

inverted_flip : (b : Bool) (v : ℕ) → inverted (one b) v ≡ flip b v
inverted_flip b zero = go b
  where
    go : (b : Bool) → inverted (one b) 0 ≡ flip b 0
    go true = refl
    go false = refl
inverted_flip b (suc zero) = go b
  where
    go : (b : Bool) → inverted (one b) 1 ≡ flip b 1
    go true = refl
    go false = refl
inverted_flip b (suc (suc v)) = go b
  where
    far : ltb (suc (suc v)) 2 ≡ false
    far = le-ltb (suc (suc v)) 2 (omega arith)

    go : (b : Bool) → inverted (one b) (suc (suc v)) ≡ flip b (suc (suc v))
    go true = simp far
    go false = simp far

-- ---- a mask repeats after twelve rows

product : (x y j c : ℕ) → x * (j * c + y) ≡ (x * j) * c + x * y
product x y j c = mul-add x (j * c) y ∙ ap (λ (n : ℕ). n + x * y) (sym (mul_assoc x j c))

product_two : (x y j : ℕ) → x * (j * 12 + y) % 2 ≡ x * y % 2
product_two x y j = omega (arith, product x y j 12)

product_three : (x y j : ℕ) → x * (j * 12 + y) % 3 ≡ x * y % 3
product_three x y j = omega (arith, product x y j 12)

sum_two : (x y j : ℕ) → (x + (j * 12 + y)) % 2 ≡ (x + y) % 2
sum_two x y j = omega arith

repeats : (m x y j : ℕ) → mask_number m x (j * 12 + y) ≡ mask_number m x y
unfolding mask_number
repeats zero x y j = sum_two x y j
repeats (suc zero) x y j = omega arith
repeats (suc (suc zero)) x y j = refl
repeats (suc (suc (suc zero))) x y j = omega arith
repeats (suc (suc (suc (suc zero)))) x y j = omega arith
repeats (suc (suc (suc (suc (suc zero))))) x y j = ap₂ ◌+◌ (product_two x y j) (product_three x y j)
repeats (suc (suc (suc (suc (suc (suc zero)))))) x y j = ap₂ (λ (a b : ℕ). (a + b) % 2) (product_two x y j) (product_three x y j)
repeats (suc (suc (suc (suc (suc (suc (suc m))))))) x y j = ap₂ (λ (a b : ℕ). (a + b) % 2) (sum_two x y j) (product_three x y j)

-- row y is as row y % 12
pub inverts_twelve : (m x y : ℕ) → inverts m x (y % 12) ≡ inverts m x y
unfolding inverts
inverts_twelve m x y =
    ap (λ (n : ℕ). eqb n 0) (sym (repeats m x (y % 12) (y / 12)) ∙ ap (mask_number m x) (div-add-mod' y 12))

-- ---- and after six columns

across_product : (x y j : ℕ) → (j * 6 + x) * y ≡ (y * j) * 6 + x * y
across_product x y j = mul_comm (j * 6 + x) y ∙ product y x j 6 ∙ ap (λ (n : ℕ). (y * j) * 6 + n) (mul_comm y x)

across_two : (x y j : ℕ) → (j * 6 + x) * y % 2 ≡ x * y % 2
across_two x y j = omega (arith, across_product x y j)

across_three : (x y j : ℕ) → (j * 6 + x) * y % 3 ≡ x * y % 3
across_three x y j = omega (arith, across_product x y j)

across_sum : (x y j : ℕ) → (j * 6 + x + y) % 2 ≡ (x + y) % 2
across_sum x y j = omega arith

across : (m x y j : ℕ) → mask_number m (j * 6 + x) y ≡ mask_number m x y
unfolding mask_number
across zero x y j = across_sum x y j
across (suc zero) x y j = refl
across (suc (suc zero)) x y j = omega arith
across (suc (suc (suc zero))) x y j = omega arith
across (suc (suc (suc (suc zero)))) x y j = omega arith
across (suc (suc (suc (suc (suc zero))))) x y j = ap₂ ◌+◌ (across_two x y j) (across_three x y j)
across (suc (suc (suc (suc (suc (suc zero)))))) x y j = ap₂ (λ (a b : ℕ). (a + b) % 2) (across_two x y j) (across_three x y j)
across (suc (suc (suc (suc (suc (suc (suc m))))))) x y j = ap₂ (λ (a b : ℕ). (a + b) % 2) (across_sum x y j) (across_three x y j)

-- column x is as column x % 6
pub inverts_six : (m x y : ℕ) → inverts m (x % 6) y ≡ inverts m x y
unfolding inverts
inverts_six m x y =
    ap (λ (n : ℕ). eqb n 0) (sym (across m (x % 6) y (x / 6)) ∙ ap (λ (n : ℕ). mask_number m n y) (div-add-mod' x 6))

-- ---- a row is worked out: six places, and what repeats them

-- place x as place x % 6 was
abbrev pub again : List ℕ → ℕ → ℕ → ℕ
again r x v = get_or r (x % 6) 0

again_kept : (r : List ℕ) (n : ℕ) → n ≤ 6 → n ≤ length r → r ≡ each_done n (again r) r
again_kept r zero few room = each_start (again r) r
again_kept r (suc n) few room =
    let six : n < 6 = omega arith in
    sym (set-get_or r n 0)
    ∙ each_next (again r) r n (get_or r n 0) (length r) r (again_kept r n (omega arith) (omega arith)) refl (omega arith) (ap (λ (k : ℕ). get_or r k 0) (sym (mod-eq_of_lt six)))
    ∙ ap (λ (k : ℕ). each_done k (again r) r) (add-one n)

pub again_start : (r : List ℕ) → 6 ≤ length r → r ≡ each_done 6 (again r) r
again_start r room = again_kept r 6 (omega arith) room

-- the place six before was reached
pub again_next : (r h : List ℕ) (x v : ℕ) → h ≡ each_done x (again r) r → 6 ≤ x → x < length h → get_or h (x - 6) 0 ≡ again r x v
again_next r h x v e low b =
    let same : length h ≡ length r = ap length e ∙ each_length (again r) r x in
    let six : (x - 6) % 6 ≡ x % 6 = omega arith in
    each_reached (again r) r x (x - 6) h e (omega arith) (omega arith) ∙ ap (λ (n : ℕ). get_or r n 0) six

pub row_done : (m y n : ℕ) (g h i : List ℕ) → h ≡ each_done n (on_row m y) g → 6 ≤ n → 6 ≤ length g → i ≡ each (again h) h → i ≡ each (on_row m y) g
unfolding each
row_done m y n g h i e six room is =
    is ∙ is_tabulate 0 (tabulate (length h) (λ k. again h k (get_or h k 0))) (length g) _ (length_tabulate (length h) _ ∙ same)
    (λ k b. get_d_tabulate (length h) _ k 0 (omega (arith, same)) ∙ each_reached (on_row m y) g n (k % 6) h e (omega (arith, few k)) (omega (arith, few k)) ∙ ap one (inverts_six m k y))
  where
    same : length h ≡ length g
    same = ap length e ∙ each_length (on_row m y) g n

    few : (k : ℕ) → k % 6 < 6
    few k = omega arith

-- ---- twelve rows, one after the other

pub rows_start : (m size : ℕ) (g : List ℕ) → g ≡ each_done (0 * size) (in_row m size) g
rows_start m size g = each_start (in_row m size) g ∙ ap (λ (n : ℕ). each_done n (in_row m size) g) (sym (zero-mul size))

pub row_room : (size y n : ℕ) → y < 12 → n ≡ 12 * size → y * size + size ≤ n
row_room size y n h e =
    let w : (y + 1) * size ≤ 12 * size = mul-le-mul_right size (omega arith) in
    omega (arith, add-mul y 1 size)

pub rows_next : (m size y : ℕ) (g h i : List ℕ) → h ≡ each_done (y * size) (in_row m size) g → length h ≡ 12 * size → y < 12
    → i ≡ each (on_row m y) (take ((y + 1) * size - y * size) (drop (y * size) h))
    → take (y * size) h ++ (i ++ drop ((y + 1) * size - y * size) (drop (y * size) h)) ≡ each_done ((y + 1) * size) (in_row m size) g
rows_next m size y g h i e long less is =
    let d : (y + 1) * size - y * size ≡ size = omega (arith, add-mul y 1 size) in
    let same : length h ≡ length g = ap length e ∙ each_length (in_row m size) g (y * size) in
    let next : y * size + size ≡ (y + 1) * size = omega (arith, add-mul y 1 size) in
    rw d
    (each_part (in_row m size) (on_row m y) g h i (y * size) size e (row_room size y (length g) less (sym same ∙ long))
    (λ j v l. sym (ap₂ (λ (p q : ℕ). one (inverts m p q)) (digits_mod y l) (digits_div y l))) (rw d at is))
    ∙ ap (λ (n : ℕ). each_done n (in_row m size) g) next

pub rows_end : (m size y : ℕ) (g h : List ℕ) → h ≡ each_done (y * size) (in_row m size) g → length h ≡ 12 * size → 12 ≤ y → h ≡ each (in_row m size) g
rows_end m size y g h e long done =
    each_end (in_row m size) g (y * size) (12 * size) h e long (mul-le-mul_right size done)

-- ---- the rows are laid over the grid

-- place k of the grid lies under place k % n of n rows' places
abbrev pub under : List ℕ → ℕ → ℕ → ℕ
under r k v = inverted (get_or r (k % length r) 0) v

pub bands_start : (r : List ℕ) → 0 < length r → 0 % length r ≡ 0
bands_start r h = mod-eq_of_lt h

pub bands_next : (r g h i : List ℕ) (at n m : ℕ) → n ≡ m → h ≡ each_done at (under r) g → at < length h → at % length r ≡ 0
    → n ≡ min (length h) (at + length r) → i ≡ each (λ k v. inverted (get_or r k 0) v) (take (n - at) (drop at h))
    → take at h ++ (i ++ drop (n - at) (drop at h)) ≡ each_done m (under r) g
bands_next r g h i at n m to e less whole is_n is =
    let d : at + (n - at) ≡ m = omega arith in
    let same : length h ≡ length g = ap length e ∙ each_length (under r) g at in
    each_part (under r) (λ k v. inverted (get_or r k 0) v) g h i at (n - at) e (omega (arith, same))
    (λ j v l. ap (λ (k : ℕ). inverted (get_or r k 0) v) (place j (omega arith))) is
    ∙ ap (λ (k : ℕ). each_done k (under r) g) d
  where
    place : (j : ℕ) → j < length r → j ≡ (at + j) % length r
    place j l =
        let split : at / length r * length r + at % length r ≡ at = div-add-mod' at (length r) in
        let here : at / length r * length r + j ≡ at + j = omega arith in
        sym (digits_mod (at / length r) l) ∙ ap (λ (k : ℕ). k % length r) here

pub bands_last : (r g h i : List ℕ) (at n : ℕ) → n ≡ length h → h ≡ each_done at (under r) g → at < length h → at % length r ≡ 0
    → n ≡ min (length h) (at + length r) → i ≡ each (λ k v. inverted (get_or r k 0) v) (take (n - at) (drop at h))
    → take at h ++ (i ++ drop (n - at) (drop at h)) ≡ each (under r) g
bands_last r g h i at n to e less whole is_n is =
    let all : take at h ++ (i ++ drop (n - at) (drop at h)) ≡ each_done n (under r) g = bands_next r g h i at n n refl e less whole is_n is in
    let same : length h ≡ length g = ap length e ∙ each_length (under r) g at in
    each_end (under r) g n (length g) _ all (ap length all ∙ each_length (under r) g n) (omega (arith, same))

pub bands_turn : (r : List ℕ) (at : ℕ) → at % length r ≡ 0 → (at + length r) % length r ≡ 0
bands_turn r at whole = add-mod_right at (length r) ∙ whole

-- ---- and that is the mask

pub rows_mask : (m size : ℕ) (r r₀ g h : List ℕ) → r ≡ each (in_row m size) r₀ → length r₀ ≡ 12 * size → Square g size → 6 ≤ size
    → h ≡ each (under r) g → h ≡ paint size (masked m) g
unfolding each paint
rows_mask m size r r₀ g h er lr sq some e =
    e ∙ is_tabulate 0 (tabulate (length g) (λ k. under r k (get_or g k 0))) (length g) _ (length_tabulate (length g) _)
    (λ k b. get_d_tabulate (length g) _ k 0 b ∙ ap (λ (v : ℕ). inverted v (get_or g k 0)) (row k) ∙ inverted_flip (inverts m (k % size) (k / size)) (get_or g k 0))
  where
    pos : 0 < size
    pos = omega arith

    long : length r ≡ 12 * size
    long = ap length er ∙ length_tabulate (length r₀) _ ∙ lr

    twelve : (n : ℕ) → n % 12 < 12
    twelve n = omega arith

    row : (k : ℕ) → get_or r (k % length r) 0 ≡ one (inverts m (k % size) (k / size))
    row k =
        let z : k % length r ≡ k / size % 12 * size + k % size = ap (λ (n : ℕ). k % n) long ∙ mod-mul k {m = 12} {c = size} (omega arith) pos in
        let c : k % size < size = mod-lt k pos in
        let s : k / size % 12 * size + k % size < length r₀ = omega (arith, lr, digits_lt (twelve (k / size)) c) in
        ap₂ (λ (l : List ℕ) (n : ℕ). get_or l n 0) er z
        ∙ get_d_tabulate (length r₀) _ (k / size % 12 * size + k % size) 0 s
        ∙ ap₂ (λ (a b : ℕ). one (inverts m a b)) (digits_mod (k / size % 12) c) (digits_div (k / size % 12) c)
        ∙ ap one (inverts_twelve m (k % size) (k / size))
