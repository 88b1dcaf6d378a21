-- A run of characters in the bits: group after group.
-- Assumes nothing.
use Rattle.std.specs.Prelude.{◌≡◌, ℕ, zero, suc, ◌+◌, ◌-◌, ◌*◌, ◌/◌, ◌%◌, ◌<◌, ◌≤◌, min, Bool, true, false, List, [], ◌++◌, length, take, drop, nat_le, refl}
use Rattle.std.proofs.Common.{sym, ap, ap₂, ◌∙◌, arith, zero-lt-suc, mod-eq_of_lt, leb-true, leb-false, length-append}
use Rattle.std.proofs.Math.Nat.{div-eq_of_lt, div-eq-sub-div, mod-eq-sub-mod, min-eq_left}
use Rattle.standard.specs.Bits.{bits}
use Rattle.laws.specs.Lists.{length_bits}
use Rattle.segments.specs.Kinds.{size, width, group_number}

-- how many of n characters stand in the next group
abbrev pub part : ℕ → ℕ → ℕ
part k n = min (size k) n

-- the bits of n characters; f bounds the count of groups
unfoldable pub run_bits : ℕ → ℕ → ℕ → List ℕ → List ℕ
run_bits k zero n cs = []
run_bits k (suc f) zero cs = []
run_bits k (suc f) (suc n) cs =
    bits (width k (part k (suc n))) (group_number k 0 (take (part k (suc n)) cs)) ++ run_bits k f (suc n - part k (suc n)) (drop (part k (suc n)) cs)

-- ---- one group

pub size_pos : (k : ℕ) → 0 < size k
size_pos zero = zero-lt-suc 2
size_pos (suc zero) = zero-lt-suc 1
size_pos (suc (suc zero)) = zero-lt-suc 0
size_pos (suc (suc (suc k))) = zero-lt-suc 0

module _ (k n : ℕ) where
  pub part_le : part k n ≤ n
  part_le = omega arith

  pub part_size : part k n ≤ size k
  part_size = omega arith

pub part_pos : (k n : ℕ) → 0 < part k (suc n)
part_pos k n = let h : 0 < size k = size_pos k in omega arith

-- what is left is less
pub part_less : (k n f : ℕ) → suc n ≤ suc f → suc n - part k (suc n) ≤ f
part_less k n f h = let p : 0 < part k (suc n) = part_pos k n in omega arith

-- ---- a turn

-- more fuel than characters changes nothing
bits_fuel : (k f g n : ℕ) (cs : List ℕ) → n ≤ f → n ≤ g → run_bits k f n cs ≡ run_bits k g n cs
unfolding run_bits
bits_fuel k zero zero n cs hf hg = refl
bits_fuel k zero (suc g) zero cs hf hg = refl
bits_fuel k zero (suc g) (suc n) cs hf hg = absurd (omega arith)
bits_fuel k (suc f) zero zero cs hf hg = refl
bits_fuel k (suc f) zero (suc n) cs hf hg = absurd (omega arith)
bits_fuel k (suc f) (suc g) zero cs hf hg = refl
bits_fuel k (suc f) (suc g) (suc n) cs hf hg =
    ap (λ (l : List ℕ). bits (width k (part k (suc n))) (group_number k 0 (take (part k (suc n)) cs)) ++ l)
    (bits_fuel k f g (suc n - part k (suc n)) (drop (part k (suc n)) cs) (less f hf) (less g hg))
  where
    less : (f : ℕ) → suc n ≤ suc f → suc n - part k (suc n) ≤ f
    less f h = omega (arith, part_pos k n)

pub bits_turn : (k n : ℕ) (cs : List ℕ) → 0 < n
    → run_bits k n n cs ≡ bits (width k (part k n)) (group_number k 0 (take (part k n) cs)) ++ run_bits k (n - part k n) (n - part k n) (drop (part k n) cs)
unfolding run_bits
bits_turn k zero cs h = absurd (omega arith)
bits_turn k (suc n) cs h =
    ap (λ (l : List ℕ). bits (width k (part k (suc n))) (group_number k 0 (take (part k (suc n)) cs)) ++ l)
    (bits_fuel k n (suc n - part k (suc n)) (suc n - part k (suc n)) (drop (part k (suc n)) cs) (omega (arith, part_pos k n)) (omega arith))

-- ---- how long a run is

-- full groups, and the rest
abbrev pub run_size : ℕ → ℕ → ℕ
run_size k n = n / size k * width k (size k) + width k (n % size k)

size_none : (k : ℕ) → 0 ≡ run_size k 0
size_none zero = refl
size_none (suc zero) = refl
size_none (suc (suc zero)) = refl
size_none (suc (suc (suc k))) = refl

-- less than a group
size_less : (k n : ℕ) → n < size k → width k n ≡ run_size k n
size_less k n h =
    let d : n / size k ≡ 0 = div-eq_of_lt h in
    let m : n % size k ≡ n = mod-eq_of_lt h in
    plain (width k (size k)) (width k n) ∙ ap₂ (λ (i j : ℕ). i * width k (size k) + width k j) (sym d) (sym m)
  where
    plain : (a b : ℕ) → b ≡ 0 * a + b
    plain a b = omega arith

-- a group more
size_more : (k n : ℕ) → size k ≤ n → width k (size k) + run_size k (n - size k) ≡ run_size k n
size_more k n h =
    let d : n / size k ≡ (n - size k) / size k + 1 = div-eq-sub-div (size_pos k) h in
    let m : n % size k ≡ (n - size k) % size k = mod-eq-sub-mod h in
    plain ((n - size k) / size k) (width k (size k)) (width k ((n - size k) % size k))
    ∙ ap₂ (λ (i j : ℕ). i * width k (size k) + width k j) (sym d) (sym m)
  where
    plain : (a w b : ℕ) → w + (a * w + b) ≡ (a + 1) * w + b
    plain a w b = omega arith

pub run_size_lem : (k f n : ℕ) (cs : List ℕ) → n ≤ f → length (run_bits k f n cs) ≡ run_size k n
unfolding run_bits
run_size_lem k zero n cs h =
    let z : 0 ≡ n = omega arith in
    size_none k ∙ ap (run_size k) z
run_size_lem k (suc f) zero cs h = size_none k
run_size_lem k (suc f) (suc n) cs h =
    length-append (bits (width k (part k (suc n))) (group_number k 0 (take (part k (suc n)) cs))) (run_bits k f (suc n - part k (suc n)) (drop (part k (suc n)) cs))
    ∙ ap₂ (λ (i j : ℕ). i + j) (length_bits (width k (part k (suc n))) (group_number k 0 (take (part k (suc n)) cs)))
    (run_size_lem k f (suc n - part k (suc n)) (drop (part k (suc n)) cs) (omega (arith, part_pos k n)))
    ∙ go (nat_le (size k) (suc n)) refl
  where
    right : (a : ℕ) → a + 0 ≡ a
    right a = omega arith

    go : (t : Bool) → nat_le (size k) (suc n) ≡ t → width k (part k (suc n)) + run_size k (suc n - part k (suc n)) ≡ run_size k (suc n)
    go true q =
        let e : part k (suc n) ≡ size k = min-eq_left (leb-true (size k) (suc n) q) in
        ap (λ (i : ℕ). width k i + run_size k (suc n - i)) e ∙ size_more k (suc n) (leb-true (size k) (suc n) q)
    go false q =
        let l : suc n < size k = leb-false (size k) (suc n) q in
        let e : part k (suc n) ≡ suc n = omega arith in
        let z : suc n - suc n ≡ 0 = omega arith in
        ap (λ (i : ℕ). width k i + run_size k (suc n - i)) e
        ∙ ap (λ (i : ℕ). width k (suc n) + run_size k i) z
        ∙ ap (λ (i : ℕ). width k (suc n) + i) (sym (size_none k))
        ∙ right (width k (suc n)) ∙ size_less k (suc n) l
