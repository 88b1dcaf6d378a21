-- The check bytes of all blocks, one block after the other. n blocks, s data bytes in a short one, b short ones; g is the divisor.
-- Assumes nothing.
use Rattle.std.specs.Prelude.{ℕ, ◌+◌, ◌-◌, ◌*◌, ◌≤◌, ◌<◌, Bool, true, false, List, [], ◌++◌, ◌≡◌, refl, length, take, drop, leb}
use Rattle.std.proofs.Common.{append_assoc, append-nil, sym, ap, ap₂, ◌∙◌, add-zero, zero-add, zero-mul, add-mul, mul_comm, le_antisymm, mul-le-mul_right, arith, drop_of_length-le, drop-drop, le-leb, leb-true, leb-false}
use Rattle.std.proofs.Math.Seq.{take-append_seam, drop-append_seam}
use Rattle.std.proofs.lemmas.Bool.{lt-leb}
use Rattle.standard.specs.Numbers.{one, from, join}
use Rattle.standard.specs.Field.{remainder, divisor}
use Rattle.field.specs.Division.{length_remainder}
use Rattle.laws.specs.Lists.{from_append}
use Rattle.laws.specs.Joins.{join_append, join_length}
use Rattle.blocks.specs.Shape.{Shape, data_in, start_in}

-- how many data bytes block i has
abbrev pub length_in : ℕ → ℕ → ℕ → ℕ
length_in s b i = s + one (leb b i)

pub length_long : (s b i : ℕ) → b ≤ i → s + 1 ≡ length_in s b i
length_long s b i h = rw (le-leb b i h)

pub length_short : (s b i : ℕ) → i < b → s ≡ length_in s b i
length_short s b i h = rw (lt-leb b i h) (sym (add-zero s))

-- what is left of block i
abbrev pub rest_in : List ℕ → ℕ → ℕ → List ℕ → ℕ → List ℕ
rest_in g s b xs i = remainder g (take (length_in s b i) (drop (start_in s b i) xs))

-- and of all
unfoldable pub rests_in : List ℕ → ℕ → ℕ → List ℕ → ℕ → List ℕ
rests_in g s b xs n = join (from 0 n (rest_in g s b xs))

pub rests_length : (g xs : List ℕ) (s b n : ℕ) → length (rests_in g s b xs n) ≡ n * length g
unfolding rests_in
rests_length g xs s b n = join_length 0 n (length g) (rest_in g s b xs) (λ i low high. length_remainder g (take (length_in s b i) (drop (start_in s b i) xs)))

pub rests_start : (g xs o : List ℕ) (s b : ℕ) → o ≡ rests_in g s b xs 0 ++ drop (0 * length g) o
unfolding rests_in
rests_start g xs o s b = rw (zero-mul (length g))

rests_suc : (g xs : List ℕ) (s b i : ℕ) → rests_in g s b xs i ++ rest_in g s b xs i ≡ rests_in g s b xs (i + 1)
unfolding rests_in
rests_suc g xs s b i =
    sym
    (ap join (from_append 0 i 1 (rest_in g s b xs))
    ∙ join_append (from 0 i (rest_in g s b xs)) (from (0 + i) 1 (rest_in g s b xs))
    ∙ ap (λ (z : List ℕ). join (from 0 i (rest_in g s b xs)) ++ z) (append-nil (rest_in g s b xs (0 + i)) ∙ ap (rest_in g s b xs) (zero-add i)))

pub rests_next : (g xs o h k r : List ℕ) (s b i : ℕ) → h ≡ rests_in g s b xs i ++ drop (i * length g) o → r ≡ rest_in g s b xs i
    → k ≡ take (i * length g) h ++ r ++ drop (i * length g + length g) h
    → k ≡ rests_in g s b xs (i + 1) ++ drop ((i + 1) * length g) o
rests_next g xs o h k r s b i e q f =
    let l : length (rests_in g s b xs i) ≡ i * length g = rests_length g xs s b i in
    let t : take (i * length g) h ≡ rests_in g s b xs i = ap₂ (λ (n : ℕ) (z : List ℕ). take n z) (sym l) e ∙ take-append_seam (rests_in g s b xs i) (drop (i * length g) o) in
    let d : drop (i * length g) h ≡ drop (i * length g) o = ap₂ (λ (n : ℕ) (z : List ℕ). drop n z) (sym l) e ∙ drop-append_seam (rests_in g s b xs i) (drop (i * length g) o) in
    let d2 : drop (i * length g + length g) h ≡ drop ((i + 1) * length g) o =
    sym (drop-drop (length g) (i * length g) h) ∙ ap (drop (length g)) d ∙ drop-drop (length g) (i * length g) o ∙ ap (λ (n : ℕ). drop n o) (more (length g)) in
    f ∙ ap₂ (λ (a c : List ℕ). a ++ r ++ c) t d2 ∙ ap (λ (z : List ℕ). z ++ drop ((i + 1) * length g) o) (ap (λ (z : List ℕ). rests_in g s b xs i ++ z) q ∙ grown)
  where
    more : (m : ℕ) → i * m + m ≡ (i + 1) * m
    more m = omega (arith, add-mul i 1 m)

    grown : rests_in g s b xs i ++ rest_in g s b xs i ≡ rests_in g s b xs (i + 1)
    grown = rests_suc g xs s b i

pub rests_end : (g xs o h : List ℕ) (s b i n : ℕ) → h ≡ rests_in g s b xs i ++ drop (i * length g) o → i ≤ n → n ≤ i → length o ≡ n * length g → h ≡ rests_in g s b xs n
rests_end g xs o h s b i n e l m size =
    let q : i ≡ n = le_antisymm l m in
    let z : drop (n * length g) o ≡ [] = drop_of_length-le o {i = n * length g} (omega arith) in
    e ∙ ap (λ (k : ℕ). rests_in g s b xs k ++ drop (k * length g) o) q ∙ ap (λ (t : List ℕ). rests_in g s b xs n ++ t) z ∙ append-nil (rests_in g s b xs n)

-- the next block starts where this one ends
pub next_start : (s b i : ℕ) → start_in s b (i + 1) ≡ start_in s b i + length_in s b i
next_start s b i = go (leb b i) refl
  where
    go : (t : Bool) → leb b i ≡ t → start_in s b (i + 1) ≡ start_in s b i + (s + one t)
    go true e = let h = leb-true b i e in omega (arith, add-mul i 1 s)
    go false e = let h = leb-false b i e in omega (arith, add-mul i 1 s)

-- a block lies within the data
pub block_within : {n s b : ℕ} → Shape n s b → (i : ℕ) → i < n → start_in s b i + length_in s b i ≤ data_in n s b
block_within {n} {s} {b} k i h =
    let a : (i + 1) * s ≤ n * s = mul-le-mul_right s (omega arith) in
    rw (← next_start s b i) (omega (arith, mul_comm s n))

-- ---- as the code has them

-- a part that was lent and came back, as a contract has it
pub mid : (xs ys : List ℕ) (a d : ℕ) → take a xs ++ (ys ++ drop (a + d - a) (drop a xs)) ≡ take a xs ++ ys ++ drop (a + d) xs
mid xs ys a d =
    let e : a + (a + d - a) ≡ a + d = omega arith in
    ap (λ (l : List ℕ). take a xs ++ (ys ++ l)) (drop-drop (a + d - a) a xs ∙ ap (λ (k : ℕ). drop k xs) e) ∙ sym (append_assoc (take a xs) ys (drop (a + d) xs))

-- one turn of the loop over the blocks
pub rests_turn : (g xs o h k : List ℕ) (s b i at len : ℕ) → h ≡ rests_in g s b xs i ++ drop (i * length g) o
    → k ≡ take (i * length g) h ++ remainder g (take (at + len - at) (drop at xs)) ++ drop (i * length g + length g) h
    → at ≡ start_in s b i → len ≡ length_in s b i
    → k ≡ rests_in g s b xs (i + 1) ++ drop ((i + 1) * length g) o
rests_turn g xs o h k s b i at len e f ea el =
    let d : at + len - at ≡ length_in s b i = omega arith in
    rests_next g xs o h k (remainder g (take (at + len - at) (drop at xs))) s b i e (rw (d, ea)) f

-- the same where the part was lent: d bytes, as many as the divisor has
pub rests_lent : (g xs o h r : List ℕ) (s b i d at len : ℕ) → length g ≡ d → h ≡ rests_in g s b xs i ++ drop (i * length g) o
    → r ≡ remainder g (take (at + len - at) (drop at xs)) → at ≡ start_in s b i → len ≡ length_in s b i
    → take (i * d) h ++ (r ++ drop (i * d + d - i * d) (drop (i * d) h)) ≡ rests_in g s b xs (i + 1) ++ drop ((i + 1) * length g) o
rests_lent g xs o h r s b i d at len q e f ea el =
    rw (← q)
    (rests_turn g xs o h (take (i * length g) h ++ (r ++ drop (i * length g + length g - i * length g) (drop (i * length g) h))) s b i at len e
    (mid h r (i * length g) (length g) ∙ ap (λ (l : List ℕ). take (i * length g) h ++ l ++ drop (i * length g + length g) h) f) ea el)

-- the check bytes of all blocks, c for each
abbrev pub checks_in : ℕ → ℕ → ℕ → List ℕ → ℕ → List ℕ
checks_in c s b xs n = rests_in (divisor c) s b xs n
