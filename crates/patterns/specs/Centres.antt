-- The alignment centres of an axis: which of them a column is near, that they lie in the grid, and that an array holds them.
-- Assumes nothing.
use Rattle.std.specs.Prelude.{ℕ, suc, ◌+◌, ◌-◌, ◌≤◌, ◌<◌, Bool, true, false, cond, ◌&&◌, ◌≡◌, List, [], ◌∷◌, ◌++◌, length, get_or, replicate, leb, ltb, eqb}
use Rattle.std.proofs.Common.{ap, ◌∙◌, arith, leb→le, lt-ltb}
use Rattle.std.proofs.Math.ListN.{get_or-append}
use Rattle.std.proofs.Math.Dec.{T, eqb→eq}
use Rattle.standard.specs.Numbers.{apart, every}
use Rattle.standard.specs.Sizes.{side, centres}
use Rattle.standard.specs.Patterns.{nearest, alignment_step, alignment}
use Rattle.laws.specs.Tests.{split, true_T, and_left, and_right, alike, alike_eq, implies, implies_use}
use Rattle.laws.specs.Lists.{every_at}
use Rattle.laws.specs.Computed.{among, each_of, below}

-- the number of the centre that is at most 2 away; how many centres there are where none is
unfoldable pub which : List ℕ → ℕ → ℕ
which [] x = 0
which (c ∷ cs) x = cond (leb (apart x c) 2) 0 (suc (which cs x))

abbrev pub which_of : ℕ → ℕ → ℕ
which_of v x = which (alignment v) x

-- centre number i of version v
abbrev pub centre : ℕ → ℕ → ℕ
centre v i = get_or (alignment v) i 0

-- (i, j) is one of the three that are left out, of n on an axis
unfoldable pub corner : ℕ → ℕ → ℕ → Bool
corner n i j = cond (eqb i 0) (cond (eqb j 0) true (eqb (j + 1) n)) (cond (eqb (i + 1) n) (eqb j 0) false)

-- ---- what is computed for every version and every column

near_test : List ℕ → ℕ → ℕ → Bool
near_test cs n x = alike (leb (nearest cs x) 2) (ltb (which cs x) n)

-- of centre number k, when it is at most 2 away
known : List ℕ → ℕ → ℕ → ℕ → ℕ → Bool
known cs n s x k = eqb (nearest cs x) (apart x (get_or cs k 0)) && (alike (ltb x 9) (eqb k 0) && alike (leb (s - 9) x) (eqb (k + 1) n))

known_test : List ℕ → ℕ → ℕ → ℕ → Bool
known_test cs n s x = let k = which cs x in implies (ltb k n) (known cs n s x k)

centre_test : List ℕ → ℕ → ℕ → Bool
centre_test cs n x = let k = which cs x in among 0 n (λ i. alike (leb (apart x (get_or cs i 0)) 2) (eqb k i))

facts_at : List ℕ → ℕ → ℕ → ℕ → Bool
facts_at cs n s x = near_test cs n x && (known_test cs n s x && centre_test cs n x)

facts : ℕ → Bool
facts v =
    let cs = alignment v in
    let n = length cs in
    let s = side v in
    eqb n (centres v) && among 0 s (facts_at cs n s)

facts_all : T (among 2 39 facts)
unfolding facts facts_at near_test known known_test centre_test which alike implies nearest alignment_step alignment
facts_all = tt

module _ (v : ℕ) (low : 2 ≤ v) (high : v ≤ 40) where
  all : T (facts v)
  all = each_of facts 2 39 facts_all v low (omega arith)

  pub centres_length : length (alignment v) ≡ centres v
  unfolding facts
  centres_length = eqb→eq (length (alignment v)) (centres v) (and_left (eqb (length (alignment v)) (centres v)) (among 0 (side v) (facts_at (alignment v) (length (alignment v)) (side v))) all)

  module _ (x : ℕ) (inside : x < side v) where
    here : T (facts_at (alignment v) (length (alignment v)) (side v) x)
    unfolding facts
    here =
        below (facts_at (alignment v) (length (alignment v)) (side v)) (side v)
        (and_right (eqb (length (alignment v)) (centres v)) (among 0 (side v) (facts_at (alignment v) (length (alignment v)) (side v))) all) x inside

    others : T (known_test (alignment v) (length (alignment v)) (side v) x && centre_test (alignment v) (length (alignment v)) x)
    unfolding facts_at
    others = and_right (near_test (alignment v) (length (alignment v)) x) _ here

    pub near_which : leb (nearest (alignment v) x) 2 ≡ ltb (which_of v x) (centres v)
    unfolding facts_at near_test
    near_which = rw (← centres_length) (alike_eq _ _ (and_left (near_test (alignment v) (length (alignment v)) x) _ here))

    -- centre i is at most 2 away where its number is that of x, and nowhere else
    pub at_centre : (i : ℕ) → i < centres v → leb (apart x (centre v i)) 2 ≡ eqb (which_of v x) i
    unfolding centre_test
    at_centre i h =
        alike_eq (leb (apart x (centre v i)) 2) (eqb (which_of v x) i)
        (below (λ i. alike (leb (apart x (centre v i)) 2) (eqb (which_of v x) i)) (length (alignment v))
        (and_right (known_test (alignment v) (length (alignment v)) (side v) x) (centre_test (alignment v) (length (alignment v)) x) others) i (omega (arith, centres_length)))

    -- of a column whose centre is number i
    module _ (i : ℕ) (number : which_of v x ≡ i) (few : i < centres v) where
      of_centre : T (known (alignment v) (length (alignment v)) (side v) x i)
      unfolding known_test
      of_centre =
          let t : T (known_test (alignment v) (length (alignment v)) (side v) x) = and_left (known_test (alignment v) (length (alignment v)) (side v) x) (centre_test (alignment v) (length (alignment v)) x) others in
          rw number at
          (implies_use (ltb (which_of v x) (length (alignment v))) (known (alignment v) (length (alignment v)) (side v) x (which_of v x)) t
          (true_T (ltb (which_of v x) (length (alignment v))) (lt-ltb (which_of v x) (length (alignment v)) (omega (arith, centres_length)))))

      ends : T (alike (ltb x 9) (eqb i 0) && alike (leb (side v - 9) x) (eqb (i + 1) (length (alignment v))))
      unfolding known
      ends = and_right (eqb (nearest (alignment v) x) (apart x (centre v i))) _ of_centre

      pub distance : nearest (alignment v) x ≡ apart x (centre v i)
      unfolding known
      distance = eqb→eq (nearest (alignment v) x) (apart x (centre v i)) (and_left (eqb (nearest (alignment v) x) (apart x (centre v i))) _ of_centre)

      pub at_left : ltb x 9 ≡ eqb i 0
      at_left = alike_eq (ltb x 9) (eqb i 0) (and_left (alike (ltb x 9) (eqb i 0)) _ ends)

      pub at_right : leb (side v - 9) x ≡ eqb (i + 1) (centres v)
      at_right = rw (← centres_length) (alike_eq (leb (side v - 9) x) (eqb (i + 1) (length (alignment v))) (and_right (alike (ltb x 9) (eqb i 0)) _ ends))

-- ---- a pattern around a centre lies in the grid

range_at : ℕ → ℕ → Bool
range_at s c = leb 6 c && leb (c + 7) s

ranges : ℕ → Bool
ranges v = every (range_at (side v)) (alignment v)

all_ranges : T (among 2 39 ranges)
unfolding ranges range_at alignment_step alignment
all_ranges = tt

module _ (v i x : ℕ) (low : 2 ≤ v) (high : v ≤ 40) (few : i < centres v) (is : x ≡ centre v i) where
  in_range : T (range_at (side v) (centre v i))
  unfolding ranges
  in_range = every_at (range_at (side v)) (alignment v) i 0 (each_of ranges 2 39 all_ranges v low (omega arith)) (omega (arith, centres_length v low high))

  pub centre_from : 6 ≤ x
  unfolding range_at
  centre_from = rw is (leb→le 6 (centre v i) (and_left (leb 6 (centre v i)) (leb (centre v i + 7) (side v)) in_range))

  pub centre_to : x + 7 ≤ side v
  unfolding range_at
  centre_to = rw is (leb→le (centre v i + 7) (side v) (and_right (leb 6 (centre v i)) (leb (centre v i + 7) (side v)) in_range))

-- ---- positions in an array: its first n elements are the centres

abbrev pub Positions : ℕ → ℕ → List ℕ → Type 0
Positions v n at = (n ≡ length (alignment v)) × (at ≡ alignment v ++ replicate (7 - n) 0)

module _ (v n : ℕ) (at : List ℕ) (low : 1 ≤ v) (high : v ≤ 40) (is : Positions v n at) (i : ℕ) (few : i < n) where
  -- version 1 has none
  pub two : 2 ≤ v
  unfolding alignment
  two = split v 2 none (λ h. h)
    where
      none : v < 2 → 2 ≤ v
      none h =
          let one : v ≡ 1 = omega arith in
          let empty : length (alignment v) ≡ 0 = ap (λ (k : ℕ). length (alignment k)) one in
          absurd (omega (arith, is.0, empty))

  pub count : n ≡ centres v
  count = is.0 ∙ centres_length v two high

  pub position : get_or at i 0 ≡ centre v i
  position = ap (λ (l : List ℕ). get_or l i 0) is.1 ∙ get_or-append (alignment v) (replicate (7 - n) 0) 0 i (omega (arith, is.0))

  -- the pattern lies in the grid
  pub inside : (size : ℕ) → size ≡ side v → (2 ≤ get_or at i 0) × (get_or at i 0 + 2 < size)
  inside size e =
      let few' : i < centres v = omega (arith, count) in
      (omega (arith, centre_from v i (get_or at i 0) two high few' position), omega (arith, centre_to v i (get_or at i 0) two high few' position))
