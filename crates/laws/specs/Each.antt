-- A loop over one list by its index that rewrites each element.
-- Assumes nothing.
use Rattle.std.specs.Prelude.{◌≡◌, ℕ, ◌+◌, ◌-◌, ◌≤◌, ◌<◌, set, take, ltb, ◌⊎◌}
use Rattle.std.proofs.Math.Path.{refl, ap}
use Rattle.std.proofs.Common.{sym, ap₂, ◌∙◌, length-set, length-append, length-drop, get_or-set_same, get_or-set_other, length-take-le, inl, inr}
use mathlib.Core.List.{List, ◌++◌}
use Rattle.std.proofs.Math.Bool.{cond}
use native.Mathlib.Omega.{arith}
use Rattle.std.proofs.Math.ListN.{length, get_or, drop, get_or-append}
use Rattle.std.proofs.Math.Seq.{get_or-take, get_or-drop, get_or-append-add}
use borrow.Author.Tests.{lt-ltb, le-ltb}
use Rattle.standard.specs.Numbers.{tabulate}
use Rattle.laws.specs.Tests.{compared, split}
use Rattle.laws.specs.Lists.{length_tabulate, get_d_tabulate, is_tabulate}

-- each element by a function of its index and its value
unfoldable pub each : (ℕ → ℕ → ℕ) → List ℕ → List ℕ
each f g = tabulate (length g) (λ k. f k (get_or g k 0))

-- the first n elements so
pub each_done : ℕ → (ℕ → ℕ → ℕ) → List ℕ → List ℕ
each_done n f g = tabulate (length g) (λ k. cond (ltb k n) (f k (get_or g k 0)) (get_or g k 0))

module _ (f : ℕ → ℕ → ℕ) (g : List ℕ) where
  pub each_start : g ≡ each_done 0 f g
  unfolding each_done
  each_start = is_tabulate 0 g (length g) _ refl (λ i h. rw (le-ltb i 0 (omega arith)))

  pub each_length : (n : ℕ) → length (each_done n f g) ≡ length g
  unfolding each_done
  each_length n = length_tabulate (length g) _

  -- an element that is not reached yet
  pub each_read : (n k : ℕ) (h : List ℕ) → h ≡ each_done n f g → n ≤ k → k < length g → get_or h k 0 ≡ get_or g k 0
  unfolding each_done
  each_read n k h e l b = rw e (get_d_tabulate (length g) _ k 0 b ∙ rw (le-ltb k n l))

  -- an element that was reached
  pub each_reached : (n k : ℕ) (h : List ℕ) → h ≡ each_done n f g → k < n → k < length g → get_or h k 0 ≡ f k (get_or g k 0)
  unfolding each_done
  each_reached n k h e l b = rw e (get_d_tabulate (length g) _ k 0 b ∙ rw (lt-ltb k n l))

  pub each_next : (n w m : ℕ) (h : List ℕ) → h ≡ each_done n f g → length h ≡ m → n < m → w ≡ f n (get_or h n 0) → set h n w ≡ each_done (n + 1) f g
  unfolding each_done
  each_next n w m h e lm bm q = is_tabulate 0 (set h n w) (length g) _ (length-set h n w ∙ same) go
    where
      same : length h ≡ length g
      same = ap length e ∙ each_length n

      b : n < length h
      b = omega arith

      go : (i : ℕ) → i < length g → get_or (set h n w) i 0 ≡ cond (ltb i (n + 1)) (f i (get_or g i 0)) (get_or g i 0)
      go i l = at (compared i n)
        where
          old : get_or h i 0 ≡ cond (ltb i n) (f i (get_or g i 0)) (get_or g i 0)
          old = rw e (get_d_tabulate (length g) _ i 0 l)

          at : (i < n) ⊎ ((i ≡ n) ⊎ (n < i)) → get_or (set h n w) i 0 ≡ cond (ltb i (n + 1)) (f i (get_or g i 0)) (get_or g i 0)
          at (inl d) = rw (lt-ltb i (n + 1) (omega arith)) (get_or-set_other h n i w 0 (λ z. omega arith) ∙ old ∙ rw (lt-ltb i n d))
          at (inr (inl d)) =
              rw (lt-ltb i (n + 1) (omega arith), d)
              (get_or-set_same h n w 0 b ∙ q ∙ ap (f n) (each_read n n h e (omega arith) (omega (arith, same))))
          at (inr (inr d)) = rw (le-ltb i (n + 1) (omega arith)) (get_or-set_other h n i w 0 (λ z. omega arith) ∙ old ∙ rw (le-ltb i n (omega arith)))

  pub each_end : (n m : ℕ) (h : List ℕ) → h ≡ each_done n f g → length h ≡ m → m ≤ n → h ≡ each f g
  unfolding each_done each
  each_end n m h e lm l = is_tabulate 0 h (length g) _ same (λ i b. rw e (get_d_tabulate (length g) _ i 0 b ∙ rw (lt-ltb i n (omega (arith, same)))))
    where
      same : length h ≡ length g
      same = ap length e ∙ each_length n

-- ---- a part of a list is rewritten at a time

module _ (f q : ℕ → ℕ → ℕ) (g h i : List ℕ) (at d : ℕ) (e : h ≡ each_done at f g) (room : at + d ≤ length g)
    (same : (j v : ℕ) → j < d → q j v ≡ f (at + j) v) (is : i ≡ each q (take d (drop at h))) where
  long : length h ≡ length g
  long = ap length e ∙ each_length f g at

  front : length (take at h) ≡ at
  front = length-take-le at h (omega (arith, long))

  part : length (take d (drop at h)) ≡ d
  part = length-take-le d (drop at h) (omega (arith, long, length-drop at h))

  middle : length i ≡ d
  unfolding each
  middle = ap length is ∙ length_tabulate (length (take d (drop at h))) _ ∙ part

  whole : length (take at h ++ (i ++ drop d (drop at h))) ≡ length g
  whole =
      length-append (take at h) (i ++ drop d (drop at h)) ∙ ap₂ ◌+◌ front (length-append i (drop d (drop at h)) ∙ ap₂ ◌+◌ middle (length-drop d (drop at h)))
      ∙ omega (arith, long, length-drop at h)

  old : (k : ℕ) → at ≤ k → k < length g → get_or h k 0 ≡ get_or g k 0
  old k l b = each_read f g at k h e l b

  early : (k : ℕ) → k < at → k < length g → get_or (take at h ++ (i ++ drop d (drop at h))) k 0 ≡ cond (ltb k (at + d)) (f k (get_or g k 0)) (get_or g k 0)
  unfolding each_done
  early k l b =
      get_or-append (take at h) (i ++ drop d (drop at h)) 0 k (omega (arith, front))
      ∙ get_or-take at h k 0 l
      ∙ ap (λ (r : List ℕ). get_or r k 0) e
      ∙ get_d_tabulate (length g) _ k 0 b
      ∙ rw (lt-ltb k at l, lt-ltb k (at + d) (omega arith))

  inside : (j : ℕ) → j < d → get_or (take at h ++ (i ++ drop d (drop at h))) (at + j) 0 ≡ f (at + j) (get_or g (at + j) 0)
  unfolding each
  inside j l =
      ap (λ (n : ℕ). get_or (take at h ++ (i ++ drop d (drop at h))) (n + j) 0) (sym front)
      ∙ get_or-append-add (take at h) (i ++ drop d (drop at h)) j 0
      ∙ get_or-append i (drop d (drop at h)) 0 j (omega (arith, middle))
      ∙ ap (λ (r : List ℕ). get_or r j 0) is
      ∙ get_d_tabulate (length (take d (drop at h))) _ j 0 (omega (arith, part))
      ∙ same j (get_or (take d (drop at h)) j 0) l
      ∙ ap (f (at + j)) (get_or-take d (drop at h) j 0 l ∙ get_or-drop at h j 0 ∙ old (at + j) (omega arith) (omega arith))

  late : (j : ℕ) → at + d + j < length g → get_or (take at h ++ (i ++ drop d (drop at h))) (at + d + j) 0 ≡ get_or g (at + d + j) 0
  late j l =
      let a : at + d + j ≡ length (take at h) + (d + j) = omega (arith, front) in
      let b : d + j ≡ length i + j = omega (arith, middle) in
      let c : at + (d + j) ≡ at + d + j = omega arith in
      ap (λ (n : ℕ). get_or (take at h ++ (i ++ drop d (drop at h))) n 0) a
      ∙ get_or-append-add (take at h) (i ++ drop d (drop at h)) (d + j) 0
      ∙ ap (λ (n : ℕ). get_or (i ++ drop d (drop at h)) n 0) b
      ∙ get_or-append-add i (drop d (drop at h)) j 0
      ∙ get_or-drop d (drop at h) j 0
      ∙ get_or-drop at h (d + j) 0
      ∙ ap (λ (n : ℕ). get_or h n 0) c
      ∙ old (at + d + j) (omega arith) l

  pub each_part : take at h ++ (i ++ drop d (drop at h)) ≡ each_done (at + d) f g
  unfolding each_done
  each_part = is_tabulate 0 (take at h ++ (i ++ drop d (drop at h))) (length g) _ whole go
    where
      go : (k : ℕ) → k < length g → get_or (take at h ++ (i ++ drop d (drop at h))) k 0 ≡ cond (ltb k (at + d)) (f k (get_or g k 0)) (get_or g k 0)
      go k b = split k at (λ l. early k l b) (λ l. split k (at + d) (near l) (far l))
        where
          near : at ≤ k → k < at + d → get_or (take at h ++ (i ++ drop d (drop at h))) k 0 ≡ cond (ltb k (at + d)) (f k (get_or g k 0)) (get_or g k 0)
          near l m =
              let z : at + (k - at) ≡ k = omega arith in
              rw (lt-ltb k (at + d) m) (rw z at (inside (k - at) (omega arith)))

          far : at ≤ k → at + d ≤ k → get_or (take at h ++ (i ++ drop d (drop at h))) k 0 ≡ cond (ltb k (at + d)) (f k (get_or g k 0)) (get_or g k 0)
          far l m =
              let z : at + d + (k - (at + d)) ≡ k = omega arith in
              rw (le-ltb k (at + d) m) (rw z at (late (k - (at + d)) (omega arith)))
