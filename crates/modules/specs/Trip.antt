-- What is laid along the zigzag is read back: the path meets no cell twice, and bits that are shifted in make the bytes again.
-- Assumes nothing.
use Rattle.std.specs.Prelude.{◌≡◌, ◌≢◌, List, Bool, cond, ◌&&◌, length, set, replicate}
use Rattle.std.proofs.Math.Path.{refl, sym, ap}
use Rattle.std.proofs.Common.{◌∙◌, subst, ⊎_elim, arith, not-suc-le-zero, eq-or-lt_of_le, le_of_suc-le-suc, mod-eq_of_lt, length-set, get_or-set_other, shr-shr}
use Rattle.std.proofs.Math.Bool.{true, false}
use Prim.Native.Nat.{ℕ, zero, suc, ◌+◌, ◌-◌, ◌*◌, ◌/◌, ◌%◌, ◌^◌, ◌≤◌, ◌<◌}
use Rattle.std.proofs.Math.Nat.{zero-div}
use Rattle.std.proofs.Math.ListN.{get_or}
use Rattle.std.proofs.lemmas.List.{length-replicate}
use Rattle.std.proofs.Math.Seq.{get_or-set_same, ext_get_or}
use Rattle.std.proofs.Math.Arith.{digits_div, digits_mod}
use Rattle.std.proofs.Math.Pow.{mod-mod-pow}
use Rattle.std.proofs.lemmas.Nat.{mod-pow-add}
use Rattle.std.proofs.Math.Dec.{ltb}
use borrow.Author.Tests.{ltb-true, ltb-false}
use Rattle.standard.specs.Path.{cell}
use Rattle.laws.specs.Tests.{split}
use Rattle.counts.specs.Zigzag.{cell_lt, cell_injective}
use Rattle.modules.specs.Zigzag.{Laid, Laid.laid, lay_at, read_at, walk, walk_suc, list_of, used_of, path_length, path_count, bit_of, drawn, collected, put, skip_end, skip_function, read_bit, read_end, read_function}
use Rattle.modules.specs.Zeroed.{Low, reading, reading_suc, reading_low}

-- ---- bits that are shifted in

-- r bits of c are the low bits of o; one more is shifted in
shift_in : (r j o c : ℕ) → j + r ≡ 7 → o % 2 ^ r ≡ c / 2 ^ (j + 1) → (o % 128 * 2 + c / 2 ^ j % 2) % 2 ^ (r + 1) ≡ c / 2 ^ j
shift_in r j o c e h =
    let b : c / 2 ^ j % 2 < 2 = omega arith in
    let m : o % 128 % 2 ^ r ≡ o % 2 ^ r = subst (λ (n : ℕ). o % 2 ^ n % 2 ^ r ≡ o % 2 ^ r) e (mod-mod-pow o j r) in
    let d : c / 2 ^ (j + 1) ≡ c / 2 ^ j / 2 = sym (shr-shr c j 1) in
    let z : (o % 128 * 2 + c / 2 ^ j % 2) / 2 % 2 ^ r ≡ c / 2 ^ j / 2 = ap (λ (x : ℕ). x % 2 ^ r) (digits_div (o % 128) b) ∙ m ∙ h ∙ d in
    let y : (o % 128 * 2 + c / 2 ^ j % 2) % 2 ≡ c / 2 ^ j % 2 = digits_mod (o % 128) b in
    mod-pow-add (o % 128 * 2 + c / 2 ^ j % 2) r 1 ∙ rw (z, y) (omega arith)

-- i bits of cs are in o: its first i / 8 bytes are those of cs, and the low bits of the next are the first i % 8 bits of the byte of cs
record Good (cs o : List ℕ) (i : ℕ) : Type 0 where
  size : length o ≡ length cs
  done : (b : ℕ) → b < i / 8 → get_or o b 0 ≡ get_or cs b 0
  part : get_or o (i / 8) 0 % 2 ^ (i % 8) ≡ get_or cs (i / 8) 0 / 2 ^ (8 - i % 8)

module _ (cs : List ℕ) (bytes : (b : ℕ) → get_or cs b 0 < 256) where
  good_start : (o : List ℕ) → length o ≡ length cs → Good cs o 0
  good_start o e = record { size = e; done = λ b h. absurd (not-suc-le-zero h); part = omega (arith, bytes 0) }

  good_next : (o : List ℕ) (i : ℕ) → Good cs o i → i < length cs * 8 → Good cs (set o (i / 8) (get_or o (i / 8) 0 % 128 * 2 + bit_of cs i)) (i + 1)
  unfolding bit_of
  good_next o i g h = split (i % 8) 7 within (λ l. last (omega arith))
    where
      O : ℕ
      O = get_or o (i / 8) 0

      C : ℕ
      C = get_or cs (i / 8) 0

      W : ℕ
      W = O % 128 * 2 + C / 2 ^ (7 - i % 8) % 2

      at : get_or (set o (i / 8) W) (i / 8) 0 ≡ W
      at = get_or-set_same o (i / 8) W 0 (omega (arith, g.size))

      other : (b : ℕ) → b < i / 8 → get_or (set o (i / 8) W) b 0 ≡ get_or cs b 0
      other b l = get_or-set_other o (i / 8) b W 0 (λ e. omega arith) ∙ g.done b l

      shifted : W % 2 ^ (i % 8 + 1) ≡ C / 2 ^ (7 - i % 8)
      shifted =
          let e : 8 - i % 8 ≡ 7 - i % 8 + 1 = omega arith in
          shift_in (i % 8) (7 - i % 8) O C (omega arith) (g.part ∙ ap (λ (n : ℕ). C / 2 ^ n) e)

      within : i % 8 < 7 → Good cs (set o (i / 8) W) (i + 1)
      within l =
          let q : (i + 1) / 8 ≡ i / 8 = omega arith in
          let r : (i + 1) % 8 ≡ i % 8 + 1 = omega arith in
          let e : 8 - (i % 8 + 1) ≡ 7 - i % 8 = omega arith in
          record {
            size = length-set o (i / 8) W ∙ g.size;
            done = λ b k. other b (omega arith);
            part = rw (q, r, at, e) shifted;
          }

      last : i % 8 ≡ 7 → Good cs (set o (i / 8) W) (i + 1)
      last l =
          let q : (i + 1) / 8 ≡ i / 8 + 1 = omega arith in
          let r : (i + 1) % 8 ≡ 0 = omega arith in
          let whole : W % 256 ≡ C / 1 = ap (λ (n : ℕ). W % 2 ^ (n + 1)) (sym l) ∙ shifted ∙ ap (λ (n : ℕ). C / 2 ^ (7 - n)) l in
          let same : W ≡ C = omega arith in
          record {
            size = length-set o (i / 8) W ∙ g.size;
            done = λ b k. ⊎_elim (λ e. subst (λ (n : ℕ). get_or (set o (i / 8) W) n 0 ≡ get_or cs n 0) (sym e) (at ∙ same)) (other b) (eq-or-lt_of_le (omega arith));
            part = rw (q, r) (omega (arith, bytes (i / 8 + 1)));
          }

-- ---- what is laid is read back

bit_lt : (cs : List ℕ) (i : ℕ) → bit_of cs i < 2
unfolding bit_of
bit_lt cs i = omega arith

-- a cell's step changes no other cell, and no length
lay_other : (cs : List ℕ) (s : Laid) (at b : ℕ) → b ≢ at → get_or (list_of (lay_at cs at s)) b 0 ≡ get_or (list_of s) b 0
unfolding lay_at
lay_other cs (laid h i) at b ne = go (ltb (get_or h at 0) 2 && ltb i (length cs * 8))
  where
    go : (t : Bool) → get_or (list_of (cond t (laid (set h at (bit_of cs i)) (i + 1)) (laid h i))) b 0 ≡ get_or h b 0
    go true = get_or-set_other h at b (bit_of cs i) 0 ne
    go false = refl

lay_length : (cs : List ℕ) (s : Laid) (at : ℕ) → length (list_of (lay_at cs at s)) ≡ length (list_of s)
unfolding lay_at
lay_length cs (laid h i) at = go (ltb (get_or h at 0) 2 && ltb i (length cs * 8))
  where
    go : (t : Bool) → length (list_of (cond t (laid (set h at (bit_of cs i)) (i + 1)) (laid h i))) ≡ length h
    go true = length-set h at (bit_of cs i)
    go false = refl

-- one cell, laid and then read in the grid G that holds what was laid there
module _ (cs : List ℕ) (bytes : (b : ℕ) → get_or cs b 0 < 256) (h o G : List ℕ) (i at : ℕ) (inside : at < length h) (good : Good cs o i)
    (same : get_or G at 0 ≡ get_or (list_of (lay_at cs at (laid h i))) at 0) where
  Step : Laid → Laid → Type 0
  Step r l = (used_of r ≡ used_of l) × Good cs (list_of r) (used_of l)

  step : Step (read_at G at (laid o i)) (lay_at cs at (laid h i))
  unfolding Step used_of
  step = go (ltb (get_or h at 0) 2) refl (ltb i (length cs * 8)) refl
    where
      go : (a : Bool) → ltb (get_or h at 0) 2 ≡ a → (b : Bool) → ltb i (length cs * 8) ≡ b → Step (read_at G at (laid o i)) (lay_at cs at (laid h i))
      go true p true q =
          let l : lay_at cs at (laid h i) ≡ laid (set h at (bit_of cs i)) (i + 1) = sym (put cs h i at at (bit_of cs i) refl (ltb-true (get_or h at 0) 2 p) (ltb-true i (length cs * 8) q) refl) in
          let v : get_or G at 0 ≡ bit_of cs i = same ∙ ap (λ (s : Laid). get_or (list_of s) at 0) l ∙ get_or-set_same h at (bit_of cs i) 0 inside in
          let r : read_at G at (laid o i) ≡ laid (set o (i / 8) (get_or o (i / 8) 0 % 128 * 2 + get_or G at 0)) (i + 1) =
          sym (read_bit G o i at at refl (omega (arith, v, bit_lt cs i)) (omega (arith, good.size, ltb-true i (length cs * 8) q))) in
          rw (l, r, v) (refl, good_next cs bytes o i good (ltb-true i (length cs * 8) q))
      go true p false q =
          let l : lay_at cs at (laid h i) ≡ laid h i = sym (skip_end cs h i at at (ltb-false i (length cs * 8) q)) in
          let r : read_at G at (laid o i) ≡ laid o i = sym (read_end G o i at at (omega (arith, good.size, ltb-false i (length cs * 8) q))) in
          rw (l, r) (refl, good)
      go false p b q =
          let l : lay_at cs at (laid h i) ≡ laid h i = sym (skip_function cs h i at at refl (ltb-false (get_or h at 0) 2 p)) in
          let v : get_or G at 0 ≡ get_or h at 0 = same ∙ ap (λ (s : Laid). get_or (list_of s) at 0) l in
          let r : read_at G at (laid o i) ≡ laid o i = sym (read_function G o i at at refl (omega (arith, v, ltb-false (get_or h at 0) 2 p))) in
          rw (l, r) (refl, good)

step_all : (cs : List ℕ) → ((b : ℕ) → get_or cs b 0 < 256) → (G : List ℕ) (at : ℕ) (s r : Laid) → at < length (list_of s) → used_of r ≡ used_of s → Good cs (list_of r) (used_of s)
    → get_or G at 0 ≡ get_or (list_of (lay_at cs at s)) at 0
    → (used_of (read_at G at r) ≡ used_of (lay_at cs at s)) × Good cs (list_of (read_at G at r)) (used_of (lay_at cs at s))
unfolding used_of Step
step_all cs bytes G at (laid h i) (laid o k) inside e good same = rw e (step cs bytes h o G i at inside good same)

-- how many bits find a cell
unfoldable pub bits_laid : ℕ → List ℕ → List ℕ → ℕ
bits_laid side cs g = used_of (walk side (lay_at cs) 0 (path_length side) (laid g 0))

module _ (half side : ℕ) (odd : side ≡ 2 * half + 1) (big : 4 ≤ half) (cs g : List ℕ) (size : length g ≡ side * side) where
  below : (n : ℕ) → n < path_length side → n < side * (side - 1)
  below n l = omega (arith, path_count half side odd)

  S : ℕ → Laid
  S n = walk side (lay_at cs) 0 n (laid g 0)

  S_suc : (n : ℕ) → S (suc n) ≡ lay_at cs (cell side n) (S n)
  unfolding S
  S_suc n = walk_suc side (lay_at cs) n (laid g 0)

  S_length : (n : ℕ) → length (list_of (S n)) ≡ side * side
  unfolding S walk
  S_length zero = size
  S_length (suc n) = lay_length cs (S n) (cell side (0 + n)) ∙ S_length n

  -- what stands in cell k after its step stands there to the end
  keep : (k m : ℕ) → k < m → m ≤ path_length side → get_or (list_of (S m)) (cell side k) 0 ≡ get_or (list_of (S (suc k))) (cell side k) 0
  keep k zero h l = absurd (not-suc-le-zero h)
  keep k (suc m) h l =
      ⊎_elim (λ e. ap (λ (n : ℕ). get_or (list_of (S (suc n))) (cell side k) 0) (sym e))
      (λ d.
      rw (S_suc m)
      (lay_other cs (S m) (cell side m) (cell side k) (λ e. let q = cell_injective half side k m odd big (below k (omega arith)) (below m (omega arith)) e in omega arith) ∙ keep k m d (omega arith)))
      (eq-or-lt_of_le (le_of_suc-le-suc h))

  module _ (bytes : (b : ℕ) → get_or cs b 0 < 256) where
    R : ℕ → Laid
    R n = reading side (length cs) (list_of (S (path_length side))) n

    start : (used_of (R 0) ≡ used_of (S 0)) × Good cs (list_of (R 0)) (used_of (S 0))
    unfolding R S reading walk used_of
    start = (refl, good_start cs bytes (replicate (length cs) 0) (length-replicate (length cs) 0))

    both_steps : (n : ℕ) → n ≤ path_length side → (used_of (R n) ≡ used_of (S n)) × Good cs (list_of (R n)) (used_of (S n))
    unfolding R
    both_steps zero l = start
    both_steps (suc n) l =
        let ih = both_steps n (omega arith) in
        rw (S_suc n, reading_suc side (length cs) (list_of (S (path_length side))) n)
        (step_all cs bytes (list_of (S (path_length side))) (cell side n) (S n) (R n) (omega (arith, S_length n, cell_lt half side n odd big (below n l))) ih.0 ih.1
        (keep n (path_length side) l (omega arith) ∙ rw (S_suc n)))

    -- a byte that found not all its cells is 0
    late : (o : List ℕ) (i b : ℕ) → Low o i → Good cs o i → i / 8 ≤ b → get_or cs b 0 ≡ 0 → get_or o b 0 ≡ 0
    late o i b low good h z = ⊎_elim here (λ l. low.rest b l) (eq-or-lt_of_le h)
      where
        here : i / 8 ≡ b → get_or o b 0 ≡ 0
        here e =
            let z' : get_or cs (i / 8) 0 ≡ 0 = ap (λ (n : ℕ). get_or cs n 0) e ∙ z in
            ap (λ (n : ℕ). get_or o n 0) (sym e) ∙ sym (mod-eq_of_lt low.part) ∙ good.part ∙ ap (λ (n : ℕ). n / 2 ^ (8 - i % 8)) z' ∙ zero-div (2 ^ (8 - i % 8))

    -- WHAT IS LAID IS READ BACK into zeroed bytes, if bytes for which the path has not enough cells are 0
    pub read_back : ((b : ℕ) → bits_laid side cs g / 8 ≤ b → get_or cs b 0 ≡ 0) → collected side (drawn side cs g) (replicate (length cs) 0) ≡ cs
    unfolding R S reading bits_laid
    read_back zeros =
        let end = both_steps (path_length side) (omega arith) in
        let low = reading_low side (length cs) (list_of (S (path_length side))) (path_length side) in
        ext_get_or 0 (list_of (R (path_length side))) cs end.1.size
        (λ b h.
        split b (bits_laid side cs g / 8) (end.1.done b)
        (λ l. late (list_of (R (path_length side))) (bits_laid side cs g) b (subst (Low (list_of (R (path_length side)))) end.0 low) end.1 l (zeros b l) ∙ sym (zeros b l)))
