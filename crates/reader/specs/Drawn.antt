-- The tests that tell whether a grid is the one that the codewords of its data draw.
-- Assumes nothing.
use Rattle.std.specs.Prelude.{ℕ, suc, ◌+◌, ◌-◌, ◌*◌, ◌≤◌, ◌<◌, Bool, ◌&&◌, ◌≡◌, refl, T, leb, eqb, length, get_or, take, replicate}
use Rattle.std.proofs.Math.Bool.{true, false, and-true, and-false, and_assoc}
use Rattle.std.proofs.Common.{true≢false, sym, ap₂, ◌∙◌, leb→le, length-take, length-take-le, take_all, get_or-take}
use mathlib.Core.List.{List, [], ◌∷◌, ◌++◌}
use Rattle.std.proofs.Math.Path.{ap}
use native.Mathlib.Omega.{arith}
use Rattle.std.proofs.lemmas.List.{length-replicate}
use Rattle.std.proofs.Math.ListN.{get_or-eq_default}
use Rattle.std.proofs.Math.Seq.{take-suc}
use Rattle.standard.specs.Numbers.{same}
use Rattle.standard.specs.Sizes.{side, raw_codewords, data_codewords}
use Rattle.standard.specs.Blocks.{all_words}
use Rattle.standard.specs.Grid.{content, grid}
use Rattle.standard.proofs.Open.{opened}
use Rattle.laws.specs.Tests.{split}
use Rattle.laws.specs.Lists.{length_tabulate, get_d_tabulate}
use Rattle.laws.specs.Grid.{Square}
use Rattle.laws.specs.Computed.{among, at_version}
use Rattle.counts.specs.Ranges.{pair_range}
use Rattle.blocks.specs.Places.{all_long}
use Rattle.blocks.specs.Undo.{data_of}
use Rattle.modules.specs.Work.{Small}
use Rattle.modules.specs.Back.{read_grid, read_words, read_bytes}
use Rattle.modules.specs.Same.{agree_to, drawn_test}
use Rattle.types.specs.declared.QrCodeEcc.{QrCodeEcc}
use Rattle.types.specs.Numbers.{level_of}
use Rattle.types.specs.Laws.{level_le}
use Rattle.reader.specs.Labels.{all_bytes}
use Rattle.reader.specs.Recovered.{data_read}

-- ---- sizes

room_all : T (among 1 40 (λ v. leb (raw_codewords v) (side v * side v)))
unfolding opened
room_all = tt

-- a grid has room for the codewords
pub words_room : (v : ℕ) (all w : List ℕ) → length all ≡ raw_codewords v + 1 → Square w (side v) → 1 ≤ v → v ≤ 40 → length all - 1 ≤ length w
words_room v all w long square low high =
    let fits : raw_codewords v ≤ side v * side v = leb→le (raw_codewords v) (side v * side v) (at_version (λ v. leb (raw_codewords v) (side v * side v)) room_all v low high) in
    omega (arith, square.size)

pub data_long : (v l : ℕ) (all d : List ℕ) → d ≡ data_of v l all → length d ≡ data_codewords v l
unfolding data_of
data_long v l all d e = ap length e ∙ length_tabulate (data_codewords v l) _

pub zeros_long : (v n : ℕ) (z : List ℕ) → n ≡ length z → z ≡ replicate (raw_codewords v + 1) 0 → n ≡ raw_codewords v + 1
zeros_long v n z e q = e ∙ ap length q ∙ length-replicate {A = ℕ} (raw_codewords v + 1) 0

-- ---- bytes

data_bytes : (v l : ℕ) (all : List ℕ) → ((b : ℕ) → get_or all b 0 < 256) → (b : ℕ) → get_or (data_of v l all) b 0 < 256
unfolding data_of
data_bytes v l all h b =
    split b (data_codewords v l) (λ k. rw (get_d_tabulate {A = ℕ} (data_codewords v l) _ b 0 k) (h _))
    (λ k. let e : get_or (data_of v l all) b 0 ≡ 0 = get_or-eq_default (data_of v l all) 0 (omega (arith, data_long v l all (data_of v l all) refl)) in omega arith)

take_bytes : (n : ℕ) (all : List ℕ) → ((b : ℕ) → get_or all b 0 < 256) → (b : ℕ) → get_or (take n all) b 0 < 256
take_bytes n all h b =
    split b n (λ k. rw (get_or-take n all b 0 k) (h b))
    (λ k. let e : get_or (take n all) b 0 ≡ 0 = get_or-eq_default (take n all) 0 (omega (arith, length-take n all)) in omega arith)

-- ---- what is read

module _ (v l m : ℕ) (g all z d : List ℕ) (read : all ≡ read_words v l m g z) (zeros : z ≡ replicate (raw_codewords v + 1) 0) (is : d ≡ data_of v l (take (raw_codewords v) all)) where
  words_read : all ≡ read_words v l m g (replicate (raw_codewords v + 1) 0)
  words_read = read ∙ ap (read_words v l m g) zeros

  pub data_read_lem : d ≡ data_read v l m g
  data_read_lem = is ∙ ap (λ (x : List ℕ). data_of v l (take (raw_codewords v) x)) words_read

  bytes : (b : ℕ) → get_or d b 0 < 256
  bytes =
      rw data_read_lem
      (data_bytes v l (take (raw_codewords v) (read_words v l m g (replicate (raw_codewords v + 1) 0)))
      (take_bytes (raw_codewords v) (read_words v l m g (replicate (raw_codewords v + 1) 0)) (read_bytes v l m (raw_codewords v + 1) g)))

  -- THE LAW: the tests pass exactly if the grid is drawn by the codewords of its data
  pub told_drawn : (w : List ℕ) (r : Bool) → w ≡ read_grid v l m g → length w ≡ side v * side v → r ≡ agree_to (length w) g w && same all (all_words v l d ++ (0 ∷ []))
      → length g ≡ side v * side v → Small v g → 1 ≤ v → v ≤ 40 → l ≤ 3 → r ≡ same g (grid v l m (content v (all_words v l d)))
  told_drawn w r e long q size small low high level =
      let full : length d ≡ data_codewords v l = data_long v l (take (raw_codewords v) all) d is in
      q ∙ ap (λ (n : ℕ). agree_to n g w && same all (all_words v l d ++ (0 ∷ []))) long
      ∙ ap₂ (λ (x y : List ℕ). agree_to (side v * side v) g x && same y (all_words v l d ++ (0 ∷ []))) e words_read
      ∙ drawn_test v l m g (all_words v l d) low high size small (all_long v l d (pair_range v l low high level) full) (all_bytes v l d (pair_range v l low high level) full bytes)

-- ---- the returns of the code

pub functions_off : (a b r : Bool) → r ≡ a → r ≡ false → false ≡ a && b
functions_off a b true e f = absurd (true≢false f)
functions_off a b false e f = rw (← e)

same_last : (xs ys : List ℕ) (x y : ℕ) → length xs ≡ length ys → same (xs ++ (x ∷ [])) (ys ++ (y ∷ [])) ≡ same xs ys && eqb x y
same_last [] [] x y h = and-true (eqb x y)
same_last [] (b ∷ ys) x y h = absurd (omega arith)
same_last (a ∷ xs) [] x y h = absurd (omega arith)
same_last (a ∷ xs) (b ∷ ys) x y h = ap (λ (t : Bool). eqb a b && t) (same_last xs ys x y (omega arith)) ∙ sym (and_assoc (eqb a b) (same xs ys) (eqb x y))

module _ (v : ℕ) (ecl : QrCodeEcc) (a : Bool) (all d : List ℕ) (long : length all ≡ raw_codewords v + 1) (full : length d ≡ data_codewords v (level_of ecl)) (low : 1 ≤ v) (high : v ≤ 40) where
  n : ℕ
  n = length all - 1

  ws : List ℕ
  ws = all_words v (level_of ecl) d

  same_all : same all (ws ++ (0 ∷ [])) ≡ same (take n all) ws && eqb (get_or all n 0) 0
  unfolding n ws
  same_all =
      ap (λ (l : List ℕ). same l (ws ++ (0 ∷ []))) (sym (take_all (suc n) all (omega arith)) ∙ take-suc all n 0 (omega arith))
      ∙ same_last (take n all) ws (get_or all n 0) 0 (length-take-le n all (omega arith) ∙ omega (arith, all_long v (level_of ecl) d (pair_range v (level_of ecl) low high (level_le ecl)) full))

  pub last_off : eqb (get_or all (length all - 1) 0) 0 ≡ false → false ≡ a && same all (all_words v (level_of ecl) d ++ (0 ∷ []))
  unfolding n ws
  last_off h = rw (same_all, h, and-false (same (take n all) ws), and-false a)

  pub last_on : (b r : Bool) → b ≡ a → b ≡ true → eqb (get_or all (length all - 1) 0) 0 ≡ true → r ≡ same (take (length all - 1 - 0) all) (all_words v (level_of ecl) d)
      → r ≡ a && same all (all_words v (level_of ecl) d ++ (0 ∷ []))
  unfolding n ws
  last_on false r e f z q = absurd (true≢false (sym f))
  last_on true r e f z q =
      let k : n - 0 ≡ n = omega arith in
      rw (← e, same_all, z, ← (q ∙ ap (λ (i : ℕ). same (take i all) ws) k)) (sym (and-true r))

pub words_told : (v l : ℕ) (d all again : List ℕ) (r : Bool) → again ≡ all_words v l d → r ≡ same all again → r ≡ same all (all_words v l d)
words_told v l d all again r e f = f ∙ ap (same all) e

pub data_is : (v l n : ℕ) (all d : List ℕ) → d ≡ data_of v l (take (length all - 1 - 0) all) → length all ≡ n → n ≡ raw_codewords v + 1 → d ≡ data_of v l (take (raw_codewords v) all)
data_is v l n all d e long is =
    let k : length all - 1 - 0 ≡ raw_codewords v = omega arith in
    e ∙ ap (λ (n : ℕ). data_of v l (take n all)) k
