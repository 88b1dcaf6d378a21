-- Whether a grid is the one that codewords draw: its function modules and what is read of it tell that, and nothing is drawn again.
-- Assumes nothing.
use Prim.Native.Nat.{ℕ, ◌+◌, ◌*◌, ◌/◌, ◌%◌, ◌≤◌, ◌<◌}
use Rattle.std.specs.Prelude.{Bool, cond, ◌&&◌, ◌||◌, ◌≡◌, refl, ltb, eqb, length, replicate}
use Rattle.std.proofs.Math.Bool.{true, false}
use mathlib.Core.List.{List, [], ◌∷◌, ◌++◌}
use Rattle.std.proofs.Math.Path.{sym, ap}
use Rattle.std.proofs.Common.{◌∙◌, arith}
use Rattle.std.proofs.Math.ListN.{get_or}
use borrow.Author.Tests.{le-ltb, lt-ltb, eq-eqb, eqb-true}
use Rattle.standard.specs.Numbers.{one, same}
use Rattle.standard.specs.Sizes.{side, raw_codewords}
use Rattle.standard.specs.Format.{format_word}
use Rattle.standard.specs.Functions.{is_function, function_colour}
use Rattle.standard.specs.Masks.{inverts}
use Rattle.standard.specs.Grid.{content, module_at, grid}
use Rattle.laws.specs.Tests.{true_T, same_test, and_both, and_first, and_second}
use Rattle.laws.specs.Lists.{get_d_tabulate, is_tabulate, same_eq, same_refl}
use Rattle.laws.specs.All.{all_to, all_at, all_of}
use Rattle.modules.specs.Zigzag.{collected}
use Rattle.modules.specs.Work.{work_at, work, work_at_lem, turned, mask_content, mask_work, Small, content_small}
use Rattle.modules.specs.Finished.{colour_lt}
use Rattle.modules.specs.Back.{read_grid, read_words, read_work, read_label}
use Rattle.modules.specs.Injective.{read_injective}

-- a module c of a grid and w of a work grid: where w is a function module, c is its colour
unfoldable pub agree : ℕ → ℕ → Bool
agree c w = ltb w 2 || eqb (w % 2) c

-- the first n modules do
abbrev pub agree_to : ℕ → List ℕ → List ℕ → Bool
agree_to n g w = all_to n (λ k. agree (get_or g k 0) (get_or w k 0))

-- ---- one module

module _ (v l m : ℕ) (g : List ℕ) (small : Small v g) where
  word : ℕ
  word = format_word l m

  M : List ℕ
  M = mask_content v m g

  M_at : (i : ℕ) → i < side v * side v → get_or M i 0 ≡ (get_or g i 0 + one (inverts m (i % side v) (i / side v))) % 2
  unfolding M mask_content turned
  M_at i h = get_d_tabulate (side v * side v) (turned v m g) i 0 h

  M_small : Small v M
  M_small i h = omega (arith, M_at i h)

  -- what is read is a work grid
  is_work : read_grid v l m g ≡ work v word M
  unfolding read_grid word M
  is_work = mask_work v (format_word l m) m g small

  at : (i : ℕ) → i < side v * side v → get_or (read_grid v l m g) i 0 ≡ work_at v word M i
  at i h = ap (λ (r : List ℕ). get_or r i 0) is_work ∙ work_at_lem v word M i h

  at_function : (i : ℕ) → i < side v * side v → is_function v (i % side v) (i / side v) ≡ true → get_or (read_grid v l m g) i 0 ≡ 2 + function_colour v word (i % side v) (i / side v)
  unfolding work_at
  at_function i h f = at i h ∙ rw f

  at_data : (i : ℕ) → i < side v * side v → is_function v (i % side v) (i / side v) ≡ false → get_or (read_grid v l m g) i 0 ≡ get_or M i 0
  unfolding work_at
  at_data i h f = at i h ∙ rw f

  function_is : (i : ℕ) → i < side v * side v → is_function v (i % side v) (i / side v) ≡ true
      → agree (get_or g i 0) (get_or (read_grid v l m g) i 0) ≡ eqb (function_colour v word (i % side v) (i / side v)) (get_or g i 0)
  unfolding agree
  function_is i h f =
      let c : ℕ = function_colour v word (i % side v) (i / side v) in
      let low : (2 + c) % 2 ≡ c = omega (arith, colour_lt v word (i % side v) (i / side v)) in
      rw (at_function i h f, le-ltb (2 + c) 2 (omega arith), low)

  data_is : (i : ℕ) → i < side v * side v → is_function v (i % side v) (i / side v) ≡ false → agree (get_or g i 0) (get_or (read_grid v l m g) i 0) ≡ true
  unfolding agree
  data_is i h f = rw (at_data i h f, lt-ltb (get_or M i 0) 2 (M_small i h))

-- ---- the whole grid

module _ (v l m : ℕ) (g ws : List ℕ) (low : 1 ≤ v) (high : v ≤ 40) (size : length g ≡ side v * side v) (small : Small v g)
    (all : length ws ≡ raw_codewords v) (bytes : (b : ℕ) → get_or ws b 0 < 256) where
  Z : List ℕ
  Z = replicate (raw_codewords v + 1) 0

  plain : (c : List ℕ) (i : ℕ) → i < side v * side v → is_function v (i % side v) (i / side v) ≡ false → get_or (work v (format_word l m) c) i 0 ≡ get_or c i 0
  unfolding work_at
  plain c i h f = work_at_lem v (format_word l m) c i h ∙ rw f

  drawn_only : agree_to (side v * side v) g (read_grid v l m g) ≡ true → read_words v l m g Z ≡ ws ++ (0 ∷ []) → g ≡ grid v l m (content v ws)
  unfolding grid module_at word M Z read_words raw_codewords
  drawn_only t e =
      is_tabulate 0 g (side v * side v) (module_at v (format_word l m) m (content v ws)) size (λ i h. go i h (is_function v (i % side v) (i / side v)) refl)
    where
      read : collected (side v) (work v (format_word l m) (mask_content v m g)) Z ≡ collected (side v) (work v (format_word l m) (content v ws)) Z
      read =
          ap (λ (r : List ℕ). collected (side v) r Z) (sym (is_work v l m g small)) ∙ e
          ∙ sym (read_work v (format_word l m) ws low high all bytes)

      go : (i : ℕ) → i < side v * side v → (b : Bool) → is_function v (i % side v) (i / side v) ≡ b
          → get_or g i 0 ≡ cond b (function_colour v (format_word l m) (i % side v) (i / side v)) ((get_or (content v ws) i 0 + one (inverts m (i % side v) (i / side v))) % 2)
      go i h true f =
          sym (eqb-true _ (get_or g i 0) (sym (function_is v l m g small i h f) ∙ all_at (λ k. agree (get_or g k 0) (get_or (read_grid v l m g) k 0)) (side v * side v) i t h))
      go i h false f =
          let x = read_injective v (format_word l m) (raw_codewords v + 1) (mask_content v m g) (content v ws) low high (omega arith) (M_small v l m g small) (content_small v ws) read i h f in
          let y : get_or (mask_content v m g) i 0 ≡ get_or (content v ws) i 0 =
          sym (plain (mask_content v m g) i h f) ∙ x ∙ plain (content v ws) i h f in
          omega (arith, y, M_at v l m g small i h, small i h)

  agrees : g ≡ grid v l m (content v ws) → agree_to (side v * side v) g (read_grid v l m g) ≡ true
  unfolding grid module_at word
  agrees e = all_of (λ k. agree (get_or g k 0) (get_or (read_grid v l m g) k 0)) (side v * side v) (λ i h. go i h (is_function v (i % side v) (i / side v)) refl)
    where
      go : (i : ℕ) → i < side v * side v → (b : Bool) → is_function v (i % side v) (i / side v) ≡ b → agree (get_or g i 0) (get_or (read_grid v l m g) i 0) ≡ true
      go i h true f =
          function_is v l m g small i h f
          ∙ eq-eqb _ (get_or g i 0) (sym (ap (λ (r : List ℕ). get_or r i 0) e ∙ get_d_tabulate (side v * side v) (module_at v (format_word l m) m (content v ws)) i 0 h ∙ rw f))
      go i h false f = data_is v l m g small i h f

  -- THE LAW: the two tests pass exactly if the grid is the drawn one
  pub drawn_test : agree_to (side v * side v) g (read_grid v l m g) && same (read_words v l m g (replicate (raw_codewords v + 1) 0)) (ws ++ (0 ∷ [])) ≡ same g (grid v l m (content v ws))
  unfolding Z
  drawn_test = same_test _ _ forth back
    where
      T : List ℕ
      T = grid v l m (content v ws)

      forth : agree_to (side v * side v) g (read_grid v l m g) && same (read_words v l m g Z) (ws ++ (0 ∷ [])) ≡ true → same g T ≡ true
      forth t =
          let a = and_first (agree_to (side v * side v) g (read_grid v l m g)) (same (read_words v l m g Z) (ws ++ (0 ∷ []))) t in
          let b = and_second (agree_to (side v * side v) g (read_grid v l m g)) (same (read_words v l m g Z) (ws ++ (0 ∷ []))) t in
          ap (same g) (sym (drawn_only a (same_eq (read_words v l m g Z) (ws ++ (0 ∷ [])) (true_T (same (read_words v l m g Z) (ws ++ (0 ∷ []))) b)))) ∙ same_refl g

      back : same g T ≡ true → agree_to (side v * side v) g (read_grid v l m g) && same (read_words v l m g Z) (ws ++ (0 ∷ [])) ≡ true
      back t =
          let e : g ≡ T = same_eq g T (true_T (same g T) t) in
          and_both (agree_to (side v * side v) g (read_grid v l m g)) (same (read_words v l m g Z) (ws ++ (0 ∷ []))) (agrees e)
          (ap (λ (x : List ℕ). same (read_words v l m x Z) (ws ++ (0 ∷ []))) e ∙ ap (λ (x : List ℕ). same x (ws ++ (0 ∷ []))) (read_label v l m ws low high all bytes) ∙ same_refl (ws ++ (0 ∷ [])))
