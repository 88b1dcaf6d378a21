-- A picture and rows of 0 and 1 give back the grid that they show.
-- Assumes nothing.
use Prim.Native.Nat.{ℕ, zero, suc, ◌+◌, ◌-◌, ◌*◌, ◌/◌, ◌%◌, ◌≤◌, ◌<◌}
use Rattle.std.specs.Prelude.{Bool, true, false, cond, ◌≡◌, refl, eqb, length, get_or}
use mathlib.Core.List.{List, [], ◌∷◌, ◌++◌, append-nil}
use Rattle.std.proofs.Common.{sym, ap₂, ◌∙◌, mod-lt, div-add-mod', div-lt_iff_lt-mul, mul-add, mul-one, arith, ne_eqb, eqb-true}
use Rattle.std.proofs.Math.Path.{ap}
use Rattle.std.proofs.Math.Arith.{digits_div, digits_mod, digits_lt}
use Rattle.std.proofs.Math.ListN.{get_or-append}
use Rattle.std.proofs.lemmas.Bool.{eqb-false}
use Rattle.standard.specs.Numbers.{from, tabulate, join, keep}
use Rattle.laws.specs.Joins.{join_length, join_at}
use Rattle.laws.specs.Lists.{length_tabulate, get_d_tabulate, is_tabulate, from_cong}
use Rattle.modules.specs.Kept.{keep_append}
use Rattle.terminal.specs.Text.{bytes}
use Rattle.terminal.specs.Picture.{shown, half, glyph, characters, line, picture}
use Rattle.terminal.specs.PictureLaws.{shown_inside}
use Rattle.terminal.specs.Scan.{is_half, halves, upper, lower, module_of, Drawable, digit, row_module, rows}

-- ---- the last bytes of a picture's characters

keep_join : (p : ℕ → Bool) (k n : ℕ) (f : ℕ → List ℕ) → keep p (join (from k n f)) ≡ join (from k n (λ (i : ℕ). keep p (f i)))
keep_join p k zero f = refl
keep_join p k (suc n) f = keep_append p (f k) (join (from (suc k) n f)) ∙ ap (λ (l : List ℕ). keep p (f k) ++ l) (keep_join p (suc k) n f)

pub join_ones : (k n : ℕ) (f : ℕ → ℕ) → join (from k n (λ (i : ℕ). f i ∷ [])) ≡ from k n f
join_ones k zero f = refl
join_ones k (suc n) f = ap (λ (l : List ℕ). f k ∷ l) (join_ones (suc k) n f)

glyph_half : (u l : ℕ) → keep is_half (glyph u l) ≡ half u l ∷ []
glyph_half u l = go (eqb u 0) (eqb l 0)
  where
    go : (a b : Bool)
        → keep is_half (cond (eqb (cond a (cond b 32 132) (cond b 128 136)) 32) (32 ∷ []) (226 ∷ 150 ∷ cond a (cond b 32 132) (cond b 128 136) ∷ []))
        ≡ cond a (cond b 32 132) (cond b 128 136) ∷ []
    go true true = refl
    go true false = refl
    go false true = refl
    go false false = refl

-- the halves of the line that shows rows y and y + 1
row_halves : ℕ → List ℕ → ℕ → List ℕ
row_halves side g y = tabulate (side + 8) (λ (x : ℕ). half (shown side g x y) (shown side g x (y + 1)))

module _ (side : ℕ) (g : List ℕ) where
  line_halves : (y : ℕ) → keep is_half (line side g y) ≡ row_halves side g y
  unfolding row_halves
  line_halves y =
      let f : ℕ → List ℕ = λ (x : ℕ). glyph (shown side g x y) (shown side g x (y + 1)) in
      let h : ℕ → ℕ = λ (x : ℕ). half (shown side g x y) (shown side g x (y + 1)) in
      keep_append is_half (characters side g y (side + 8)) (bytes "\u{1b}[0m\n")
      ∙ append-nil (keep is_half (characters side g y (side + 8)))
      ∙ keep_join is_half 0 (side + 8) f
      ∙ ap join (from_cong 0 (side + 8) (λ (x : ℕ). keep is_half (f x)) (λ (x : ℕ). h x ∷ []) (λ i a b. glyph_half (shown side g i y) (shown side g i (y + 1))))
      ∙ join_ones 0 (side + 8) h

  picture_halves : halves (picture side g) ≡ join (tabulate ((side + 9) / 2) (λ (j : ℕ). row_halves side g (2 * j)))
  picture_halves =
      keep_join is_half 0 ((side + 9) / 2) (λ (j : ℕ). line side g (2 * j))
      ∙ ap join (from_cong 0 ((side + 9) / 2) (λ (j : ℕ). keep is_half (line side g (2 * j))) (λ (j : ℕ). row_halves side g (2 * j)) (λ i a b. line_halves (2 * i)))

  row_length : (y : ℕ) → length (row_halves side g y) ≡ side + 8
  unfolding row_halves
  row_length y = length_tabulate (side + 8) (λ (x : ℕ). half (shown side g x y) (shown side g x (y + 1)))

  row_at : (y x : ℕ) → x < side + 8 → get_or (row_halves side g y) x 0 ≡ half (shown side g x y) (shown side g x (y + 1))
  unfolding row_halves
  row_at y x h = get_d_tabulate (side + 8) (λ (x : ℕ). half (shown side g x y) (shown side g x (y + 1))) x 0 h

  half_at : (rest : List ℕ) (j x : ℕ) → j < (side + 9) / 2 → x < side + 8
      → get_or (halves (picture side g ++ rest)) (j * (side + 8) + x) 0 ≡ half (shown side g x (2 * j)) (shown side g x (2 * j + 1))
  half_at rest j x a b =
      let f : ℕ → List ℕ = λ (j : ℕ). row_halves side g (2 * j) in
      let all : (i : ℕ) → 0 ≤ i → i < 0 + (side + 9) / 2 → length (f i) ≡ side + 8 = λ i l u. row_length (2 * i) in
      let p : j * (side + 8) + x < (side + 9) / 2 * (side + 8) = digits_lt a b in
      let l : length (join (tabulate ((side + 9) / 2) f)) ≡ (side + 9) / 2 * (side + 8) = join_length 0 ((side + 9) / 2) (side + 8) f all in
      let e : halves (picture side g ++ rest) ≡ join (tabulate ((side + 9) / 2) f) ++ halves rest
      = keep_append is_half (picture side g) rest ∙ ap (λ (l : List ℕ). l ++ halves rest) picture_halves in
      let d : 0 + (j * (side + 8) + x) / (side + 8) ≡ j = zero_plus ((j * (side + 8) + x) / (side + 8)) ∙ digits_div j b in
      ap (λ (l : List ℕ). get_or l (j * (side + 8) + x) 0) e
      ∙ get_or-append (join (tabulate ((side + 9) / 2) f)) (halves rest) 0 (j * (side + 8) + x) (omega arith)
      ∙ join_at 0 ((side + 9) / 2) (side + 8) f all (omega arith) (j * (side + 8) + x) p
      ∙ ap₂ (λ (i k : ℕ). get_or (f i) k 0) d (digits_mod j b)
      ∙ row_at (2 * j) x b
    where
      zero_plus : (k : ℕ) → 0 + k ≡ k
      zero_plus k = omega arith

-- ---- a module

upper_half : (a b : ℕ) → a < 2 → upper (half a b) ≡ a
upper_half zero b h = go (eqb b 0)
  where
    go : (t : Bool) → upper (cond t 32 132) ≡ 0
    go true = refl
    go false = refl
upper_half (suc zero) b h = go (eqb b 0)
  where
    go : (t : Bool) → upper (cond t 128 136) ≡ 1
    go true = refl
    go false = refl
upper_half (suc (suc a)) b h = absurd (omega arith)

lower_half : (a b : ℕ) → b < 2 → lower (half a b) ≡ b
lower_half a zero h = go (eqb a 0)
  where
    go : (t : Bool) → lower (cond t 32 128) ≡ 0
    go true = refl
    go false = refl
lower_half a (suc zero) h = go (eqb a 0)
  where
    go : (t : Bool) → lower (cond t 132 136) ≡ 1
    go true = refl
    go false = refl
lower_half a (suc (suc b)) h = absurd (omega arith)

module _ (side : ℕ) (g : List ℕ) (d : Drawable side g) where
  shown_module : (k : ℕ) → k < side * side → shown side g (k % side + 4) (k / side + 4) ≡ get_or g k 0
  shown_module k h =
      let x : k % side < side = mod-lt k d.some in
      let y : k / side < side = div_side k h in
      let e : (k / side + 4 - 4) * side + (k % side + 4 - 4) ≡ k = ap₂ (λ (a b : ℕ). a * side + b) (less (k / side)) (less (k % side)) ∙ div-add-mod' k side in
      sym (shown_inside side g (k % side + 4) (k / side + 4) (omega arith) (omega arith) (omega arith) (omega arith)) ∙ ap (λ (i : ℕ). get_or g i 0) e
    where
      less : (n : ℕ) → n + 4 - 4 ≡ n
      less n = omega arith

      div_side : (k : ℕ) → k < side * side → k / side < side
      div_side k h = (div-lt_iff_lt-mul d.some).1 h

  module_back : (rest : List ℕ) (k : ℕ) → k < side * side → module_of side (halves (picture side g ++ rest)) k ≡ get_or g k 0
  module_back rest k h = go (eqb ((k / side + 4) % 2) 0) refl
    where
      x_lt : k % side < side
      x_lt = mod-lt k d.some

      y_lt : k / side < side
      y_lt = (div-lt_iff_lt-mul d.some).1 h

      two : get_or (halves (picture side g ++ rest)) ((k / side + 4) / 2 * (side + 8) + (k % side + 4)) 0
          ≡ half (shown side g (k % side + 4) (2 * ((k / side + 4) / 2))) (shown side g (k % side + 4) (2 * ((k / side + 4) / 2) + 1))
      two = half_at side g rest ((k / side + 4) / 2) (k % side + 4) (omega (arith, y_lt)) (omega (arith, x_lt))

      light : shown side g (k % side + 4) (k / side + 4) < 2
      light = let e = shown_module k h in omega (arith, d.modules k)

      go : (t : Bool) → eqb ((k / side + 4) % 2) 0 ≡ t
          → cond t (upper (get_or (halves (picture side g ++ rest)) ((k / side + 4) / 2 * (side + 8) + (k % side + 4)) 0))
          (lower (get_or (halves (picture side g ++ rest)) ((k / side + 4) / 2 * (side + 8) + (k % side + 4)) 0))
          ≡ get_or g k 0
      go true q =
          let p : (k / side + 4) % 2 ≡ 0 = eqb-true ((k / side + 4) % 2) 0 q in
          let e : 2 * ((k / side + 4) / 2) ≡ k / side + 4 = omega arith in
          let s : shown side g (k % side + 4) (2 * ((k / side + 4) / 2)) ≡ shown side g (k % side + 4) (k / side + 4) = ap (shown side g (k % side + 4)) e in
          ap upper two ∙ upper_half (shown side g (k % side + 4) (2 * ((k / side + 4) / 2))) (shown side g (k % side + 4) (2 * ((k / side + 4) / 2) + 1)) (omega (arith, light)) ∙ s ∙ shown_module k h
      go false q =
          let p : (k / side + 4) % 2 ≡ 0 → ⊥ = eqb-false ((k / side + 4) % 2) 0 q in
          let e : 2 * ((k / side + 4) / 2) + 1 ≡ k / side + 4 = omega arith in
          let s : shown side g (k % side + 4) (2 * ((k / side + 4) / 2) + 1) ≡ shown side g (k % side + 4) (k / side + 4) = ap (shown side g (k % side + 4)) e in
          ap lower two ∙ lower_half (shown side g (k % side + 4) (2 * ((k / side + 4) / 2))) (shown side g (k % side + 4) (2 * ((k / side + 4) / 2) + 1)) (omega (arith, light)) ∙ s ∙ shown_module k h

  -- what a picture shows is the grid, whatever stands after it
  pub scan_picture : (rest : List ℕ) → tabulate (side * side) (module_of side (halves (picture side g ++ rest))) ≡ g
  scan_picture rest = sym (is_tabulate 0 g (side * side) (module_of side (halves (picture side g ++ rest))) d.size (λ k h. sym (module_back rest k h)))

  -- rows of 0 and 1 give the grid back
  pub read_rows : tabulate (side * side) (row_module side (rows side g)) ≡ g
  read_rows = sym (is_tabulate 0 g (side * side) (row_module side (rows side g)) d.size (λ k h. sym (go k h)))
    where
      bit : (b : ℕ) → b < 2 → digit (48 + b) ≡ b
      bit zero h = refl
      bit (suc zero) h = refl
      bit (suc (suc b)) h = absurd (omega arith)

      go : (k : ℕ) → k < side * side → row_module side (rows side g) k ≡ get_or g k 0
      go k h =
          let x : k % side < side = mod-lt k d.some in
          let x' : k % side < side + 1 = omega arith in
          let y : k / side < side = (div-lt_iff_lt-mul d.some).1 h in
          let s : k / side * side + k % side ≡ k = div-add-mod' k side in
          let p : k + k / side ≡ k / side * (side + 1) + k % side = omega (arith, mul_suc (k / side)) in
          let l : k / side * (side + 1) + k % side < side * (side + 1) = digits_lt y x' in
          let dv : (k / side * (side + 1) + k % side) / (side + 1) ≡ k / side = digits_div (k / side) x' in
          let md : (k / side * (side + 1) + k % side) % (side + 1) ≡ k % side = digits_mod (k / side) x' in
          let n : k % side ≡ side → ⊥ = λ e. omega arith in
          let c : get_or (rows side g) (k + k / side) 0 ≡ 48 + get_or g k 0
          = ap (λ (i : ℕ). get_or (rows side g) i 0) p
          ∙ get_d_tabulate (side * (side + 1)) (λ (p : ℕ). cond (eqb (p % (side + 1)) side) 10 (48 + get_or g (p / (side + 1) * side + p % (side + 1)) 0)) (k / side * (side + 1) + k % side) 0 l
          ∙ ap₂ (λ (i j : ℕ). cond (eqb j side) 10 (48 + get_or g (i * side + j) 0)) dv md
          ∙ ap (λ (t : Bool). cond t 10 (48 + get_or g (k / side * side + k % side) 0)) (ne_eqb (k % side) side n)
          ∙ ap (λ (i : ℕ). 48 + get_or g i 0) s in
          ap digit c ∙ bit (get_or g k 0) (d.modules k)
        where
          mul_suc : (q : ℕ) → q * (side + 1) ≡ q * side + q
          mul_suc q = mul-add q side 1 ∙ ap (λ (k : ℕ). q * side + k) (mul-one q)
