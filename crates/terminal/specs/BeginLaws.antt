-- When a text begins with a picture.
-- Assumes nothing.
use Rattle.std.specs.Prelude.{ℕ, zero, suc, ◌+◌, ◌-◌, ◌*◌, ◌/◌, ◌%◌, ◌≤◌, ◌<◌, Bool, true, false, cond, not, ◌||◌, List, [], ◌∷◌, ◌++◌, ◌≡◌, refl, T, eqb, ltb, length, get_or, take, drop}
use Rattle.std.proofs.Common.{append_assoc, sym, ap, ap₂, ◌∙◌, arith, length-append, take-append-drop}
use Rattle.std.proofs.Math.ListN.{get_or-eq_default}
use Rattle.std.proofs.Math.Seq.{take-append_seam}
use Rattle.std.proofs.lemmas.Bool.{not-true}
use Rattle.standard.specs.Numbers.{one, from, tabulate, join, place, every, same}
use Rattle.laws.specs.Tests.{T_true, true_T, and_left, and_right, cond_same, split}
use Rattle.laws.specs.Lists.{length_from, length_tabulate, get_d_tabulate, from_cong, same_eq, same_refl}
use Rattle.laws.specs.Grid.{square_small}
use Rattle.terminal.specs.Text.{bytes, over, Said}
use Rattle.terminal.specs.Picture.{shown, glyph, characters, line, picture}
use Rattle.terminal.specs.Words.{begins_with}
use Rattle.terminal.specs.Scan.{halves, upper, lower, module_of, side_of, Begins, drawn, none}
use Rattle.terminal.specs.ScanBack.{join_ones, scan_picture}

-- ---- the parts of a grid that are lent

pub square_few : (g : List ℕ) (side : ℕ) → length g ≡ side * side → side ≤ 177 → length g ≤ 31329
square_few g side e h = omega (arith, square_small side h)

-- ---- the side of a picture

place_past : (c : ℕ) (u v : List ℕ) → T (every (λ (b : ℕ). not (eqb c b)) u) → place c (u ++ v) ≡ length u + place c v
place_past c [] v t = omega arith
place_past c (x ∷ xs) v t =
    let e : eqb c x ≡ false = not-true (eqb c x) (T_true (not (eqb c x)) (and_left (not (eqb c x)) (every (λ (b : ℕ). not (eqb c b)) xs) t)) in
    let r : place c (xs ++ v) ≡ length xs + place c v = place_past c xs v (and_right (not (eqb c x)) (every (λ (b : ℕ). not (eqb c b)) xs) t) in
    ap (λ (b : Bool). elim b as (λ _. ℕ) [ true ↦ 0 | false ↦ suc (place c (xs ++ v)) ]) e ∙ omega arith

spaces : (k n : ℕ) → T (every (λ (b : ℕ). not (eqb 10 b)) (from k n (λ _. 32)))
spaces k zero = tt
spaces k (suc n) = spaces (suc k) n

module _ (side : ℕ) (g : List ℕ) where
  top_line : (n : ℕ) → characters side g 0 n ≡ from 0 n (λ _. 32)
  top_line n =
      ap join (from_cong 0 n (λ (x : ℕ). glyph (shown side g x 0) (shown side g x 1)) (λ _. 32 ∷ []) (λ i a b. ap₂ glyph (cond_same (ltb i 4) 0) (cond_same (ltb i 4) 0)))
      ∙ join_ones 0 n (λ _. 32)

  first_line : (x : List ℕ) → place 10 (line side g 0 ++ x) ≡ side + 21
  first_line x =
      let f : ℕ → ℕ = λ _. 32 in
      let e : (characters side g 0 (side + 8) ++ bytes "\u{1b}[0m\n") ++ x ≡ from 0 (side + 8) f ++ (bytes "\u{1b}[0m\n" ++ x)
      = append_assoc (characters side g 0 (side + 8)) (bytes "\u{1b}[0m\n") x ∙ ap (λ (l : List ℕ). l ++ (bytes "\u{1b}[0m\n" ++ x)) (top_line (side + 8)) in
      let p : place 10 ((characters side g 0 (side + 8) ++ bytes "\u{1b}[0m\n") ++ x) ≡ length (from 0 (side + 8) f) + 4
      = ap (place 10) e ∙ place_past 10 (from 0 (side + 8) f) (bytes "\u{1b}[0m\n" ++ x) (spaces 0 (side + 8)) in
      place_past 10 (bytes "\u{1b}[30;107m") ((characters side g 0 (side + 8) ++ bytes "\u{1b}[0m\n") ++ x) tt
      ∙ omega (arith, p, length_from 0 (side + 8) f)

  pub picture_side : (rest : List ℕ) → place 10 (picture side g ++ rest) ≡ side + 21
  picture_side rest =
      let f : ℕ → List ℕ = λ (j : ℕ). line side g (2 * j) in
      let n : (side + 9) / 2 ≡ suc ((side + 9) / 2 - 1) = omega arith in
      let e : picture side g ++ rest ≡ line side g 0 ++ (join (from 1 ((side + 9) / 2 - 1) f) ++ rest)
      = ap (λ (k : ℕ). join (from 0 k f) ++ rest) n ∙ append_assoc (line side g 0) (join (from 1 ((side + 9) / 2 - 1) f)) rest in
      ap (place 10) e ∙ first_line (join (from 1 ((side + 9) / 2 - 1) f) ++ rest)

-- no picture is empty
pub picture_some : (side : ℕ) (g d : List ℕ) → d ≡ picture side g → 0 < length d
picture_some side g d e = go d (ap (λ (l : List ℕ). place 10 (l ++ [])) e ∙ picture_side side g [])
  where
    go : (l : List ℕ) → place 10 (l ++ []) ≡ side + 21 → 0 < length l
    go [] p = omega (arith, p)
    go (x ∷ xs) p = omega arith

-- ---- a text that begins with a picture

one_small : (b : Bool) → one b < 2
one_small true = omega arith
one_small false = omega arith

module_small : (side : ℕ) (hs : List ℕ) (k : ℕ) → module_of side hs k < 2
module_small side hs k = go (eqb ((k / side + 4) % 2) 0) (get_or hs ((k / side + 4) / 2 * (side + 8) + (k % side + 4)) 0)
  where
    go : (t : Bool) (h : ℕ) → cond t (upper h) (lower h) < 2
    go true h = one_small (eqb h 128 || eqb h 136)
    go false h = one_small (eqb h 132 || eqb h 136)

scanned_small : (side n : ℕ) (hs : List ℕ) (i : ℕ) → get_or (tabulate n (module_of side hs)) i 0 < 2
scanned_small side n hs i =
    split i n
    (λ h. let e = get_d_tabulate n (module_of side hs) i 0 h in omega (arith, module_small side hs i))
    (λ h. let e = get_or-eq_default (tabulate n (module_of side hs)) 0 {n = i} (omega (arith, length_tabulate n (module_of side hs))) in omega arith)

-- what is written from the start on
pub said_part : {o w h : List ℕ} {at r : ℕ} → Said o at w h r → at ≡ 0 → take r h ≡ w
said_part {o} {w} {h} {at} {r} s z =
    let e : r ≡ length w = omega arith in
    let f : over at w o ≡ w ++ drop (0 + length w) o
    = ap (λ (k : ℕ). over k w o) z ∙ ap (λ (l : List ℕ). l ++ (w ++ drop (0 + length w) o)) (nothing o) in
    ap₂ (λ (k : ℕ) (l : List ℕ). take k l) e (s.whole ∙ f) ∙ take-append_seam w (drop (0 + length w) o)
  where
    nothing : (l : List ℕ) → take 0 l ≡ []
    nothing [] = refl
    nothing (x ∷ xs) = refl

no_picture_at : (t : List ℕ) (side k : ℕ) (h rest : List ℕ) → side ≡ side_of t → t ≡ picture k h ++ rest → side ≡ k
no_picture_at t side k h rest s e = let p : place 10 t ≡ k + 21 = ap (place 10) e ∙ picture_side k h rest in s ∙ omega arith

-- a text t, the last bytes h of its characters, the grid g' that they show, and what is drawn of it, d
module _ (t h d g g' : List ℕ) (side : ℕ) (b : Bool) (m : b ≡ begins_with t d) (q : d ≡ picture side g') (e : g' ≡ tabulate (length g) (module_of side h)) (l : length g ≡ side * side) where
  pub begins_drawn : b ≡ true → 0 < side → side ≤ 177 → Begins t side (length d) g'
  begins_drawn y p u =
      let w : begins_with t (picture side g') ≡ true = ap (begins_with t) (sym q) ∙ sym m ∙ y in
      let x : take (length (picture side g')) t ≡ picture side g'
      = same_eq (take (length (picture side g')) t) (picture side g') (true_T (same (take (length (picture side g')) t) (picture side g')) w) in
      drawn (drop (length (picture side g')) t)
      (record {
        some = p;
        small = u;
        size = ap length e ∙ length_tabulate (length g) (module_of side h) ∙ l;
        modules = λ i. rw e (scanned_small side (length g) h i);
      })
      (sym (take-append-drop (length (picture side g')) t) ∙ ap (λ (l : List ℕ). l ++ drop (length (picture side g')) t) x)
      (ap length q)

  pub begins_none : b ≡ false → h ≡ halves t → side ≡ side_of t → Begins t side 0 g'
  begins_none n hs z =
      none refl
      (λ k i rest r s.
      let j : side ≡ k = no_picture_at t side k i rest z s in
      let a : g' ≡ tabulate (side * side) (module_of side (halves t))
      = e ∙ ap₂ (λ (j : ℕ) (x : List ℕ). tabulate j (module_of side x)) l hs in
      let c : tabulate (k * k) (module_of k (halves t)) ≡ i = ap (λ (x : List ℕ). tabulate (k * k) (module_of k (halves x))) s ∙ scan_picture k i r rest in
      let v : picture side g' ≡ picture k i = ap (picture side) a ∙ ap (λ (j : ℕ). picture j (tabulate (j * j) (module_of j (halves t)))) j ∙ ap (picture k) c in
      let y : b ≡ true
      = m ∙ ap (begins_with t) (q ∙ v) ∙ ap (λ (x : List ℕ). same (take (length (picture k i)) x) (picture k i)) s
      ∙ ap (λ (x : List ℕ). same x (picture k i)) (take-append_seam (picture k i) rest) ∙ same_refl (picture k i) in
      let x : ◌≡◌ {A = ℕ} (one true) (one false) = ap one (sym y ∙ n) in omega arith)

pub begins_end : {t : List ℕ} {side end : ℕ} {g : List ℕ} → Begins t side end g → Begins t side end g × (end ≤ length t)
begins_end {t} {side} {end} {g} (drawn rest d e q) =
    (drawn rest d e q, omega (arith, ap length e, length-append (picture side g) rest))
begins_end {t} {side} {end} {g} (none z n) = (none z n, omega arith)
