-- Laws for the loops that read a picture and rows of 0 and 1.
-- Assumes nothing.
use Prim.Native.Nat.{ℕ, zero, suc, ◌+◌, ◌-◌, ◌*◌, ◌/◌, ◌%◌, ◌^◌, ◌≤◌, ◌<◌}
use Rattle.std.specs.Prelude.{Bool, cond, Option, Some, None, MatchOption, unwrap_or, List, [], ◌∷◌, ◌++◌, ◌≡◌, refl, ltb, get_or, take, drop}
use Rattle.std.proofs.Math.Bool.{true, false, not}
use Rattle.std.proofs.Math.Path.{sym, ap}
use Rattle.std.proofs.Common.{◌∙◌, add-one, append-nil, div-add-mod', div-le_self, mul-add, mul-one, zero-mul, length-take, take-suc, take_all, lt-ltb, le-ltb}
use native.Mathlib.Omega.{arith}
use Rattle.std.proofs.Math.ListN.{length}
use Rattle.standard.specs.Numbers.{tabulate, least, cons_if, place}
use Rattle.laws.specs.Each.{each, each_done, each_end}
use Rattle.modules.specs.Kept.{keep_append}
use Rattle.terminal.specs.Text.{Said}
use Rattle.terminal.specs.TextLaws.{said_as, said_none, said_then}
use Rattle.terminal.specs.Scan.{is_half, halves, module_of, side_in, row_module, even, uneven, uneven_in}
use Rattle.terminal.specs.Words.{place_in}
use Rattle.terminal.specs.WordLaws.{place_within}
use Rattle.laws.specs.Least.{least_le, least_bounds, least_none}
use Rattle.laws.specs.Tests.{split}

-- ---- the bytes of a text that end a character

module _ (t : List ℕ) where
  pub halves_start : (o : List ℕ) (at : ℕ) → Said o at (halves (take 0 t)) o at
  halves_start o at = said_as (said_none o at) (ap halves (none t)) refl
    where
      none : (w : List ℕ) → [] ≡ take 0 w
      none [] = refl
      none (x ∷ xs) = refl

  halves_step : (i : ℕ) → i < length t → halves (take (i + 1) t) ≡ halves (take i t) ++ cons_if (is_half (get_or t i 0)) (get_or t i 0) []
  halves_step i b =
      ap halves (ap (λ (k : ℕ). take k t) (add-one i) ∙ take-suc t i 0 b) ∙ keep_append is_half (take i t) (get_or t i 0 ∷ [])

  pub halves_kept : (o h k : List ℕ) (at n r i : ℕ) → is_half (get_or t i 0) ≡ true → Said h n (get_or t i 0 ∷ []) k r → Said o at (halves (take i t)) h n → i < length t
      → r ≤ length o → Said o at (halves (take (i + 1) t)) k r
  halves_kept o h k at n r i e u s b l =
      said_as (said_then s u l) (sym (halves_step i b ∙ ap (λ (q : Bool). halves (take i t) ++ cons_if q (get_or t i 0) []) e)) refl

  pub halves_left : (o h : List ℕ) (at n i : ℕ) → is_half (get_or t i 0) ≡ false → Said o at (halves (take i t)) h n → i < length t → Said o at (halves (take (i + 1) t)) h n
  halves_left o h at n i e s b =
      said_as s (sym (halves_step i b ∙ ap (λ (q : Bool). halves (take i t) ++ cons_if q (get_or t i 0) []) e ∙ append-nil (halves (take i t)))) refl

  pub halves_end : (o h : List ℕ) (at n i : ℕ) → Said o at (halves (take i t)) h n → length t ≤ i → Said o at (halves t) h n
  halves_end o h at n i s b = said_as s (ap halves (take_all i t b)) refl

-- ---- the loops over a grid

pub scan_end : (side : ℕ) (hs g h : List ℕ) (n m : ℕ) → h ≡ each_done n (λ k _. module_of side hs k) g → length h ≡ m → m ≤ n → h ≡ tabulate (length g) (module_of side hs)
unfolding each
scan_end side hs g h n m e l b = each_end (λ k _. module_of side hs k) g n m h e l b

pub rows_end : (side : ℕ) (t g h : List ℕ) (n m : ℕ) → h ≡ each_done n (λ k _. row_module side t k) g → length h ≡ m → m ≤ n → h ≡ tabulate (length g) (row_module side t)
unfolding each
rows_end side t g h n m e l b = each_end (λ k _. row_module side t k) g n m h e l b

-- ---- the side of a picture

module _ (t : List ℕ) (r : Option ℕ) (n : ℕ) (p : r ≡ place_in 10 t) (e : n ≡ unwrap_or r (length t)) where
  first_line : n ≡ place 10 t
  first_line = e ∙ ap (λ (o : Option ℕ). unwrap_or o (length t)) p ∙ split (place 10 t) (length t) (λ l. rw (lt-ltb (place 10 t) (length t) l)) (λ h. rw (le-ltb (place 10 t) (length t) h) (omega (arith, h, place_within 10 t)))

  pub side_short : n ≤ 21 → None ≡ side_in t
  side_short h = let z : ltb 0 (place 10 t - 21) ≡ false = le-ltb 0 (place 10 t - 21) (omega (arith, h, first_line)) in rw z

  pub side_long : 21 < n → Some (n - 21) ≡ side_in t
  side_long h =
      let z : ltb 0 (place 10 t - 21) ≡ true = lt-ltb 0 (place 10 t - 21) (omega (arith, h, first_line)) in
      rw z (ap (λ (k : ℕ). Some (k - 21)) first_line)

-- ---- where rows end

-- what a search for the first place at which a row does not end says of `uneven`
pub uneven_found : (side : ℕ) (t : List ℕ) (r : Option ℕ)
    → MatchOption r ((k : ℕ) → 0 ≤ k → k < length t → even side t k ≡ true) (λ i. (0 ≤ i) × (i < length t) × (even side t i ≡ false) × ((k : ℕ) → 0 ≤ k → k < i → even side t k ≡ true))
    → r ≡ uneven_in side t
unfolding uneven
uneven_found side t None h =
    let e : least 0 (length t) (λ (p : ℕ). not (even side t p)) ≡ 0 + length t = least_none (λ (p : ℕ). not (even side t p)) 0 (length t) (λ i a b. ap not (h i a (omega arith))) in
    let f : ltb (least 0 (length t) (λ (p : ℕ). not (even side t p))) (length t) ≡ false = le-ltb _ (length t) (omega arith) in
    sym (ap (λ (b : Bool). cond b (Some (least 0 (length t) (λ (p : ℕ). not (even side t p)))) None) f)
uneven_found side t (Some i) h =
    let p : ℕ → Bool = λ (p : ℕ). not (even side t p) in
    let up : least 0 (length t) p ≤ i = least_le p 0 (length t) i (omega arith) (omega (arith, h.1)) (ap not h.2) in
    let e : least 0 (length t) p ≡ i = found p i up (least_bounds p 0 (length t) (omega (arith, h.1))) (λ k l. ap not (h.3 k (omega arith) l)) in
    let f : ltb (least 0 (length t) p) (length t) ≡ true = lt-ltb _ (length t) (omega (arith, h.1)) in
    sym (ap (λ (b : Bool). cond b (Some (least 0 (length t) p)) None) f ∙ ap Some e)
  where
    found : (p : ℕ → Bool) (i : ℕ) → least 0 (length t) p ≤ i → (p (least 0 (length t) p) ≡ true) × (0 ≤ least 0 (length t) p) → ((k : ℕ) → k < i → p k ≡ false) → least 0 (length t) p ≡ i
    found p i up b before =
        split (least 0 (length t) p) i
        (λ l. absurd (let x : ◌≡◌ {A = Bool} true false = sym b.0 ∙ before (least 0 (length t) p) l in cc))
        (λ g. omega arith)

-- ---- lines of rows

-- rows of a side that fill n bytes but the last newline have at most n modules
area_small : (n side : ℕ) → (n + 1) / (side + 1) * side ≤ n
area_small n side = go ((n + 1) / (side + 1)) (div-add-mod' (n + 1) (side + 1))
  where
    go : (q : ℕ) → q * (side + 1) + (n + 1) % (side + 1) ≡ n + 1 → q * side ≤ n
    go zero e = rw (zero-mul side) (omega arith)
    go (suc q) e = omega (arith, mul-add (suc q) side 1, mul-one (suc q))

pub quotient_fits : (p d : ℕ) → p ≤ 65536 → p / d + 1 < 2 ^ 64
quotient_fits p d h = omega (arith, div-le_self p d)

pub area_fits : (n side : ℕ) → n ≤ 65536 → (n + 1) / (side + 1) * side < 2 ^ 64
area_fits n side h = omega (arith, area_small n side)

pub area_in : (g : List ℕ) (n side : ℕ) → length g ≡ 65536 → n ≤ 65536 → (n + 1) / (side + 1) * side ≤ length g
area_in g n side e h = omega (arith, area_small n side)

pub part_in : (g : List ℕ) (k : ℕ) → length g ≡ 65536 → length (take (k - 0) (drop 0 g)) ≤ 65536
part_in g k e = omega (arith, length-take (k - 0) (drop 0 g))
