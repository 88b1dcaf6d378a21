-- The cores of a line whose unit is one module, counted as places of two patterns; and two patterns that stand wherever a core has a larger unit.
-- Assumes nothing.
use Rattle.std.specs.Prelude.{◌≡◌, Bool, true, false, cond, ◌&&◌, ℕ, zero, suc, ◌+◌, ◌-◌, ◌*◌, ◌/◌, ◌≤◌, ◌<◌, eqb, leb, length, get_or}
use Rattle.std.proofs.Math.Path.{refl, ap, ap₂, subst}
use Rattle.std.proofs.Common.{sym, ◌∙◌, not-suc-le-zero, le_of_suc-le-suc, arith, lit<, lit≤, eqb-true, ne_eqb, le-leb, leb-false}
use mathlib.Core.List.{List, [], ◌∷◌, ◌++◌, append_assoc}
use Rattle.std.proofs.Math.ListN.{replicate}
use Rattle.std.proofs.lemmas.Bool.{lt-leb}
use Rattle.standard.specs.Numbers.{one, sum, tabulate}
use Rattle.standard.specs.Penalty.{runs_from, runs, core_count, core_at, cores, bordered}
use Rattle.laws.specs.Tests.{and_no, all4}
use Rattle.laws.specs.Sums.{sum_cong, sum_shift}
use Rattle.penalty.specs.Scan.{Modules, zeros_run}
use Rattle.penalty.specs.Windows.{is}
use Rattle.packed.specs.Marks.{hits}
use Rattle.packed.specs.Windows.{lay, Runs, shape, fits, windows, hits_windows, lay_runs, runs_positive, borders}

-- ---- `cores`, one window at a time

two_on : (p m : ℕ) (rs : List ℕ) (i k : ℕ) → get_or (p ∷ m ∷ rs) (2 * (1 + i) + k) 0 ≡ get_or rs (2 * i + k) 0
two_on p m rs i k = ap (λ (n : ℕ). get_or (p ∷ m ∷ rs) n 0) (is (2 * (1 + i) + k) (suc (suc (2 * i + k))) (omega arith))

core_two : (p m : ℕ) (rs : List ℕ) (i : ℕ) → core_at (p ∷ m ∷ rs) (2 * (1 + i)) ≡ core_at rs (2 * i)
unfolding core_at
core_two p m rs i =
    rw (
      two_on p m rs i 1,
      two_on p m rs i 2,
      two_on p m rs i 3,
      two_on p m rs i 4,
      two_on p m rs i 5,
      two_on p m rs i 6,
      ap (λ (n : ℕ). get_or (p ∷ m ∷ rs) n 0) (is (2 * (1 + i)) (suc (suc (2 * i))) (omega arith)),
    )

cores_more : (p m b c d e q : ℕ) (rs : List ℕ)
    → cores (p ∷ m ∷ b ∷ c ∷ d ∷ e ∷ q ∷ rs) ≡ core_count p m b c d e q + cores (b ∷ c ∷ d ∷ e ∷ q ∷ rs)
unfolding cores core_at
cores_more p m b c d e q rs =
    ap (λ (n : ℕ). sum (tabulate n (λ i. core_at (p ∷ m ∷ b ∷ c ∷ d ∷ e ∷ q ∷ rs) (2 * i))))
    (is ((length (p ∷ m ∷ b ∷ c ∷ d ∷ e ∷ q ∷ rs) - 5) / 2) (suc ((length (b ∷ c ∷ d ∷ e ∷ q ∷ rs) - 5) / 2)) (omega arith))
    ∙ ap (λ (n : ℕ). core_count p m b c d e q + n)
    (sum_shift (λ i. core_at (p ∷ m ∷ b ∷ c ∷ d ∷ e ∷ q ∷ rs) (2 * i)) 1 0 ((length (b ∷ c ∷ d ∷ e ∷ q ∷ rs) - 5) / 2)
    ∙ sum_cong (λ i. core_at (p ∷ m ∷ b ∷ c ∷ d ∷ e ∷ q ∷ rs) (2 * (1 + i))) (λ i. core_at (b ∷ c ∷ d ∷ e ∷ q ∷ rs) (2 * i)) 0 ((length (b ∷ c ∷ d ∷ e ∷ q ∷ rs) - 5) / 2)
    (λ i o l. core_two p m (b ∷ c ∷ d ∷ e ∷ q ∷ rs) i))

cores_few : (rs : List ℕ) → length rs < 7 → cores rs ≡ 0
unfolding cores
cores_few rs h = ap (λ (n : ℕ). sum (tabulate n (λ i. core_at rs (2 * i)))) (is ((length rs - 5) / 2) 0 (omega arith))

-- ---- the four patterns, by runs

abbrev unit : List ℕ
unit = 1 ∷ 1 ∷ 3 ∷ 1 ∷ 1 ∷ []

abbrev double : List ℕ
double = 2 ∷ 2 ∷ 6 ∷ 2 ∷ 2 ∷ []

abbrev triple : List ℕ
triple = 3 ∷ 3 ∷ 9 ∷ 3 ∷ 3 ∷ []

fits_few : (ks : List ℕ) (l : ℕ) (rs : List ℕ) → length rs ≤ length ks → fits ks l rs ≡ false
unfolding fits
fits_few [] l [] h = refl
fits_few [] l (r ∷ rs) h = absurd (not-suc-le-zero h)
fits_few (k ∷ ks) l [] h = refl
fits_few (k ∷ ks) l (r ∷ rs) h = and_no (eqb r k) (fits ks l rs) (fits_few ks l rs (le_of_suc-le-suc h))

windows_few : (k : ℕ) (ks : List ℕ) (l : ℕ) (rs : List ℕ) → length rs ≤ suc (length ks) → windows k ks l rs ≡ 0
unfolding windows
windows_few k ks l [] h = refl
windows_few k ks l (p ∷ []) h = refl
windows_few k ks l (p ∷ m ∷ rs) h =
    rw (and_no (leb k p) (fits ks l (m ∷ rs)) (fits_few ks l (m ∷ rs) (le_of_suc-le-suc h))) (omega (arith, windows_few k ks l rs (omega arith)))

-- a window whose unit is one module
unit_one : (x y z w a b c d : Bool)
    → cond (x && (y && (z && w))) (one (a && d) + one (c && b)) 0
    ≡ one (a && (x && (y && (z && (w && d))))) + one (b && (x && (y && (z && (w && c)))))
unit_one false y z w true true c d = refl
unit_one false y z w true false c d = refl
unit_one false y z w false true c d = refl
unit_one false y z w false false c d = refl
unit_one true false z w true true c d = refl
unit_one true false z w true false c d = refl
unit_one true false z w false true c d = refl
unit_one true false z w false false c d = refl
unit_one true true false w true true c d = refl
unit_one true true false w true false c d = refl
unit_one true true false w false true c d = refl
unit_one true true false w false false c d = refl
unit_one true true true false true true c d = refl
unit_one true true true false true false c d = refl
unit_one true true true false false true c d = refl
unit_one true true true false false false c d = refl
unit_one true true true true a true true d = refl
unit_one true true true true a true false d = refl
unit_one true true true true a false true d = refl
unit_one true true true true a false false d = refl

none : (a b : Bool) → one (a && false) + one (b && false) ≡ 0
none true true = refl
none true false = refl
none false true = refl
none false false = refl

-- a core needs its unit of light on both sides
sides : (n p q : ℕ) → one (leb n p && leb n q) ≡ 0 → one (leb (4 * n) p && leb n q) + one (leb (4 * n) q && leb n p) ≡ 0
sides n p q h = go (leb n p) refl (leb n q) refl
  where
    go : (x : Bool) → leb n p ≡ x → (y : Bool) → leb n q ≡ y → one (leb (4 * n) p && leb n q) + one (leb (4 * n) q && leb n p) ≡ 0
    go true e true f = let z : ◌≡◌ {A = ℕ} 1 0 = sym (rw (e, f)) ∙ h in omega arith
    go false e y f = rw (e, lt-leb (4 * n) p (omega (arith, leb-false n p e))) (none false (leb (4 * n) q))
    go true e false f = rw (e, f, lt-leb (4 * n) q (omega (arith, leb-false n q f))) (none (leb (4 * n) p) false)

-- a window whose unit is n, where the five runs do not stand between n light modules
unit_no : (n p b c d e q : ℕ) → one (leb n p && (eqb b n && (eqb c (3 * n) && (eqb d n && (eqb e n && leb n q))))) ≡ 0 → core_count p n b c d e q ≡ 0
unfolding core_count
unit_no n p b c d e q h = go (eqb b n && (eqb c (3 * n) && (eqb d n && eqb e n))) refl
  where
    go : (t : Bool) → (eqb b n && (eqb c (3 * n) && (eqb d n && eqb e n))) ≡ t → cond t (one (leb (4 * n) p && leb n q) + one (leb (4 * n) q && leb n p)) 0 ≡ 0
    go false k = refl
    go true k = let f = all4 (eqb b n) (eqb c (3 * n)) (eqb d n) (eqb e n) k in sides n p q (rw (f.0, f.1, f.2, f.3) at h)

unit_more : (p m b c d e q : ℕ) → 3 < m → one (leb 4 b && leb 12 c) ≡ 0 → core_count p m b c d e q ≡ 0
unfolding core_count
unit_more p m b c d e q lm h = go (eqb b m && (eqb c (3 * m) && (eqb d m && eqb e m))) refl
  where
    go : (t : Bool) → (eqb b m && (eqb c (3 * m) && (eqb d m && eqb e m))) ≡ t → cond t (one (leb (4 * m) p && leb m q) + one (leb (4 * m) q && leb m p)) 0 ≡ 0
    go false k = refl
    go true k =
        let f = all4 (eqb b m) (eqb c (3 * m)) (eqb d m) (eqb e m) k in
        let z : ◌≡◌ {A = ℕ} 1 0 = (sym (rw (le-leb 4 b (omega (arith, eqb-true b m f.0)), le-leb 12 c (omega (arith, eqb-true c (3 * m) f.1))))) ∙ h in
        omega arith

window : (p m b c d e q : ℕ) (rs : List ℕ) → 0 < m
    → one (leb 2 p && fits double 2 (m ∷ b ∷ c ∷ d ∷ e ∷ q ∷ rs)) ≡ 0 → one (leb 3 p && fits triple 3 (m ∷ b ∷ c ∷ d ∷ e ∷ q ∷ rs)) ≡ 0
    → one (leb 4 b && fits [] 12 (c ∷ d ∷ e ∷ q ∷ rs)) ≡ 0
    → core_count p m b c d e q
    ≡ one (leb 4 p && fits unit 1 (m ∷ b ∷ c ∷ d ∷ e ∷ q ∷ rs)) + one (leb 1 p && fits unit 4 (m ∷ b ∷ c ∷ d ∷ e ∷ q ∷ rs))
unfolding fits core_count
window p zero b c d e q rs hm h2 h3 h4 = absurd (omega arith)
window p (suc zero) b c d e q rs hm h2 h3 h4 = unit_one (eqb b 1) (eqb c 3) (eqb d 1) (eqb e 1) (leb 4 p) (leb 1 p) (leb 4 q) (leb 1 q)
window p (suc (suc zero)) b c d e q rs hm h2 h3 h4 = unit_no 2 p b c d e q h2 ∙ sym (none (leb 4 p) (leb 1 p))
window p (suc (suc (suc zero))) b c d e q rs hm h2 h3 h4 = unit_no 3 p b c d e q h3 ∙ sym (none (leb 4 p) (leb 1 p))
window p (suc (suc (suc (suc m)))) b c d e q rs hm h2 h3 h4 =
    unit_more p (suc (suc (suc (suc m)))) b c d e q (omega arith) h4
    ∙ sym (rw (ne_eqb (suc (suc (suc (suc m)))) 1 (λ z. omega arith)) (none (leb 4 p) (leb 1 p)))

few : (rs : List ℕ) → length rs < 7 → cores rs ≡ windows 4 unit 1 rs + windows 1 unit 4 rs
few rs h = omega (arith, cores_few rs h, windows_few 4 unit 1 rs (omega arith), windows_few 1 unit 4 rs (omega arith))

small : (rs : List ℕ) → Runs rs → windows 2 double 2 rs ≡ 0 → windows 3 triple 3 rs ≡ 0 → windows 4 [] 12 rs ≡ 0
    → cores rs ≡ windows 4 unit 1 rs + windows 1 unit 4 rs
unfolding windows Runs
small [] w h2 h3 h4 = few [] (omega arith)
small (p ∷ []) w h2 h3 h4 = few (p ∷ []) (omega arith)
small (p ∷ m ∷ []) w h2 h3 h4 = few (p ∷ m ∷ []) (omega arith)
small (p ∷ m ∷ b ∷ []) w h2 h3 h4 = few (p ∷ m ∷ b ∷ []) (omega arith)
small (p ∷ m ∷ b ∷ c ∷ []) w h2 h3 h4 = few (p ∷ m ∷ b ∷ c ∷ []) (omega arith)
small (p ∷ m ∷ b ∷ c ∷ d ∷ []) w h2 h3 h4 = few (p ∷ m ∷ b ∷ c ∷ d ∷ []) (omega arith)
small (p ∷ m ∷ b ∷ c ∷ d ∷ e ∷ []) w h2 h3 h4 = few (p ∷ m ∷ b ∷ c ∷ d ∷ e ∷ []) (omega arith)
small (p ∷ m ∷ b ∷ c ∷ d ∷ e ∷ q ∷ rs) w h2 h3 h4 =
    cores_more p m b c d e q rs
    ∙ omega (
      arith,
      window p m b c d e q rs w.1.0 (omega arith) (omega arith) (omega arith),
      small (b ∷ c ∷ d ∷ e ∷ q ∷ rs) w.1.1 (omega arith) (omega arith) (omega arith),
    )

-- ---- a line

abbrev pub before : List ℕ
before = 0 ∷ 0 ∷ 0 ∷ 0 ∷ 1 ∷ 0 ∷ 1 ∷ 1 ∷ 1 ∷ 0 ∷ 1 ∷ 0 ∷ []

abbrev pub behind : List ℕ
behind = 0 ∷ 1 ∷ 0 ∷ 1 ∷ 1 ∷ 1 ∷ 0 ∷ 1 ∷ 0 ∷ 0 ∷ 0 ∷ 0 ∷ []

-- wherever a core has a unit of two modules, of three, or of more
abbrev pub pairs : List ℕ
pairs = 0 ∷ 0 ∷ 1 ∷ 1 ∷ 0 ∷ 0 ∷ 1 ∷ 1 ∷ 1 ∷ 1 ∷ 1 ∷ 1 ∷ 0 ∷ 0 ∷ 1 ∷ 1 ∷ 0 ∷ 0 ∷ []

abbrev pub triples : List ℕ
triples = 0 ∷ 0 ∷ 0 ∷ 1 ∷ 1 ∷ 1 ∷ 0 ∷ 0 ∷ 0 ∷ 1 ∷ 1 ∷ 1 ∷ 1 ∷ 1 ∷ 1 ∷ 1 ∷ 1 ∷ 1 ∷ 0 ∷ 0 ∷ 0 ∷ 1 ∷ 1 ∷ 1 ∷ 0 ∷ 0 ∷ 0 ∷ []

abbrev pub larger : List ℕ
larger = 0 ∷ 0 ∷ 0 ∷ 0 ∷ 1 ∷ 1 ∷ 1 ∷ 1 ∷ 1 ∷ 1 ∷ 1 ∷ 1 ∷ 1 ∷ 1 ∷ 1 ∷ 1 ∷ []

zeros_modules : (n : ℕ) (xs : List ℕ) → Modules xs → Modules (replicate n 0 ++ xs)
unfolding Modules
zeros_modules zero xs h = h
zeros_modules (suc n) xs h = (omega arith, zeros_modules n xs h)

modules_zeros : (xs : List ℕ) (n : ℕ) → Modules xs → Modules (xs ++ replicate n 0)
unfolding Modules
modules_zeros [] zero h = tt
modules_zeros [] (suc n) h = (omega arith, modules_zeros [] n tt)
modules_zeros (x ∷ xs) n h = (h.0, modules_zeros xs n h.1)

pub four_modules : (xs : List ℕ) → Modules xs → Modules (replicate 4 0 ++ xs ++ replicate 4 0)
four_modules xs h = modules_zeros (replicate 4 0 ++ xs) 4 (zeros_modules 4 xs h)

module _ (s : ℕ) (xs : List ℕ) (h : Modules xs) (hs : 4 ≤ s) where
  rs : List ℕ
  rs = runs (bordered s xs)

  line : lay 0 rs ≡ replicate s 0 ++ xs ++ replicate s 0
  unfolding rs runs bordered
  line = lay_runs (bordered s xs) 0 0 (modules_zeros (replicate s 0 ++ xs) s (zeros_modules s xs h)) (omega arith)

  positive : Runs rs
  unfolding rs runs bordered
  positive =
      subst Runs (sym (zeros_run s 0 (xs ++ replicate s 0)) ∙ ap (runs_from 0 0) (sym (append_assoc (replicate s 0) xs (replicate s 0))))
      (runs_positive (xs ++ replicate s 0) 0 (0 + s) (omega arith))

  -- the places of a pattern: k + 1 light modules, runs of the lengths ks, and l more
  places : (k : ℕ) (ks : List ℕ) (l : ℕ) (qs ps : List ℕ) (m : ℕ) → Runs ks → 0 < l → shape 1 ks l ≡ 1 ∷ qs
      → replicate (suc k) 0 ++ (1 ∷ qs) ≡ ps ++ (1 ∷ replicate m 0) → suc k ≤ 4 → m ≤ 4
      → windows (suc k) ks l rs ≡ hits (replicate (suc k) 0 ++ (1 ∷ qs)) (replicate 4 0 ++ xs ++ replicate 4 0)
  places k ks l qs ps m w hl e f hk hm =
      sym (hits_windows k ks l rs w hl positive) ∙ ap₂ (λ (a b : List ℕ). hits (replicate (suc k) 0 ++ a) b) e line
      ∙ borders (suc k) qs ps xs m s s f hk hm hs hs

  pub few_cores : hits pairs (replicate 4 0 ++ xs ++ replicate 4 0) ≡ 0 → hits triples (replicate 4 0 ++ xs ++ replicate 4 0) ≡ 0 → hits larger (replicate 4 0 ++ xs ++ replicate 4 0) ≡ 0
      → cores (runs (bordered s xs)) ≡ hits before (replicate 4 0 ++ xs ++ replicate 4 0) + hits behind (replicate 4 0 ++ xs ++ replicate 4 0)
  unfolding shape Runs rs
  few_cores h2 h3 h4 =
      small rs positive
      (places 1 double 2 (1 ∷ 0 ∷ 0 ∷ 1 ∷ 1 ∷ 1 ∷ 1 ∷ 1 ∷ 1 ∷ 0 ∷ 0 ∷ 1 ∷ 1 ∷ 0 ∷ 0 ∷ []) (0 ∷ 0 ∷ 1 ∷ 1 ∷ 0 ∷ 0 ∷ 1 ∷ 1 ∷ 1 ∷ 1 ∷ 1 ∷ 1 ∷ 0 ∷ 0 ∷ 1 ∷ []) 2 doubled (lit< tt) refl refl (lit≤ tt) (lit≤ tt) ∙ h2)
      (places 2 triple 3 (1 ∷ 1 ∷ 0 ∷ 0 ∷ 0 ∷ 1 ∷ 1 ∷ 1 ∷ 1 ∷ 1 ∷ 1 ∷ 1 ∷ 1 ∷ 1 ∷ 0 ∷ 0 ∷ 0 ∷ 1 ∷ 1 ∷ 1 ∷ 0 ∷ 0 ∷ 0 ∷ []) (0 ∷ 0 ∷ 0 ∷ 1 ∷ 1 ∷ 1 ∷ 0 ∷ 0 ∷ 0 ∷ 1 ∷ 1 ∷ 1 ∷ 1 ∷ 1 ∷ 1 ∷ 1 ∷ 1 ∷ 1 ∷ 0 ∷ 0 ∷ 0 ∷ 1 ∷ 1 ∷ []) 3 tripled (lit< tt) refl refl (lit≤ tt) (lit≤ tt) ∙ h3)
      (places 3 [] 12 (1 ∷ 1 ∷ 1 ∷ 1 ∷ 1 ∷ 1 ∷ 1 ∷ 1 ∷ 1 ∷ 1 ∷ 1 ∷ []) (0 ∷ 0 ∷ 0 ∷ 0 ∷ 1 ∷ 1 ∷ 1 ∷ 1 ∷ 1 ∷ 1 ∷ 1 ∷ 1 ∷ 1 ∷ 1 ∷ 1 ∷ []) 0 tt (lit< tt) refl refl (lit≤ tt) (lit≤ tt) ∙ h4)
      ∙ ap₂ (λ (a b : ℕ). a + b)
      (places 3 unit 1 (0 ∷ 1 ∷ 1 ∷ 1 ∷ 0 ∷ 1 ∷ 0 ∷ []) (0 ∷ 0 ∷ 0 ∷ 0 ∷ 1 ∷ 0 ∷ 1 ∷ 1 ∷ 1 ∷ 0 ∷ []) 1 five_runs (lit< tt) refl refl (lit≤ tt) (lit≤ tt))
      (places 0 unit 4 (0 ∷ 1 ∷ 1 ∷ 1 ∷ 0 ∷ 1 ∷ 0 ∷ 0 ∷ 0 ∷ 0 ∷ []) (0 ∷ 1 ∷ 0 ∷ 1 ∷ 1 ∷ 1 ∷ 0 ∷ []) 4 five_runs (lit< tt) refl refl (lit≤ tt) (lit≤ tt))
    where
      five_runs : Runs unit
      five_runs = (lit< tt, (lit< tt, (lit< tt, (lit< tt, (lit< tt, tt)))))

      doubled : Runs double
      doubled = (lit< tt, (lit< tt, (lit< tt, (lit< tt, (lit< tt, tt)))))

      tripled : Runs triple
      tripled = (lit< tt, (lit< tt, (lit< tt, (lit< tt, (lit< tt, tt)))))
