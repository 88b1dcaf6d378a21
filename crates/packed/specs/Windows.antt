-- The places of a pattern in a line, from the line's runs.
-- Assumes nothing.
use Rattle.std.specs.Prelude.{◌≡◌, refl, List, [], ◌∷◌, ◌++◌, Bool, true, false, ◌&&◌, ℕ, zero, suc, ◌+◌, ◌≤◌, ◌<◌, eqb, leb, replicate}
use Rattle.std.proofs.Common.{sym, ap, ap₂, ◌∙◌, append_assoc, le_of_suc-le-suc, eq-or-lt_of_le, ⊎_elim, arith, eqb-true, eq-eqb, le-leb, leb-true, leb-false}
use Rattle.std.proofs.Math.Dec.{leb-zero, leb-suc-zero, leb-suc-suc, eqb-zero-suc, eqb-suc-zero, eqb-suc-suc}
use Rattle.std.proofs.lemmas.Bool.{eqb-false, lt-leb}
use Rattle.standard.specs.Numbers.{one}
use Rattle.standard.specs.Penalty.{runs_from}
use Rattle.laws.specs.Tests.{and_no}
use Rattle.penalty.specs.Scan.{Modules}
use Rattle.packed.specs.Runs.{grown}
use Rattle.packed.specs.Marks.{pre, hits}

abbrev pub other : ℕ → ℕ
other zero = 1
other (suc c) = 0

-- the line of some runs, the first of colour c
unfoldable pub lay : ℕ → List ℕ → List ℕ
lay c [] = []
lay c (r ∷ rs) = replicate r c ++ lay (other c) rs

-- each is positive
unfoldable pub Runs : List ℕ → Type 0
Runs [] = Unit
Runs (r ∷ rs) = (0 < r) × Runs rs

-- whole runs of these lengths, the first of colour c, and l more modules
unfoldable pub shape : ℕ → List ℕ → ℕ → List ℕ
shape c [] l = replicate l c
shape c (k ∷ ks) l = replicate k c ++ shape (other c) ks l

-- the runs begin with those lengths, and then one of at least l
unfoldable pub fits : List ℕ → ℕ → List ℕ → Bool
fits ks l [] = false
fits [] l (r ∷ rs) = leb l r
fits (k ∷ ks) l (r ∷ rs) = eqb r k && fits ks l rs

-- at how many light runs: at least k light modules, and then a shape that begins dark
unfoldable pub windows : ℕ → List ℕ → ℕ → List ℕ → ℕ
windows k ks l [] = 0
windows k ks l (p ∷ []) = 0
windows k ks l (p ∷ m ∷ rs) = one (leb k p && fits ks l (m ∷ rs)) + windows k ks l rs

-- ---- a run and what follows

run_pre : (c k r : ℕ) (qs ys : List ℕ) → ((zs : List ℕ) → pre qs (c ∷ zs) ≡ false) → ((zs : List ℕ) → pre (c ∷ zs) ys ≡ false)
    → pre (replicate k c ++ qs) (replicate r c ++ ys) ≡ (eqb r k && pre qs ys)
unfolding pre
run_pre c zero zero qs ys hq hy = refl
run_pre c zero (suc r) qs ys hq hy = rw (eqb-suc-zero r) (hq (replicate r c ++ ys))
run_pre c (suc k) zero qs ys hq hy = rw (eqb-zero-suc k) (hy (replicate k c ++ qs))
run_pre c (suc k) (suc r) qs ys hq hy = rw (eq-eqb c c refl, eqb-suc-suc r k) (run_pre c k r qs ys hq hy)

last_pre : (c l r : ℕ) (ys : List ℕ) → ((zs : List ℕ) → pre (c ∷ zs) ys ≡ false) → pre (replicate l c) (replicate r c ++ ys) ≡ leb l r
unfolding pre
last_pre c zero r ys hy = sym (leb-zero r)
last_pre c (suc l) zero ys hy = hy (replicate l c) ∙ sym (leb-suc-zero l)
last_pre c (suc l) (suc r) ys hy = rw (eq-eqb c c refl, leb-suc-suc l r) (last_pre c l r ys hy)

lay_starts : (c : ℕ) (rs zs : List ℕ) → c < 2 → Runs rs → pre (c ∷ zs) (lay (other c) rs) ≡ false
unfolding pre lay Runs
lay_starts c [] zs h p = refl
lay_starts c (zero ∷ rs) zs h p = absurd (omega (arith, p.0))
lay_starts zero (suc r ∷ rs) zs h p = refl
lay_starts (suc zero) (suc r ∷ rs) zs h p = refl
lay_starts (suc (suc c)) (suc r ∷ rs) zs h p = absurd (omega arith)

shape_starts : (c : ℕ) (ks : List ℕ) (l : ℕ) (zs : List ℕ) → c < 2 → Runs ks → 0 < l → pre (shape (other c) ks l) (c ∷ zs) ≡ false
unfolding pre shape Runs
shape_starts c [] zero zs h p q = absurd (omega arith)
shape_starts zero [] (suc l) zs h p q = refl
shape_starts (suc zero) [] (suc l) zs h p q = refl
shape_starts (suc (suc c)) [] (suc l) zs h p q = absurd (omega arith)
shape_starts c (zero ∷ ks) l zs h p q = absurd (omega (arith, p.0))
shape_starts zero (suc k ∷ ks) l zs h p q = refl
shape_starts (suc zero) (suc k ∷ ks) l zs h p q = refl
shape_starts (suc (suc c)) (suc k ∷ ks) l zs h p q = absurd (omega arith)

other_lt : (c : ℕ) → other c < 2
other_lt zero = omega arith
other_lt (suc c) = omega arith

none_left : (l c : ℕ) → 0 < l → pre (replicate l c) [] ≡ false
unfolding pre
none_left zero c h = absurd (omega arith)
none_left (suc l) c h = refl

none_here : (k c : ℕ) (qs : List ℕ) → 0 < k → pre (replicate k c ++ qs) [] ≡ false
unfolding pre
none_here zero c qs h = absurd (omega arith)
none_here (suc k) c qs h = refl

shape_fits : (c : ℕ) (ks : List ℕ) (l : ℕ) (rs : List ℕ) → c < 2 → Runs ks → 0 < l → Runs rs → pre (shape c ks l) (lay c rs) ≡ fits ks l rs
unfolding shape lay fits Runs
shape_fits c [] l [] h p q w = none_left l c q
shape_fits c [] l (r ∷ rs) h p q w = last_pre c l r (lay (other c) rs) (λ zs. lay_starts c rs zs h w.1)
shape_fits c (k ∷ ks) l [] h p q w = none_here k c (shape (other c) ks l) p.0
shape_fits c (k ∷ ks) l (r ∷ rs) h p q w =
    run_pre c k r (shape (other c) ks l) (lay (other c) rs) (λ zs. shape_starts c ks l zs h p.1 q) (λ zs. lay_starts c rs zs h w.1)
    ∙ ap (λ (b : Bool). eqb r k && b) (shape_fits (other c) ks l rs (other_lt c) p.1 q w.1)

-- ---- the places in a light run, and in a dark one

more : (k r : ℕ) (b : Bool) → one (eqb (suc r) k && b) + one (leb k r && b) ≡ one (leb k (suc r) && b)
more k r b = go (leb k r) refl (eqb (suc r) k) refl
  where
    go : (x : Bool) → leb k r ≡ x → (y : Bool) → eqb (suc r) k ≡ y → one (y && b) + one (x && b) ≡ one (leb k (suc r) && b)
    go true e true f = absurd (omega (arith, leb-true k r e, eqb-true (suc r) k f))
    go true e false f = rw (le-leb k (suc r) (omega (arith, leb-true k r e))) (omega arith)
    go false e true f = rw (le-leb k (suc r) (omega (arith, eqb-true (suc r) k f))) (omega arith)
    go false e false f = rw (lt-leb k (suc r) (lt (leb-false k r e) (eqb-false (suc r) k f))) refl
      where
        lt : r < k → (suc r ≡ k → ⊥) → suc r < k
        lt h n = omega arith

light_block : (k r : ℕ) (qs ys : List ℕ) → ((zs : List ℕ) → pre qs (0 ∷ zs) ≡ false) → ((zs : List ℕ) → pre (0 ∷ zs) ys ≡ false)
    → hits (replicate (suc k) 0 ++ qs) (replicate r 0 ++ ys) ≡ one (leb (suc k) r && pre qs ys) + hits (replicate (suc k) 0 ++ qs) ys
unfolding hits
light_block k zero qs ys hq hy = rw (leb-suc-zero k) (omega arith)
light_block k (suc r) qs ys hq hy =
    rw (run_pre 0 (suc k) (suc r) qs ys hq hy, light_block k r qs ys hq hy) (omega (arith, more (suc k) r (pre qs ys)))

dark_block : (k r : ℕ) (qs ys : List ℕ) → hits (replicate (suc k) 0 ++ qs) (replicate r 1 ++ ys) ≡ hits (replicate (suc k) 0 ++ qs) ys
unfolding hits pre
dark_block k zero qs ys = refl
dark_block k (suc r) qs ys = omega (arith, dark_block k r qs ys)

fits_nil : (ks : List ℕ) (l : ℕ) → fits ks l [] ≡ false
unfolding fits
fits_nil [] l = refl
fits_nil (k ∷ ks) l = refl

pub hits_windows : (k : ℕ) (ks : List ℕ) (l : ℕ) (rs : List ℕ) → Runs ks → 0 < l → Runs rs
    → hits (replicate (suc k) 0 ++ shape 1 ks l) (lay 0 rs) ≡ windows (suc k) ks l rs
unfolding windows Runs lay hits
hits_windows k ks l [] p q w = refl
hits_windows k ks l (r ∷ []) p q w =
    light_block k r (shape 1 ks l) [] (λ zs. shape_starts 0 ks l zs (omega arith) p q) (λ zs. lay_starts 0 [] zs (omega arith) tt)
    ∙ rw (shape_fits 1 ks l [] (omega arith) p q tt) (none (leb (suc k) r) (fits ks l []) (fits_nil ks l))
  where
    none : (a b : Bool) → b ≡ false → one (a && b) + 0 ≡ 0
    none true b e = rw e refl
    none false b e = refl
hits_windows k ks l (r ∷ m ∷ rs) p q w =
    light_block k r (shape 1 ks l) (lay 1 (m ∷ rs)) (λ zs. shape_starts 0 ks l zs (omega arith) p q)
    (λ zs. lay_starts 0 (m ∷ rs) zs (omega arith) w.1)
    ∙ ap₂ (λ (b : Bool) (n : ℕ). one (leb (suc k) r && b) + n) (shape_fits 1 ks l (m ∷ rs) (omega arith) p q w.1)
    (dark_block k m (shape 1 ks l) (lay 0 rs) ∙ hits_windows k ks l rs p q w.1.1)

-- ---- the runs of a line give the line

pub lay_runs : (xs : List ℕ) (c n : ℕ) → Modules xs → c < 2 → lay c (runs_from c n xs) ≡ replicate n c ++ xs
unfolding lay runs_from Modules
lay_runs [] c n h hc = refl
lay_runs (x ∷ xs) c n h hc = go (eqb x c) refl (lay_runs xs c (suc n) h.1 hc) (lay_runs xs x 1 h.1 h.0)
  where
    turn : (x c : ℕ) → x < 2 → c < 2 → (x ≡ c → ⊥) → other c ≡ x
    turn zero zero hx hc ne = absurd (ne refl)
    turn zero (suc c) hx hc ne = refl
    turn (suc zero) zero hx hc ne = refl
    turn (suc zero) (suc zero) hx hc ne = absurd (ne refl)
    turn (suc zero) (suc (suc c)) hx hc ne = absurd (omega arith)
    turn (suc (suc x)) c hx hc ne = absurd (omega arith)

    go : (b : Bool) → eqb x c ≡ b → lay c (runs_from c (suc n) xs) ≡ replicate (suc n) c ++ xs → lay x (runs_from x 1 xs) ≡ x ∷ xs
        → lay c (elim b [ true ↦ runs_from c (suc n) xs | false ↦ n ∷ runs_from x 1 xs ]) ≡ replicate n c ++ (x ∷ xs)
    go true e same new = same ∙ sym (rw (eqb-true x c e) (grown n c xs))
    go false e same new = ap (λ (l : List ℕ). replicate n c ++ l) (ap (λ (d : ℕ). lay d (runs_from x 1 xs)) (turn x c h.0 hc (eqb-false x c e)) ∙ new)

pub runs_positive : (xs : List ℕ) (c n : ℕ) → 0 < n → Runs (runs_from c n xs)
unfolding runs_from Runs
runs_positive [] c n h = (h, tt)
runs_positive (x ∷ xs) c n h = go (eqb x c) (runs_positive xs c (suc n) (omega arith)) (runs_positive xs x 1 (omega arith))
  where
    go : (b : Bool) → Runs (runs_from c (suc n) xs) → Runs (runs_from x 1 xs) → Runs (elim b [ true ↦ runs_from c (suc n) xs | false ↦ n ∷ runs_from x 1 xs ])
    go true p q = p
    go false p q = (h, q)

-- ---- how wide the border is does not matter, if it is as wide as the pattern asks

too_many : (k n : ℕ) (qs ys : List ℕ) → k < n → pre (replicate k 0 ++ (1 ∷ qs)) (replicate n 0 ++ ys) ≡ false
unfolding pre
too_many zero zero qs ys h = absurd (omega arith)
too_many zero (suc n) qs ys h = refl
too_many (suc k) zero qs ys h = absurd (omega arith)
too_many (suc k) (suc n) qs ys h = too_many k n qs ys (le_of_suc-le-suc h)

border_left : (k n : ℕ) (qs ys : List ℕ) → k ≤ n → hits (replicate k 0 ++ (1 ∷ qs)) (replicate n 0 ++ ys) ≡ hits (replicate k 0 ++ (1 ∷ qs)) (replicate k 0 ++ ys)
unfolding hits
border_left zero zero qs ys h = refl
border_left (suc k) zero qs ys h = absurd (omega arith)
border_left k (suc n) qs ys h =
    ⊎_elim (λ (e : k ≡ suc n). ap (λ (m : ℕ). hits (replicate k 0 ++ (1 ∷ qs)) (replicate m 0 ++ ys)) (sym e))
    (λ (l : k < suc n). rw (too_many k (suc n) qs ys l) (omega (arith, border_left k n qs ys (le_of_suc-le-suc l)))) (eq-or-lt_of_le h)

has_one : (rs zs : List ℕ) (b : ℕ) → pre (rs ++ (1 ∷ zs)) (replicate b 0) ≡ false
unfolding pre
has_one [] zs zero = refl
has_one [] zs (suc b) = refl
has_one (r ∷ rs) zs zero = refl
has_one (r ∷ rs) zs (suc b) = and_no (eqb 0 r) (pre (rs ++ (1 ∷ zs)) (replicate b 0)) (has_one rs zs b)

zeros_pre : (l a : ℕ) → l ≤ a → pre (replicate l 0) (replicate a 0) ≡ true
unfolding pre
zeros_pre zero a h = refl
zeros_pre (suc l) zero h = absurd (omega arith)
zeros_pre (suc l) (suc a) h = zeros_pre l a (le_of_suc-le-suc h)

zeros_tail : (l : ℕ) (xs : List ℕ) (a b : ℕ) → l ≤ a → l ≤ b → pre (replicate l 0) (xs ++ replicate a 0) ≡ pre (replicate l 0) (xs ++ replicate b 0)
unfolding pre
zeros_tail zero xs a b h k = refl
zeros_tail (suc l) [] a b h k = zeros_pre (suc l) a h ∙ sym (zeros_pre (suc l) b k)
zeros_tail (suc l) (x ∷ xs) a b h k = ap (λ (t : Bool). eqb x 0 && t) (zeros_tail l xs a b (omega arith) (omega arith))

tail_pre : (rs xs : List ℕ) (l a b : ℕ) → l ≤ a → l ≤ b
    → pre (rs ++ (1 ∷ replicate l 0)) (xs ++ replicate a 0) ≡ pre (rs ++ (1 ∷ replicate l 0)) (xs ++ replicate b 0)
unfolding pre
tail_pre rs [] l a b h k = has_one rs (replicate l 0) a ∙ sym (has_one rs (replicate l 0) b)
tail_pre [] (x ∷ xs) l a b h k = ap (λ (t : Bool). eqb x 1 && t) (zeros_tail l xs a b h k)
tail_pre (r ∷ rs) (x ∷ xs) l a b h k = ap (λ (t : Bool). eqb x r && t) (tail_pre rs xs l a b h k)

zeros_hits : (rs zs : List ℕ) (a : ℕ) → hits (rs ++ (1 ∷ zs)) (replicate a 0) ≡ 0
unfolding hits
zeros_hits rs zs zero = refl
zeros_hits rs zs (suc a) = rw (has_one rs zs (suc a)) (omega (arith, zeros_hits rs zs a))

border_right : (rs xs : List ℕ) (l a b : ℕ) → l ≤ a → l ≤ b
    → hits (rs ++ (1 ∷ replicate l 0)) (xs ++ replicate a 0) ≡ hits (rs ++ (1 ∷ replicate l 0)) (xs ++ replicate b 0)
unfolding hits
border_right rs [] l a b h k = zeros_hits rs (replicate l 0) a ∙ sym (zeros_hits rs (replicate l 0) b)
border_right rs (x ∷ xs) l a b h k = ap₂ (λ (t : Bool) (n : ℕ). one t + n) (tail_pre rs (x ∷ xs) l a b h k) (border_right rs xs l a b h k)

-- a pattern that begins with k light modules and ends with l of them, in a line between a and b of them: at least k and l will do
pub borders : (k : ℕ) (qs rs xs : List ℕ) (l a b : ℕ) → replicate k 0 ++ (1 ∷ qs) ≡ rs ++ (1 ∷ replicate l 0) → k ≤ 4 → l ≤ 4 → 4 ≤ a → 4 ≤ b
    → hits (replicate k 0 ++ (1 ∷ qs)) (replicate a 0 ++ xs ++ replicate b 0) ≡ hits (replicate k 0 ++ (1 ∷ qs)) (replicate 4 0 ++ xs ++ replicate 4 0)
borders k qs rs xs l a b e hk hl ha hb =
    ap (hits (replicate k 0 ++ (1 ∷ qs))) (append_assoc (replicate a 0) xs (replicate b 0))
    ∙ border_left k a qs (xs ++ replicate b 0) (omega arith) ∙ sym (border_left k 4 qs (xs ++ replicate b 0) hk)
    ∙ ap (hits (replicate k 0 ++ (1 ∷ qs))) (sym (append_assoc (replicate 4 0) xs (replicate b 0)))
    ∙ rw e (border_right rs (replicate 4 0 ++ xs) l b 4 (omega arith) hl)
