-- The scan of a line with a history of its newest seven runs counts the cores of the bordered line.
-- Assumes nothing.
use Rattle.std.specs.Prelude.{◌≡◌, refl, List, [], ◌∷◌, ◌++◌, Bool, true, false, cond, ◌&&◌, ℕ, zero, suc, ◌+◌, ◌*◌, ◌<◌, leb, ltb, eqb, length, get_or, replicate}
use Rattle.std.proofs.Common.{sym, ap, ◌∙◌, subst, append_assoc, not-suc-le-zero, le_of_suc-le-suc, add-zero, add_comm, arith, eqb-true, eq-eqb, ne_eqb, lt-ltb, ltb-true}
use Rattle.std.proofs.lemmas.List.{get_or-replicate}
use Rattle.std.proofs.Math.Seq.{append_snoc}
use Rattle.std.proofs.lemmas.Bool.{eqb-false}
use Rattle.standard.specs.Numbers.{one}
use Rattle.standard.specs.Penalty.{runs_from, runs, core_count, cores, bordered}
use Rattle.laws.specs.Tests.{all4}
use Rattle.laws.specs.Lists.{get_d_tabulate, past}
use Rattle.penalty.specs.History.{six, push, patterns, ended, cores_from}
use Rattle.penalty.specs.Windows.{is, rev, length_rev, dark_run, few_runs, light_run, window}

-- each module is 0 or 1
unfoldable pub Modules : List ℕ → Type 0
Modules [] = Unit
Modules (x ∷ xs) = (x < 2) × Modules xs

-- the history holds the newest seven runs
abbrev pub Kept : List ℕ → List ℕ → Type 0
Kept h back = (k : ℕ) → k < 7 → get_or h k 0 ≡ get_or back k 0

abbrev pub Positive : List ℕ → Type 0
Positive back = (k : ℕ) → k < length back → 0 < get_or back k 0

-- seven runs are five of a core from either end
mirror : (p n b c d e q : ℕ)
    → cond (eqb d e && (eqb c (3 * e) && (eqb b e && eqb n e))) (one (leb (4 * e) q && leb e p) + one (leb (4 * e) p && leb e q)) 0
    ≡ core_count p n b c d e q
unfolding core_count
mirror p n b c d e q = go (eqb d e && (eqb c (3 * e) && (eqb b e && eqb n e))) refl (eqb b n && (eqb c (3 * n) && (eqb d n && eqb e n))) refl
  where
    go : (s : Bool) → (eqb d e && (eqb c (3 * e) && (eqb b e && eqb n e))) ≡ s
        → (t : Bool) → (eqb b n && (eqb c (3 * n) && (eqb d n && eqb e n))) ≡ t
        → cond s (one (leb (4 * e) q && leb e p) + one (leb (4 * e) p && leb e q)) 0
        ≡ cond t (one (leb (4 * n) p && leb n q) + one (leb (4 * n) q && leb n p)) 0
    go true k true l =
        let f = all4 (eqb d e) (eqb c (3 * e)) (eqb b e) (eqb n e) k in
        rw (eqb-true n e f.3) (add_comm (one (leb (4 * e) q && leb e p)) (one (leb (4 * e) p && leb e q)))
    go false k false l = refl
    go true k false l =
        let f = all4 (eqb d e) (eqb c (3 * e)) (eqb b e) (eqb n e) k in
        let ne = eqb-true n e f.3 in let be = eqb-true b e f.2 in let ce = eqb-true c (3 * e) f.1 in let de = eqb-true d e f.0 in
        let z : ◌≡◌ {A = Bool} true false =
        sym (rw (eq-eqb b n (omega arith), eq-eqb c (3 * n) (omega arith), eq-eqb d n (omega arith), eq-eqb e n (omega arith))) ∙ l in cc
    go false k true l =
        let f = all4 (eqb b n) (eqb c (3 * n)) (eqb d n) (eqb e n) l in
        let bn = eqb-true b n f.0 in let cn = eqb-true c (3 * n) f.1 in let dn = eqb-true d n f.2 in let en = eqb-true e n f.3 in
        let z : ◌≡◌ {A = Bool} true false =
        sym (rw (eq-eqb d e (omega arith), eq-eqb c (3 * e) (omega arith), eq-eqb b e (omega arith), eq-eqb n e (omega arith))) ∙ k in cc

patterns_core : (h : List ℕ) → 0 < get_or h 1 0
    → patterns h ≡ core_count (get_or h 6 0) (get_or h 5 0) (get_or h 4 0) (get_or h 3 0) (get_or h 2 0) (get_or h 1 0) (get_or h 0 0)
unfolding patterns
patterns_core h l =
    rw (lt-ltb 0 (get_or h 1 0) l) (mirror (get_or h 6 0) (get_or h 5 0) (get_or h 4 0) (get_or h 3 0) (get_or h 2 0) (get_or h 1 0) (get_or h 0 0))

-- with fewer than seven runs there is no core
patterns_few : (h : List ℕ) → get_or h 5 0 ≡ 0 → patterns h ≡ 0
unfolding patterns
patterns_few h z = go (ltb 0 (get_or h 1 0)) refl (eqb (get_or h 2 0) (get_or h 1 0)) (eqb (get_or h 3 0) (3 * get_or h 1 0)) (eqb (get_or h 4 0) (get_or h 1 0)) (eqb (get_or h 5 0) (get_or h 1 0)) refl
  where
    go : (p : Bool) → ltb 0 (get_or h 1 0) ≡ p → (x y w v : Bool) → eqb (get_or h 5 0) (get_or h 1 0) ≡ v
        → cond (p && (x && (y && (w && v))))
        (one (leb (4 * get_or h 1 0) (get_or h 0 0) && leb (get_or h 1 0) (get_or h 6 0)) + one (leb (4 * get_or h 1 0) (get_or h 6 0) && leb (get_or h 1 0) (get_or h 0 0))) 0 ≡ 0
    go false k x y w v l = refl
    go true k false y w v l = refl
    go true k true false w v l = refl
    go true k true true false v l = refl
    go true k true true true false l = refl
    go true k true true true true l = absurd (omega (arith, ltb-true 0 (get_or h 1 0) k, eqb-true (get_or h 5 0) (get_or h 1 0) l))

-- ---- a push

kept_push : (h back : List ℕ) (r : ℕ) → Kept h back → Kept (r ∷ six h) (r ∷ back)
kept_push h back r k zero l = refl
kept_push h back r k (suc i) l = get_d_tabulate 6 (λ j. get_or h j 0) i 0 (omega arith) ∙ k i (omega arith)

positive_push : (back : List ℕ) (r : ℕ) → 0 < r → Positive back → Positive (r ∷ back)
positive_push back r p q zero l = p
positive_push back r p q (suc i) l = q i (le_of_suc-le-suc l)

-- past the end of a list
light_few : (h back : List ℕ) (r : ℕ) → length back < 5 → Kept h back → cores (rev (r ∷ back)) ≡ cores (rev back) + patterns (r ∷ six h)
unfolding rev
light_few h back r l k =
    few_runs (rev back) r (omega (arith, length_rev back))
    ∙ sym (ap (λ (n : ℕ). cores (rev back) + n)
    (patterns_few (r ∷ six h) (kept_push h back r k 5 (omega arith) ∙ past back 4 (omega arith))) ∙ add-zero (cores (rev back)))

light_seven : (h back : List ℕ) (r m : ℕ) → length back ≡ 2 * m + 6 → Kept h back → Positive back
    → cores (rev (r ∷ back)) ≡ cores (rev back) + patterns (r ∷ six h)
unfolding rev
light_seven h back r m e k q =
    light_run (rev back) r m (omega (arith, length_rev back))
    ∙ ap (λ (n : ℕ). cores (rev back) + n)
    (window (r ∷ back) m (omega arith)
    ∙ sym (patterns_core (r ∷ six h) (subst (λ (n : ℕ). 0 < n) (sym (kept 1 (omega arith))) (q 0 (omega arith)))
    ∙ rw (kept 1 (omega arith), kept 2 (omega arith), kept 3 (omega arith), kept 4 (omega arith), kept 5 (omega arith), kept 6 (omega arith))))
  where
    kept : Kept (r ∷ six h) (r ∷ back)
    kept = kept_push h back r k

-- after a light run: an even number of runs stand before it
light_push : (h back : List ℕ) (r m : ℕ) → length back ≡ 2 * m → Kept h back → Positive back
    → cores (rev (r ∷ back)) ≡ cores (rev back) + patterns (r ∷ six h)
light_push h back r zero e k q = light_few h back r (omega arith) k
light_push h back r (suc zero) e k q = light_few h back r (omega arith) k
light_push h back r (suc (suc zero)) e k q = light_few h back r (omega arith) k
light_push h back r (suc (suc (suc m))) e k q = light_seven h back r m (omega arith) k q

dark_push : (back : List ℕ) (r m : ℕ) → length back ≡ 2 * m + 1 → cores (rev (r ∷ back)) ≡ cores (rev back)
unfolding rev
dark_push back r m e = dark_run (rev back) r m (omega (arith, length_rev back))

-- ---- the whole line

-- how many runs have been pushed where colour c is being passed
abbrev Turn : ℕ → ℕ → Type 0
Turn c l = (m : ℕ) × (l ≡ 2 * m + c)

-- what the border adds to the run that is being passed
abbrev before : ℕ → List ℕ → ℕ
before s [] = s
before s (r ∷ back) = 0

push_border : (s : ℕ) (h back : List ℕ) (r : ℕ) → Kept h back → Positive back → push s h r ≡ (r + before s back) ∷ six h
unfolding push
push_border s h [] r k q = rw (k 0 (omega arith))
push_border s h (b ∷ back) r k q = rw (k 0 (omega arith), ne_eqb b 0 (λ z. omega (arith, q 0 (omega arith))))

pub border_runs : (n m : ℕ) → runs_from 0 n (replicate m 0) ≡ (n + m) ∷ []
unfolding runs_from
border_runs n zero = ap (λ (k : ℕ). k ∷ []) (omega arith)
border_runs n (suc m) = border_runs (suc n) m ∙ ap (λ (k : ℕ). k ∷ []) (omega arith)

rev_more : (back rs : List ℕ) (r : ℕ) → rev back ++ (r ∷ rs) ≡ rev (r ∷ back) ++ rs
unfolding rev
rev_more back rs r = sym (append_snoc (rev back) r rs)

rev_last : (back : List ℕ) (r : ℕ) → rev back ++ (r ∷ []) ≡ rev (r ∷ back)
unfolding rev
rev_last back r = refl

-- the line is over
scan_end : (s c n : ℕ) (h back : List ℕ) → 0 < s → c < 2 → Turn c (length back) → 0 < n + before s back → Kept h back → Positive back
    → cores (rev back) + ended s (eqb c 1) n h ≡ cores (rev back ++ runs_from c (n + before s back) (replicate s 0))
unfolding ended runs_from
scan_end s zero n h back ps hc t pn k q =
    rw (
      border_runs (n + before s back) s,
      rev_last back (n + before s back + s),
      push_border s h back (n + s) k q,
      is (n + s + before s back) (n + before s back + s) (omega arith),
    )
    (sym (light_push h back (n + before s back + s) t.0 (omega (arith, t.1)) k q))
scan_end zero (suc zero) n h back ps hc t pn k q = absurd (omega arith)
scan_end (suc s) (suc zero) n h back ps hc t pn k q =
    rw (
      border_runs 1 s,
      push_border (suc s) h back n k q,
      push_border (suc s) (r ∷ six h) (r ∷ back) (suc s) kept pos,
      rev_more back ((1 + s) ∷ []) r,
      rev_last (r ∷ back) (1 + s),
      is (suc s + 0) (1 + s) (omega arith),
    )
    (sym (light_push (r ∷ six h) (r ∷ back) (1 + s) (t.0 + 1) (omega (arith, t.1)) kept pos
    ∙ ap (λ (x : ℕ). x + patterns ((1 + s) ∷ six (r ∷ six h))) (dark_push back r t.0 t.1)))
  where
    r : ℕ
    r = n + before (suc s) back

    kept : Kept (r ∷ six h) (r ∷ back)
    kept = kept_push h back r k

    pos : Positive (r ∷ back)
    pos = positive_push back r pn q
scan_end s (suc (suc c)) n h back ps hc t pn k q = absurd (omega arith)

-- another colour begins
scan_new : (xs : List ℕ) (s c n x : ℕ) (h back : List ℕ) → c < 2 → x < 2 → (x ≡ c → ⊥) → Turn c (length back) → Kept h back → Positive back
    → (Turn x (length ((n + before s back) ∷ back))
    → cores (rev ((n + before s back) ∷ back)) + cores_from s x 1 ((n + before s back) ∷ six h) xs
    ≡ cores (rev ((n + before s back) ∷ back) ++ runs_from x 1 (xs ++ replicate s 0)))
    → cores (rev back) + (cond (eqb c 0) (patterns (push s h n)) 0 + cores_from s x 1 (push s h n) xs)
    ≡ cores (rev back ++ ((n + before s back) ∷ runs_from x 1 (xs ++ replicate s 0)))
scan_new xs s zero n zero h back hc hx ne t k q ih = absurd (ne refl)
scan_new xs s zero n (suc zero) h back hc hx ne t k q ih =
    rw (push_border s h back n k q, rev_more back (runs_from 1 1 (xs ++ replicate s 0)) (n + before s back))
    (omega (arith, light_push h back (n + before s back) t.0 (omega (arith, t.1)) k q, ih (t.0, omega (arith, t.1))))
scan_new xs s (suc zero) n zero h back hc hx ne t k q ih =
    rw (push_border s h back n k q, rev_more back (runs_from 0 1 (xs ++ replicate s 0)) (n + before s back))
    (omega (arith, dark_push back (n + before s back) t.0 t.1, ih (t.0 + 1, omega (arith, t.1))))
scan_new xs s (suc zero) n (suc zero) h back hc hx ne t k q ih = absurd (ne refl)
scan_new xs s (suc zero) n (suc (suc x)) h back hc hx ne t k q ih = absurd (omega arith)
scan_new xs s zero n (suc (suc x)) h back hc hx ne t k q ih = absurd (omega arith)
scan_new xs s (suc (suc c)) n x h back hc hx ne t k q ih = absurd (omega arith)

from_scan : (xs : List ℕ) (s c n : ℕ) (h back : List ℕ) → Modules xs → 0 < s → c < 2 → Turn c (length back) → 0 < n + before s back → Kept h back → Positive back
    → cores (rev back) + cores_from s c n h xs ≡ cores (rev back ++ runs_from c (n + before s back) (xs ++ replicate s 0))
unfolding cores_from runs_from Modules
from_scan [] s c n h back mo ps hc t pn k q = scan_end s c n h back ps hc t pn k q
from_scan (x ∷ xs) s c n h back mo ps hc t pn k q =
    go (eqb x c) refl
    (from_scan xs s c (suc n) h back mo.1 ps hc t (omega arith) k q ∙ ap (λ (m : ℕ). cores (rev back ++ runs_from c m (xs ++ replicate s 0))) (omega arith))
    (λ u. from_scan xs s x 1 ((n + before s back) ∷ six h) ((n + before s back) ∷ back) mo.1 ps mo.0 u (omega arith)
    (kept_push h back (n + before s back) k) (positive_push back (n + before s back) pn q))
  where
    go : (b : Bool) → eqb x c ≡ b
        → cores (rev back) + cores_from s c (suc n) h xs ≡ cores (rev back ++ runs_from c (suc (n + before s back)) (xs ++ replicate s 0))
        → (Turn x (length ((n + before s back) ∷ back))
        → cores (rev ((n + before s back) ∷ back)) + cores_from s x 1 ((n + before s back) ∷ six h) xs
        ≡ cores (rev ((n + before s back) ∷ back) ++ runs_from x 1 (xs ++ replicate s 0)))
        → cores (rev back)
        + elim b [ true ↦ cores_from s c (suc n) h xs | false ↦ cond (eqb c 0) (patterns (push s h n)) 0 + cores_from s x 1 (push s h n) xs ]
        ≡ cores (rev back
        ++ elim b [ true ↦ runs_from c (suc (n + before s back)) (xs ++ replicate s 0) | false ↦ (n + before s back) ∷ runs_from x 1 (xs ++ replicate s 0) ])
    go true e same new = same
    go false e same new = scan_new xs s c n x h back hc mo.0 (eqb-false x c e) t k q new

pub zeros_run : (s n : ℕ) (ys : List ℕ) → runs_from 0 n (replicate s 0 ++ ys) ≡ runs_from 0 (n + s) ys
unfolding runs_from
zeros_run zero n ys = ap (λ (m : ℕ). runs_from 0 m ys) (omega arith)
zeros_run (suc s) n ys = zeros_run s (suc n) ys ∙ ap (λ (m : ℕ). runs_from 0 m ys) (omega arith)

-- a scan from an empty history counts the cores of the bordered line
pub scan_cores : (s : ℕ) (xs : List ℕ) → Modules xs → 0 < s → cores_from s 0 0 (replicate 7 0) xs ≡ cores (runs (bordered s xs))
unfolding runs bordered rev cores
scan_cores s xs mo ps =
    is (cores_from s 0 0 (replicate 7 0) xs) (0 + cores_from s 0 0 (replicate 7 0) xs) (omega arith)
    ∙ from_scan xs s 0 0 (replicate 7 0) [] mo ps (omega arith) (0, refl) (omega arith) (λ k l. get_or-replicate 7 k 0 0 l) (λ k l. absurd (not-suc-le-zero l))
    ∙ ap cores (sym (zeros_run s 0 (xs ++ replicate s 0)) ∙ ap (runs_from 0 0) (sym (append_assoc (replicate s 0) xs (replicate s 0))))
