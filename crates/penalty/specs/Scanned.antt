-- A line of which i modules have been scanned: what they cost and what is yet to come is what the line costs.
-- Assumes nothing.
use Rattle.std.proofs.Math.Path.{◌≡◌, refl, ap, ap₂}
use Rattle.std.proofs.Common.{sym, ◌∙◌, add-one}
use mathlib.Core.List.{List, [], ◌∷◌, map}
use Rattle.std.specs.Prelude.{Bool, ℕ, suc, ◌+◌, ◌-◌, ◌*◌, ◌≤◌, ◌<◌, eqb, replicate}
use Rattle.std.proofs.Math.Bool.{true, false, cond}
use native.Mathlib.Omega.{arith}
use Rattle.std.proofs.Math.ListN.{get_or}
use borrow.Author.Tests.{eq-eqb, ne_eqb, le-leb, lt-leb}
use Rattle.standard.specs.Numbers.{from, tabulate, sum}
use Rattle.standard.specs.Penalty.{runs_from, runs, run_cost, line_cost}
use Rattle.laws.specs.Lists.{length_tabulate}
use Rattle.penalty.specs.declared.FinderPenalty.{FinderPenalty}
use Rattle.penalty.specs.History.{push, patterns, ended, cores_from, fresh, pushed}
use Rattle.penalty.specs.HistoryLaws.{size_kept, runs_pushed, newest_le}
use Rattle.penalty.specs.Scan.{Modules, scan_cores}
use Rattle.penalty.specs.Bounds.{run_le, line_le}
use Rattle.penalty.specs.Lines.{from_modules}
use Rattle.penalty.specs.Windows.{is}

-- what is yet to come: n modules of colour c have been passed since the last push
unfoldable pub cost_from : ℕ → ℕ → ℕ → List ℕ → List ℕ → ℕ
cost_from s c n h xs = sum (map run_cost (runs_from c n xs)) + 40 * cores_from s c n h xs

module _ (s c n x : ℕ) (h xs : List ℕ) where
  -- the next module has the same colour
  cost_same : x ≡ c → cost_from s c n h (x ∷ xs) ≡ cost_from s c (suc n) h xs
  unfolding cost_from runs_from cores_from
  cost_same e = go (eqb x c) (eq-eqb x c e)
    where
      go : (b : Bool) → b ≡ true
          → sum (map run_cost (elim b [ true ↦ runs_from c (suc n) xs | false ↦ n ∷ runs_from x 1 xs ]))
          + 40 * elim b [ true ↦ cores_from s c (suc n) h xs | false ↦ cond (eqb c 0) (patterns (push s h n)) 0 + cores_from s x 1 (push s h n) xs ]
          ≡ sum (map run_cost (runs_from c (suc n) xs)) + 40 * cores_from s c (suc n) h xs
      go true q = refl
      go false q = let z : ◌≡◌ {A = Bool} false true = q in cc

  -- another colour begins
  cost_other : (x ≡ c → ⊥) → cost_from s c n h (x ∷ xs) ≡ run_cost n + 40 * cond (eqb c 0) (patterns (push s h n)) 0 + cost_from s x 1 (push s h n) xs
  unfolding cost_from runs_from cores_from
  cost_other e = go (eqb x c) (ne_eqb x c e)
    where
      go : (b : Bool) → b ≡ false
          → sum (map run_cost (elim b [ true ↦ runs_from c (suc n) xs | false ↦ n ∷ runs_from x 1 xs ]))
          + 40 * elim b [ true ↦ cores_from s c (suc n) h xs | false ↦ cond (eqb c 0) (patterns (push s h n)) 0 + cores_from s x 1 (push s h n) xs ]
          ≡ run_cost n + 40 * cond (eqb c 0) (patterns (push s h n)) 0 + (sum (map run_cost (runs_from x 1 xs)) + 40 * cores_from s x 1 (push s h n) xs)
      go true q = let z : ◌≡◌ {A = Bool} true false = q in cc
      go false q = omega arith

cost_end : (s c n : ℕ) (h : List ℕ) → cost_from s c n h [] ≡ run_cost n + 40 * ended s (eqb c 1) n h
unfolding cost_from runs_from cores_from
cost_end s c n h = omega arith

cost_all : (s : ℕ) (xs : List ℕ) → Modules xs → 0 < s → cost_from s 0 0 (replicate 7 0) xs ≡ line_cost s xs
unfolding cost_from line_cost runs
cost_all s xs m l = ap (λ (n : ℕ). sum (map run_cost (runs_from 0 0 xs)) + 40 * n) (scan_cores s xs m l)

-- f i is module i; r has been found, p holds the runs
pub record Scanned (s : ℕ) (f : ℕ → ℕ) (i c n r : ℕ) (p : FinderPenalty) : Type 0 where
  pub size : p.qr_size ≡ s
  pub run : n ≤ i
  pub newest : get_or p.run_history 0 0 ≤ 2 * s
  pub rest : r + cost_from s c n p.run_history (from i (s - i) f) ≡ line_cost s (tabulate s f) + run_cost n

next_module : (s i : ℕ) (f : ℕ → ℕ) → i < s → from i (s - i) f ≡ f i ∷ from (i + 1) (s - (i + 1)) f
next_module s i f l =
    ap (λ (n : ℕ). from i n f) (is (s - i) (suc (s - (i + 1))) (omega arith))
    ∙ ap (λ (m : ℕ). f i ∷ from m (s - (i + 1)) f) (sym (add-one i))

module _ (s : ℕ) (f : ℕ → ℕ) where
  pub scan_start : (p : FinderPenalty) → p ≡ fresh s → ((i : ℕ) → f i < 2) → 0 < s → Scanned s f 0 0 0 0 p
  unfolding run_cost
  scan_start p e m l =
      record {
        size = ap (λ (q : FinderPenalty). q.qr_size) e;
        run = omega arith;
        newest = omega (arith, ap (λ (q : FinderPenalty). get_or q.run_history 0 0) e);
        rest =
            is (0 + cost_from s 0 0 p.run_history (from 0 (s - 0) f)) (cost_from s 0 0 p.run_history (from 0 (s - 0) f)) (omega arith)
            ∙ ap₂ (λ (h : List ℕ) (n : ℕ). cost_from s 0 0 h (from 0 n f)) (ap (λ (q : FinderPenalty). q.run_history) e) (is (s - 0) s (omega arith))
            ∙ cost_all s (tabulate s f) (from_modules f m 0 s) l
            ∙ is (line_cost s (tabulate s f)) (line_cost s (tabulate s f) + 0) (omega arith);
      }

  pub scan_same : (i c n r v m g : ℕ) (p : FinderPenalty) → Scanned s f i c n r p → i < s → v ≡ f i → v ≡ c → m ≡ n + 1 → run_cost m ≡ run_cost (m - 1) + g
      → Scanned s f (i + 1) c m (r + g) p
  scan_same i c n r v m g p o l e q u w =
      record {
        size = o.size;
        run = omega (arith, o.run);
        newest = o.newest;
        rest =
            let h = p.run_history in
            let a : cost_from s c n h (from i (s - i) f) ≡ cost_from s c m h (from (i + 1) (s - (i + 1)) f) =
            ap (cost_from s c n h) (next_module s i f l)
            ∙ cost_same s c n (f i) h (from (i + 1) (s - (i + 1)) f) (sym e ∙ q)
            ∙ ap (λ (k : ℕ). cost_from s c k h (from (i + 1) (s - (i + 1)) f)) (is (suc n) m (omega arith)) in
            let b : run_cost (m - 1) ≡ run_cost n = ap run_cost (is (m - 1) n (omega arith)) in
            omega (arith, o.rest);
      }

  pub scan_other : (i c n r v k m : ℕ) (p q : FinderPenalty) → Scanned s f i c n r p → i < s → v ≡ f i → (v ≡ c → ⊥) → q ≡ pushed p n
      → k ≡ cond (eqb c 0) (patterns q.run_history) 0 → m ≡ 1 → Scanned s f (i + 1) v m (r + 40 * k) q
  unfolding run_cost
  scan_other i c n r v k m p q o l e ne t w one-module =
      record {
        size = size_kept p q n t ∙ o.size;
        run = omega arith;
        newest = newest_le p q n t (2 * s) (omega (arith, o.run, o.size));
        rest =
            let h = p.run_history in let xs = from (i + 1) (s - (i + 1)) f in
            let same : q.run_history ≡ push s h n = runs_pushed p q n t ∙ ap (λ (z : ℕ). push z h n) o.size in
            let a : cost_from s c n h (from i (s - i) f) ≡ run_cost n + 40 * k + cost_from s v 1 q.run_history xs =
            ap (cost_from s c n h) (next_module s i f l ∙ ap (λ (z : ℕ). z ∷ xs) (sym e))
            ∙ cost_other s c n v h xs ne
            ∙ rw (← same, ← w) in
            rw one-module (omega (arith, o.rest));
      }

  pub scan_end : (i c n r k : ℕ) (p : FinderPenalty) → Scanned s f i c n r p → s ≤ i → k ≡ ended p.qr_size (eqb c 1) n p.run_history
      → r + 40 * k ≡ line_cost s (tabulate s f)
  scan_end i c n r k p o l e =
      let h = p.run_history in
      let a : cost_from s c n h (from i (s - i) f) ≡ run_cost n + 40 * k =
      ap (λ (z : ℕ). cost_from s c n h (from i z f)) (is (s - i) 0 (omega arith))
      ∙ cost_end s c n h
      ∙ ap (λ (z : ℕ). run_cost n + 40 * z) (ap (λ (z : ℕ). ended z (eqb c 1) n h) (sym o.size) ∙ sym e) in
      omega (arith, o.rest)

  pub scan_le : (i c n r : ℕ) (p : FinderPenalty) → Scanned s f i c n r p → i ≤ s → s ≤ 177 → r ≤ 7137
  scan_le i c n r p o h l = omega (arith, o.rest, o.run, run_le n, line_le s (tabulate s f) (length_tabulate s f) l)

  pub line_in_range : (r : ℕ) → r ≡ line_cost s (tabulate s f) → s ≤ 177 → r ≤ 6960
  line_in_range r e l = omega (arith, line_le s (tabulate s f) (length_tabulate s f) l)

-- ---- a run grows to n modules

module _ (n : ℕ) where
  pub grown_five : n ≡ 5 → run_cost n ≡ run_cost (n - 1) + 3
  unfolding run_cost
  grown_five e = rw e

  pub grown_more : 5 < n → run_cost n ≡ run_cost (n - 1) + 1
  unfolding run_cost
  grown_more l = rw (le-leb 5 n (omega arith), le-leb 5 (n - 1) (omega arith)) (omega arith)

  pub grown_few : (n ≡ 5 → ⊥) → n ≤ 5 → run_cost n ≡ run_cost (n - 1) + 0
  unfolding run_cost
  grown_few e l = rw (lt-leb 5 n (omega arith), lt-leb 5 (n - 1) (omega arith))
