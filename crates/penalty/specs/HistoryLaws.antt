-- What each return of the functions on a history of runs gives.
-- Assumes nothing.
use Rattle.std.specs.Prelude.{◌≡◌, Bool, ℕ, ◌+◌, ◌≤◌, ◌<◌, eqb}
use Rattle.std.proofs.Math.Path.{ap}
use Rattle.std.proofs.Common.{◌∙◌}
use mathlib.Core.List.{List, ◌∷◌}
use Rattle.std.proofs.Math.Bool.{true, false, cond}
use native.Mathlib.Omega.{arith}
use Rattle.std.proofs.Math.ListN.{get_or}
use borrow.Author.Tests.{eq-eqb, ne_eqb}
use Rattle.penalty.specs.declared.FinderPenalty.{FinderPenalty}
use Rattle.penalty.specs.History.{six, push, patterns, ended, pushed}
use Rattle.penalty.specs.Windows.{is}

-- ---- a push

module _ (p : FinderPenalty) (r n : ℕ) where
  -- the history with n in front
  abbrev pub in_front : FinderPenalty
  in_front = record { qr_size = p.qr_size; run_history = n ∷ six p.run_history }

  pub push_first : get_or p.run_history 0 0 ≡ 0 → n ≡ r + p.qr_size → in_front ≡ pushed p r
  unfolding push
  push_first e q = rw (eq-eqb (get_or p.run_history 0 0) 0 e, q)

  pub push_next : (get_or p.run_history 0 0 ≡ 0 → ⊥) → n ≡ r → in_front ≡ pushed p r
  unfolding push
  push_next e q = rw (ne_eqb (get_or p.run_history 0 0) 0 e, is n (r + 0) (omega arith))

module _ (p q : FinderPenalty) (r : ℕ) (e : q ≡ pushed p r) where
  pub size_kept : q.qr_size ≡ p.qr_size
  size_kept = ap (λ (f : FinderPenalty). f.qr_size) e

  pub runs_pushed : q.run_history ≡ push p.qr_size p.run_history r
  runs_pushed = ap (λ (f : FinderPenalty). f.run_history) e

  pub second_run : get_or q.run_history 1 0 ≡ get_or p.run_history 0 0
  unfolding push
  second_run = ap (λ (h : List ℕ). get_or h 1 0) runs_pushed

  pub newest_le : (b : ℕ) → r + p.qr_size ≤ b → get_or q.run_history 0 0 ≤ b
  unfolding push
  newest_le b l = le (eqb (get_or p.run_history 0 0) 0) (ap (λ (h : List ℕ). get_or h 0 0) runs_pushed)
    where
      le : (t : Bool) → get_or q.run_history 0 0 ≡ r + cond t p.qr_size 0 → get_or q.run_history 0 0 ≤ b
      le true g = omega arith
      le false g = omega arith

-- the bounds that the next call asks for
pub second_fits : (p q : FinderPenalty) (r b : ℕ) → q ≡ pushed p r → get_or p.run_history 0 0 < b → get_or q.run_history 1 0 < b
second_fits p q r b e l = omega (arith, second_run p q r e)

pub newest_fits : (p q : FinderPenalty) (r b : ℕ) → q ≡ pushed p r → r + p.qr_size < b → get_or q.run_history 0 0 < b
newest_fits p q r b e l = omega (arith, newest_le p q r e (r + p.qr_size) (omega arith))

-- ---- the end of a line

pub ended_dark : (p d l : FinderPenalty) (b : Bool) (n r : ℕ) → b ≡ true → d ≡ pushed p n → l ≡ pushed d p.qr_size
    → r ≡ patterns l.run_history → r ≡ ended p.qr_size b n p.run_history
unfolding ended
ended_dark p d l b n r t e f g = rw t (g ∙ ap patterns (rw (f, e)))

pub ended_light : (p l : FinderPenalty) (b : Bool) (n r : ℕ) → b ≡ false → l ≡ pushed p (n + p.qr_size)
    → r ≡ patterns l.run_history → r ≡ ended p.qr_size b n p.run_history
unfolding ended
ended_light p l b n r t e g = rw t (g ∙ ap patterns (rw e))
