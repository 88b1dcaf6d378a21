-- Laws that the proof of the loop over groups cites: one for each return and for the turn.
-- Assumes nothing.
use Rattle.std.specs.Prelude.{ℕ, zero, suc, ◌+◌, ◌-◌, ◌*◌, ◌/◌, ◌%◌, ◌^◌, ◌≤◌, ◌<◌, true, false, ◌≡◌, refl, List, leb, ltb, length, Ok, Err}
use Rattle.std.proofs.Common.{sym, ap, ap₂, ◌∙◌, subst, arith, lt-ltb, le-ltb, le-leb, leb-true, mod-lt, add-one}
use Rattle.std.proofs.Math.Nat.{pow-zero, mul-suc}
use Rattle.std.proofs.lemmas.Bool.{leb-false}
use Rattle.std.proofs.lemmas.Bool.{lt-leb}
use Rattle.standard.specs.Bits.{value_from, unpack}
use Rattle.laws.specs.Lists.{length_unpack}
use Rattle.bits.specs.Fields.{field}
use Rattle.segments.specs.Kinds.{size, base, width}
use Rattle.segments.specs.Runs.{part, size_pos, part_pos, part_less}
use Rattle.laws.specs.Tests.{split}
use Rattle.parser.specs.declared.Fault.{Fault}
use Rattle.parser.specs.Faults.{Ends, fault_at, field_in, field_err, field_ok}
use Rattle.parser.specs.Runs.{run_end, run_end_room, run_end_short, run_end_large}

-- more fuel than characters changes nothing
pub run_fuel : (k : ℕ) (u : List ℕ) (f g at n : ℕ) → n ≤ f → n ≤ g → run_end k u f at n ≡ run_end k u g at n
unfolding run_end
run_fuel k u zero zero at n hf hg = refl
run_fuel k u zero (suc g) at zero hf hg = refl
run_fuel k u zero (suc g) at (suc n) hf hg = absurd (omega arith)
run_fuel k u (suc f) zero at zero hf hg = refl
run_fuel k u (suc f) zero at (suc n) hf hg = absurd (omega arith)
run_fuel k u (suc f) (suc g) at zero hf hg = refl
run_fuel k u (suc f) (suc g) at (suc n) hf hg =
    ap (λ (r : Ends). elim (leb (at + width k (part k (suc n))) (length u)) as (λ _. Ends) [ true ↦ elim (ltb (field u at (width k (part k (suc n)))) (base k ^ part k (suc n))) as (λ _. Ends) [ true ↦ r | false ↦ fault_at at ] | false ↦ fault_at at ])
    (run_fuel k u f g (at + width k (part k (suc n))) (suc n - part k (suc n)) (part_less k n f hf) (part_less k n g hg))

module _ (k : ℕ) (u : List ℕ) where
  turn : (p n : ℕ) → 0 < n → p + width k (part k n) ≤ length u → field u p (width k (part k n)) < base k ^ part k n
      → run_end k u n p n ≡ run_end k u (n - part k n) (p + width k (part k n)) (n - part k n)
  turn p zero h r s = absurd (omega arith)
  turn p (suc n) h r s =
      run_end_room k u n p n (le-leb (p + width k (part k (suc n))) (length u) r) (lt-ltb (field u p (width k (part k (suc n)))) (base k ^ part k (suc n)) s)
      ∙ run_fuel k u n (suc n - part k (suc n)) (p + width k (part k (suc n))) (suc n - part k (suc n)) (omega (arith, part_pos k n)) (omega arith)

  short : (p n : ℕ) → 0 < n → length u < p + width k (part k n) → run_end k u n p n ≡ fault_at p
  short p zero h r = absurd (omega arith)
  short p (suc n) h r = run_end_short k u n p n (lt-leb (p + width k (part k (suc n))) (length u) r)

  large : (p n : ℕ) → 0 < n → p + width k (part k n) ≤ length u → base k ^ part k n ≤ field u p (width k (part k n)) → run_end k u n p n ≡ fault_at p
  large p zero h r s = absurd (omega arith)
  large p (suc n) h r s =
      run_end_large k u n p n (le-leb (p + width k (part k (suc n))) (length u) r) (le-ltb (field u p (width k (part k (suc n)))) (base k ^ part k (suc n)) s)

-- the same with what the callees gave
module _ (k : ℕ) (buf : List ℕ) (A : Ends) (p n m w : ℕ) (inv : A ≡ run_end k (unpack buf) n p n) (em : m ≡ part k n) (ew : w ≡ width k m) (pos : 0 < n) where
  wide : w ≡ width k (part k n)
  wide = ew ∙ ap (width k) em

  pub run_short : length buf * 8 < p + w → fault_at p ≡ A
  run_short r =
      let l : length (unpack buf) < p + w = omega (arith, length_unpack buf) in
      sym (inv ∙ short k (unpack buf) p n pos (subst (λ (j : ℕ). length (unpack buf) < p + j) wide l))

  pub run_large : (x lim : ℕ) → x ≡ field (unpack buf) p w → lim ≡ base k ^ m → p + w ≤ length buf * 8 → lim ≤ x → fault_at p ≡ A
  run_large x lim ex el r s =
      let l : p + w ≤ length (unpack buf) = omega (arith, length_unpack buf) in
      let e : x ≡ field (unpack buf) p (width k (part k n)) = ex ∙ ap (field (unpack buf) p) wide in
      let f : lim ≡ base k ^ part k n = el ∙ ap (λ (j : ℕ). base k ^ j) em in
      sym (inv ∙ large k (unpack buf) p n pos (subst (λ (j : ℕ). p + j ≤ length (unpack buf)) wide l) (omega arith))

  pub run_next : (x lim : ℕ) → x ≡ field (unpack buf) p w → lim ≡ base k ^ m → p + w ≤ length buf * 8 → x < lim → A ≡ run_end k (unpack buf) (n - m) (p + w) (n - m)
  run_next x lim ex el r s =
      let l : p + w ≤ length (unpack buf) = omega (arith, length_unpack buf) in
      let e : x ≡ field (unpack buf) p (width k (part k n)) = ex ∙ ap (field (unpack buf) p) wide in
      let f : lim ≡ base k ^ part k n = el ∙ ap (λ (j : ℕ). base k ^ j) em in
      inv ∙ turn k (unpack buf) p n pos (subst (λ (j : ℕ). p + j ≤ length (unpack buf)) wide l) (omega arith)
      ∙ ap₂ (λ (i j : ℕ). run_end k (unpack buf) (n - i) (p + j) (n - i)) (sym em) (sym wide)

pub run_done : (k : ℕ) (buf : List ℕ) (A : Ends) (p n : ℕ) → A ≡ run_end k (unpack buf) n p n → n ≤ 0 → Ok p ≡ A
unfolding run_end
run_done k buf A p zero e h = sym e
run_done k buf A p (suc n) e h = absurd (omega arith)

-- ---- one group, of as many characters as a full one at most

width_zero : (k : ℕ) → width k 0 ≡ 0
width_zero zero = refl
width_zero (suc zero) = refl
width_zero (suc (suc zero)) = refl
width_zero (suc (suc (suc k))) = refl

no_bits : (u : List ℕ) (at : ℕ) → field u at 0 ≡ 0
unfolding value_from
no_bits u at = refl

pub part_own : (k m : ℕ) → m ≤ size k → m ≡ part k m
part_own k m h = omega arith

module _ (k : ℕ) (buf : List ℕ) (at m w : ℕ) (small : m ≤ size k) (ew : w ≡ width k m) (high : at ≤ 8 * length buf) where
  pub none_wide : m < 1 → w ≡ 0
  none_wide h = let z : m ≡ 0 = omega arith in ew ∙ ap (width k) z ∙ width_zero k

  module _ (r : Ends) (is : r ≡ field_in (unpack buf) at w) where
    pub group_cut : (f : Fault) → r ≡ Err f → Err f ≡ run_end k (unpack buf) m at m
    group_cut f was =
        let p = field_err (unpack buf) at w r is f was in
        let less : length buf * 8 < at + w = omega (arith, leb-false (at + w) (length (unpack buf)) p.0, length_unpack buf) in
        ap (λ (x : Fault). Err x) p.1
        ∙ split m 1 (λ h. absurd (omega (arith, none_wide h)))
        (λ h. run_short k buf (run_end k (unpack buf) m at m) at m m w refl (part_own k m small) ew h less)

    module _ (x lim : ℕ) (was : r ≡ Ok x) (el : lim ≡ base k ^ m) where
      pub group_high : at + w ≤ length buf * 8
      group_high = omega (arith, leb-true (at + w) (length (unpack buf)) (field_ok (unpack buf) at w r is x was).0, length_unpack buf)

      pub group_large : lim ≤ x → fault_at at ≡ run_end k (unpack buf) m at m
      group_large s =
          let p = field_ok (unpack buf) at w r is x was in
          split m 1
          (λ h.
          let z : m ≡ 0 = omega arith in
          let one : lim ≡ 1 = el ∙ ap (λ (j : ℕ). base k ^ j) z ∙ pow-zero (base k) in
          let none : x ≡ 0 = p.1 ∙ ap (field (unpack buf) at) (none_wide h) ∙ no_bits (unpack buf) at in
          absurd (omega arith))
          (λ h. run_large k buf (run_end k (unpack buf) m at m) at m m w refl (part_own k m small) ew h x lim p.1 el group_high s)

      pub group_fine : x < lim → Ok (at + w) ≡ run_end k (unpack buf) m at m
      group_fine s =
          let p = field_ok (unpack buf) at w r is x was in
          split m 1
          (λ h.
          let z : at + w ≡ at = omega (arith, none_wide h) in
          ap Ok z ∙ run_done k buf (run_end k (unpack buf) m at m) at m refl (omega arith))
          (λ h.
          run_done k buf (run_end k (unpack buf) m at m) (at + w) (m - m)
          (run_next k buf (run_end k (unpack buf) m at m) at m m w refl (part_own k m small) ew h x lim p.1 el group_high s) (omega arith))

-- ---- a full group of a longer run

pub part_full : (k n m : ℕ) → m ≡ size k → m ≤ n → m ≡ part k n
part_full k n m e h = omega arith

pub full_pos : (k m : ℕ) → m ≡ size k → 0 < m
full_pos k m e = omega (arith, size_pos k)

module _ (k : ℕ) (u : List ℕ) (p n m : ℕ) (em : m ≡ size k) (le : m ≤ n) where
  w : ℕ
  w = width k m

  own : m ≡ part k m
  own = omega arith

  all : m ≡ part k n
  all = omega arith

  -- it ends the run where it is faulty, and else the run goes on after it
  pub full_cases : {P : Type 0} → (run_end k u m p m ≡ fault_at p → run_end k u n p n ≡ fault_at p → P)
      → (p + width k m ≤ length u → run_end k u m p m ≡ Ok (p + width k m) → run_end k u n p n ≡ run_end k u (n - m) (p + width k m) (n - m) → P) → P
  unfolding w run_end
  full_cases {P} cut on =
      let pos : 0 < m = full_pos k m em in
      let many : 0 < n = omega arith in
      split (length u) (p + w)
      (λ s. cut (short k u p m pos (subst (λ (j : ℕ). length u < p + width k j) own s)) (short k u p n many (subst (λ (j : ℕ). length u < p + width k j) all s)))
      (λ r.
      let room1 = subst (λ (j : ℕ). p + width k j ≤ length u) own r in
      let room2 = subst (λ (j : ℕ). p + width k j ≤ length u) all r in
      split (field u p w) (base k ^ m)
      (λ s.
      let z : m - m ≡ 0 = omega arith in
      on r
      (turn k u p m pos room1 (subst (λ (j : ℕ). field u p (width k j) < base k ^ j) own s)
      ∙ ap (λ (i : ℕ). run_end k u (m - i) (p + width k i) (m - i)) (sym own) ∙ ap (λ (i : ℕ). run_end k u i (p + w) i) z)
      (turn k u p n many room2 (subst (λ (j : ℕ). field u p (width k j) < base k ^ j) all s)
      ∙ ap (λ (i : ℕ). run_end k u (n - i) (p + width k i) (n - i)) (sym all)))
      (λ l.
      cut (large k u p m pos room1 (subst (λ (j : ℕ). base k ^ j ≤ field u p (width k j)) own l))
      (large k u p n many room2 (subst (λ (j : ℕ). base k ^ j ≤ field u p (width k j)) all l))))

  pub full_cut : (f : Fault) → run_end k u m p m ≡ Err f → run_end k u n p n ≡ Err f
  full_cut f e = full_cases (λ a b. b ∙ sym a ∙ e) (λ _ a b. let q : ◌≡◌ {A = Ends} (Err f) (Ok (p + width k m)) = sym e ∙ a in cc)

  pub full_next : (end : ℕ) → run_end k u m p m ≡ Ok end → (run_end k u n p n ≡ run_end k u (n - m) end (n - m)) × (end ≤ length u)
  full_next end e =
      full_cases (λ a b. let q : ◌≡◌ {A = Ends} (Ok end) (fault_at p) = sym e ∙ a in cc)
      (λ r a b.
      let q : ◌≡◌ {A = Ends} (Ok (p + width k m)) (Ok end) = sym a ∙ e in
      let i : p + width k m ≡ end = cc in
      (b ∙ ap (λ (j : ℕ). run_end k u (n - m) j (n - m)) i, omega arith))

-- ---- how many are left after i full groups

pub left_start : (m n : ℕ) → n ≡ n - m * 0
left_start m n = omega arith

pub left_full : (k m n i : ℕ) → m ≡ size k → i < n / m → m ≤ n - m * i
left_full zero m n i e h = let d : m ≡ 3 = e in subst (λ (j : ℕ). i < n / j → j ≤ n - j * i) (sym d) (λ q. omega arith) h
left_full (suc zero) m n i e h = let d : m ≡ 2 = e in subst (λ (j : ℕ). i < n / j → j ≤ n - j * i) (sym d) (λ q. omega arith) h
left_full (suc (suc zero)) m n i e h = let d : m ≡ 1 = e in subst (λ (j : ℕ). i < n / j → j ≤ n - j * i) (sym d) (λ q. omega arith) h
left_full (suc (suc (suc k))) m n i e h = let d : m ≡ 1 = e in subst (λ (j : ℕ). i < n / j → j ≤ n - j * i) (sym d) (λ q. omega arith) h

pub left_next : (m n i : ℕ) → n - m * i - m ≡ n - m * (i + 1)
left_next m n i = let e : m * (i + 1) ≡ m * i + m = omega (arith, mul-suc m i, add-one i) in omega arith

pub left_last : (k m n i : ℕ) → m ≡ size k → i ≤ n / m → n / m ≤ i → n - m * i ≡ n % m
left_last zero m n i e h g = let d : m ≡ 3 = e in subst (λ (j : ℕ). i ≤ n / j → n / j ≤ i → n - j * i ≡ n % j) (sym d) (λ q r. omega arith) h g
left_last (suc zero) m n i e h g = let d : m ≡ 2 = e in subst (λ (j : ℕ). i ≤ n / j → n / j ≤ i → n - j * i ≡ n % j) (sym d) (λ q r. omega arith) h g
left_last (suc (suc zero)) m n i e h g = let d : m ≡ 1 = e in subst (λ (j : ℕ). i ≤ n / j → n / j ≤ i → n - j * i ≡ n % j) (sym d) (λ q r. omega arith) h g
left_last (suc (suc (suc k))) m n i e h g = let d : m ≡ 1 = e in subst (λ (j : ℕ). i ≤ n / j → n / j ≤ i → n - j * i ≡ n % j) (sym d) (λ q r. omega arith) h g

pub turns_le : (k m n i : ℕ) → m ≡ size k → i ≤ n / m → m * i ≤ n
turns_le zero m n i e h = let d : m ≡ 3 = e in subst (λ (j : ℕ). i ≤ n / j → j * i ≤ n) (sym d) (λ q. omega arith) h
turns_le (suc zero) m n i e h = let d : m ≡ 2 = e in subst (λ (j : ℕ). i ≤ n / j → j * i ≤ n) (sym d) (λ q. omega arith) h
turns_le (suc (suc zero)) m n i e h = let d : m ≡ 1 = e in subst (λ (j : ℕ). i ≤ n / j → j * i ≤ n) (sym d) (λ q. omega arith) h
turns_le (suc (suc (suc k))) m n i e h = let d : m ≡ 1 = e in subst (λ (j : ℕ). i ≤ n / j → j * i ≤ n) (sym d) (λ q. omega arith) h

pub left_small : (k m n : ℕ) → m ≡ size k → n % m < m
left_small k m n e = mod-lt n (full_pos k m e)

-- ---- the loop over full groups

module _ (k : ℕ) (buf : List ℕ) (n at p m i : ℕ) (em : m ≡ size k)
    (inv : run_end k (unpack buf) n at n ≡ run_end k (unpack buf) (n - m * i) p (n - m * i)) where
  module _ (less : i < n / m) (g : Ends) (is : g ≡ run_end k (unpack buf) m p m) where
    pub runs_cut : (f : Fault) → g ≡ Err f → Err f ≡ run_end k (unpack buf) n at n
    runs_cut f was = sym (inv ∙ full_cut k (unpack buf) p (n - m * i) m em (left_full k m n i em less) f (sym is ∙ was))

    pub runs_next : (e : ℕ) → g ≡ Ok e → run_end k (unpack buf) n at n ≡ run_end k (unpack buf) (n - m * (i + 1)) e (n - m * (i + 1))
    runs_next e was =
        inv ∙ (full_next k (unpack buf) p (n - m * i) m em (left_full k m n i em less) e (sym is ∙ was)).0
        ∙ ap (λ (j : ℕ). run_end k (unpack buf) j e j) (left_next m n i)

    pub runs_high : (e : ℕ) → g ≡ Ok e → e ≤ 8 * length buf
    runs_high e was = omega (arith, (full_next k (unpack buf) p (n - m * i) m em (left_full k m n i em less) e (sym is ∙ was)).1, length_unpack buf)

  pub runs_last : i ≤ n / m → n / m ≤ i → (g : Ends) → g ≡ run_end k (unpack buf) (n % m) p (n % m) → g ≡ run_end k (unpack buf) n at n
  runs_last h l g is = is ∙ sym (inv ∙ ap (λ (j : ℕ). run_end k (unpack buf) j p j) (left_last k m n i em h l))

pub runs_start : (k : ℕ) (buf : List ℕ) (n at m : ℕ) → run_end k (unpack buf) n at n ≡ run_end k (unpack buf) (n - m * 0) at (n - m * 0)
runs_start k buf n at m = ap (λ (j : ℕ). run_end k (unpack buf) j at j) (left_start m n)
