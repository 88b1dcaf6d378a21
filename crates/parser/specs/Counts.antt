-- The counting pass: how many records and characters there are, or where the fault is.
-- Assumes nothing.
use Rattle.std.specs.Prelude.{ℕ, suc, ◌+◌, ◌-◌, ◌*◌, ◌^◌, ◌≤◌, ◌<◌, ◌≡◌, refl, List, [], ◌∷◌, length, Result, Ok, Err}
use Rattle.std.proofs.Common.{sym, ap, ap₂, ◌∙◌, subst, arith, lt_of_lt_of_le, pow_mono}
use Rattle.standard.specs.Bits.{unpack}
use Rattle.standard.specs.Segments.{Segment}
use Rattle.laws.specs.Lists.{length_unpack}
use Rattle.bits.specs.Fields.{binary_unpack}
use Rattle.segments.specs.Fit.{count_le}
use Rattle.parser.specs.declared.Fault.{Fault as Faulty}
use Rattle.parser.specs.declared.Counts.{Counts}
use Rattle.parser.specs.Faults.{Ends, fault_at}
use Rattle.parser.specs.Runs.{run_chars}
use Rattle.parser.specs.Steps.{Step, Found, End, Fault, step_at}
use Rattle.parser.specs.Stepped.{found, step_sound, chars_count, WroteStep}
use Rattle.parser.specs.Tail.{tail_at}
use Rattle.parser.specs.Parse.{Parsed, read, bad, more, ended, after, parse_from, parse_step}
use Rattle.parser.specs.Theorems.{parse}

-- the characters of all segments
abbrev pub text_length : List Segment → ℕ
text_length [] = 0
text_length (s ∷ ss) = length s.chars + text_length ss

abbrev pub Counted : Type 0
Counted = Result Counts Faulty

-- so many records and characters
abbrev pub count_of : ℕ → ℕ → Counted
count_of r t = Ok (record { records = r; text = t })

abbrev pub counted : Parsed → Counted
counted (read ss) = count_of (length ss) (text_length ss)
counted (bad b) = fault_at b

-- with r records and t characters before
abbrev pub plus : ℕ → ℕ → Counted → Counted
plus r t (Ok c) = count_of (r + c.records) (t + c.text)
plus r t (Err f) = Err f

plus_zero : (c : Counted) → plus 0 0 c ≡ c
plus_zero (Ok c) =
    let x : 0 + c.records ≡ c.records = omega arith in
    let y : 0 + c.text ≡ c.text = omega arith in
    ap₂ (λ (i j : ℕ). count_of i j) x y
plus_zero (Err f) = refl

plus_more : (r t n : ℕ) (s : Segment) (p : Parsed) → length s.chars ≡ n → plus r t (counted (more s p)) ≡ plus (r + 1) (t + n) (counted p)
plus_more r t n s (read ss) e =
    let x : r + suc (length ss) ≡ r + 1 + length ss = omega arith in
    let y : t + (length s.chars + text_length ss) ≡ t + n + text_length ss = omega arith in
    ap₂ (λ (i j : ℕ). count_of i j) x y
plus_more r t n s (bad b) e = refl

-- ---- what a found segment says
module _ (v : ℕ) (buf : List ℕ) (at : ℕ) (s : Step) (k p n a e : ℕ) (is : s ≡ step_at v (unpack buf) at) (was : s ≡ Found k p n a e) where
  wrote : WroteStep v (unpack buf) at (found (unpack buf) k p n a) e
  wrote = step_sound v (unpack buf) at k p n a e (binary_unpack buf) (sym is ∙ was)

  pub found_low : at < e
  found_low = wrote.low

  pub found_high : e ≤ 8 * length buf
  found_high = subst (λ (j : ℕ). e ≤ j) (length_unpack buf) wrote.high

  pub found_count : length (run_chars k (unpack buf) n p n) ≡ n
  found_count = chars_count v (unpack buf) at k p n a e (binary_unpack buf) (sym is ∙ was)

  pub found_small : n < 65536
  found_small = subst (λ (j : ℕ). j < 65536) found_count (lt_of_lt_of_le wrote.short (pow_mono (count_le v k)))

  pub found_less : 8 * length buf - e < 8 * length buf - at
  found_less = omega (arith, found_low, found_high)

  pub found_records : (r : ℕ) → r ≤ at → r + 1 ≤ e
  found_records r h = omega (arith, found_low)

  pub found_text : (r t : ℕ) → t ≤ r * 65536 → t + n ≤ (r + 1) * 65536
  found_text r t h = omega (arith, found_small)

  pub found_fits : (r t : ℕ) → t ≤ r * 65536 → r ≤ at → at ≤ 8 * length buf → length buf ≤ 4096 → t + n < 2 ^ 64
  found_fits r t h f l b = omega (arith, found_small)

-- ---- the end
pub end_read : (u : List ℕ) (at r t : ℕ) (g : Ends) (e : ℕ) → g ≡ tail_at u at → g ≡ Ok e → count_of r t ≡ plus r t (counted (ended (tail_at u at)))
end_read u at r t g e q h =
    let x : r ≡ r + 0 = omega arith in
    let y : t ≡ t + 0 = omega arith in
    ap₂ (λ (i j : ℕ). count_of i j) x y ∙ ap (λ (z : Ends). plus r t (counted (ended z))) (sym h ∙ q)

pub end_bad : (u : List ℕ) (at r t : ℕ) (g : Ends) (f : Faulty) → g ≡ tail_at u at → g ≡ Err f → Err f ≡ plus r t (counted (ended (tail_at u at)))
end_bad u at r t g f q h = ap (λ (z : Ends). plus r t (counted (ended z))) (sym h ∙ q)

-- ---- the loop
module _ (v : ℕ) (buf : List ℕ) where
  pub count_start : counted (parse v buf) ≡ plus 0 0 (counted (parse_from v (unpack buf) (suc (length (unpack buf)) - 0) 0))
  count_start =
      let x : suc (length (unpack buf)) ≡ suc (length (unpack buf)) - 0 = omega arith in
      ap (λ (j : ℕ). counted (parse_from v (unpack buf) j 0)) x ∙ sym (plus_zero (counted (parse_from v (unpack buf) (suc (length (unpack buf)) - 0) 0)))

  module _ (A : Counted) (at r t : ℕ) (s : Step) (inv : A ≡ plus r t (counted (parse_from v (unpack buf) (suc (length (unpack buf)) - r) at)))
      (is : s ≡ step_at v (unpack buf) at) (few : r ≤ at) (high : at ≤ 8 * length buf) where
    fuel : suc (length (unpack buf)) - r ≡ suc (length (unpack buf) - r)
    fuel = omega (arith, length_unpack buf)

    turned : (z : Step) → s ≡ z → A ≡ plus r t (counted (after v (unpack buf) (length (unpack buf) - r) at z))
    turned z q =
        inv ∙ ap (λ (j : ℕ). plus r t (counted (parse_from v (unpack buf) j at))) fuel
        ∙ ap (λ (x : Parsed). plus r t (counted x)) (parse_step v (unpack buf) (length (unpack buf) - r) at z (sym is ∙ q))

    pub count_next : (k p n a e : ℕ) → s ≡ Found k p n a e → A ≡ plus (r + 1) (t + n) (counted (parse_from v (unpack buf) (suc (length (unpack buf)) - (r + 1)) e))
    count_next k p n a e was =
        let x : length (unpack buf) - r ≡ suc (length (unpack buf)) - (r + 1) = omega arith in
        turned (Found k p n a e) was
        ∙ plus_more r t n (found (unpack buf) k p n a) (parse_from v (unpack buf) (length (unpack buf) - r) e) (found_count v buf at s k p n a e is was)
        ∙ ap (λ (j : ℕ). plus (r + 1) (t + n) (counted (parse_from v (unpack buf) j e))) x

    pub count_end : (x : Counted) → s ≡ End → x ≡ plus r t (counted (ended (tail_at (unpack buf) at))) → x ≡ A
    count_end x was q = q ∙ sym (turned End was)

    pub count_bad : (b : ℕ) → s ≡ Fault b → fault_at b ≡ A
    count_bad b was = sym (turned (Fault b) was)
